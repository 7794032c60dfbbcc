-- A piece that is given to an end whose events lend: what comes of each answer of the splitter, and what holds of the end
-- then.
--
-- In the place of what is left stands an end with the channels of the definitions, which is alike to it: so what is known of
-- an end that gathers serves here too.
use Rattle.std.proofs.Common.{◌≡◌, ◌≢◌, ◌<◌, ◌≤◌, true, cond, ℕ, List, [], ◌++◌, length, take, Option, Some, None, Result, Ok, Err, IfOk, IsOk, refl, ap, sym, ◌∙◌, subst}
use Rattle.std.proofs.Math.Logic.{∥∥₁_map}
use Rattle.std.proofs.lemmas.Bool.{true≢false, false≢true}
use Rattle.amqp_frame.specs.Frame.{lent as lent_frame}
use Rattle.amqp_frame.specs.Splitter.{Completes, OfGiven, after_advance, after_taking}
use Rattle.amqp_frame.specs.Stream.{Stream}
use Rattle.amqp_frame.specs.declared.faults.FrameFault.{FrameFault}
use Rattle.amqp_frame.specs.declared.splitting.Advanced.{Advanced}
use Rattle.amqp_frame.specs.declared.frames.FrameRef.{FrameRef}
use Rattle.amqp_frame.specs.declared.splitting.Place.{Place}
use Rattle.amqp_frame.specs.declared.splitting.Place.TheVariants as places
use Rattle.amqp_model.specs.End.Bounds.{ChannelIsWithin, FrameStaysWithin, KeepsPart, most_requests}
use Rattle.amqp_model.specs.End.Channels as channels
use Rattle.amqp_model.specs.End.Channels.{Channel, End, Free, Opening, Closing, Failed}
use Rattle.amqp_model.specs.End.EndVerdict.{end_puts, end_verdict, facts_at, takes_octets}
use Rattle.amqp_model.specs.End.Events.{AlreadyClosed, AlreadyFailed, Event, Quiet}
use Rattle.amqp_model.specs.End.Fitting.{IfAgreedFits}
use Rattle.amqp_model.specs.End.Machine.{as_failed, end_after_taken}
use Rattle.amqp_model.specs.Laws.FittingLaws.{AgreedStaysWithin}
use Rattle.amqp_model.specs.Output.Outputs.{after_puts}
use Rattle.amqp_model.specs.History.Negotiation.{Config, frame_limit}
use Rattle.amqp_model.specs.Laws.OctetLaws.{OneIsSaid, IsWhole, event_of_frame, nothing_taken}
use Rattle.amqp_model.specs.Lent.Alike.{AlikeChannels, AlikeEndpoints, AlikeEnds, LentEvent, Other, lent, maybe_telling}
use Rattle.amqp_model.specs.Lent.Streaming.{Streaming, NoContent, AwaitsHeader, AwaitsBody, streamed}
use Rattle.amqp_model.specs.Stream.Endpoint.{Endpoint, Feeding, Outcome, Unfinished, Finished, Found, Begun, Whole, after_feed, after_judged, awaits_opening, holds_octets, outcome_of}
use Rattle.amqp_model.specs.Stream.Pieces.{FeedGivesFrame, FeedHolds, HoldsUnfinished, IsFedBy, reads_frames, with_taken}
use Rattle.amqp_model.specs.Wire.Frame.{Frame}
use Rattle.amqp_model.specs.Wire.Gathering.{Gathering, Nothing, HeaderDue, BodyDue}
use Rattle.amqp_model.specs.Wire.Notes.{Role}
use Rattle.amqp_model.specs.Wire.Readings.{Reading, reading}
use Rattle.amqp_frame.specs.Splitting.{IsRest}
use Rattle.amqp_outbox.specs.OutboxView.{Outgoing}
use Rattle.amqp_core.specs.Faults.Answering.{answer_with, AnswersFrame, PutsAs, AnswersEvent, ran_out}
use Rattle.amqp_core.specs.Connection.View.{connection_end}
use Rattle.amqp_core.specs.End.Bounded.{IsBounded}
use Rattle.amqp_core.specs.End.EndpointView.{FieldsFit, EndpointIsSound, endpoint_view, is_opened, role_at, unfinished_of}
use Rattle.amqp_core.specs.End.Feeding.{IsFed, SameEndpoint, taken_with}
use Rattle.amqp_core.specs.Stream.Lending.{AlikeEndpoint, AlikeLeft, AnswersLent, EndsAlike, IsLent, LendsOf, LentSeen}
use Rattle.amqp_core.specs.Connection.Outcomes.{SameEnd}
use Rattle.amqp_core.specs.Config.Settings.{config_view}
use Rattle.amqp_core.specs.Stream.StepView.{heard_seen, seen_by, step_seen, told_of}
use Rattle.amqp_core.specs.declared.step.Report.{Report}
use Rattle.amqp_core.specs.declared.endpoint.Endpoint as kept
use Rattle.amqp_core.specs.declared.step.Step.{Step}
use Rattle.amqp_core.specs.declared.faults.CoreFault.{CoreFault}
use Rattle.amqp_core.specs.declared.faults.CoreFault.TheVariants as core
use Rattle.amqp_core.proofs.AccountLemmas.{awaits_none, ends_frame, frame_or, is_begun, is_unfinished, no_frames, none_is_some, nothing_finished}
use Rattle.amqp_core.proofs.BoundLemmas.{bounded_frame}
use Rattle.amqp_core.proofs.FeedLemmas.{fed_holds, frame_fed, frame_leaves, reads, sound_with}

-- Channels that are alike.

pub channel_itself : (channel : Channel) → AlikeChannels channel channel
channel_itself Free = tt
channel_itself Opening = tt
channel_itself Closing = tt
channel_itself (channels.Open life) = record { content = refl; paused = refl; awaits = refl; requests = refl }

pub channel_onwards : (one other third : Channel) → AlikeChannels one other → AlikeChannels other third → AlikeChannels one third
channel_onwards Free Free Free a b = tt
channel_onwards Opening Opening Opening a b = tt
channel_onwards Closing Closing Closing a b = tt
channel_onwards (channels.Open one) (channels.Open other) (channels.Open third) a b = record { content = a.content ∙ b.content; paused = a.paused ∙ b.paused; awaits = a.awaits ∙ b.awaits; requests = a.requests ∙ b.requests }
channel_onwards Free Free Opening a b = absurd b
channel_onwards Free Free Closing a b = absurd b
channel_onwards Free Free (channels.Open third) a b = absurd b
channel_onwards Opening Opening Free a b = absurd b
channel_onwards Opening Opening Closing a b = absurd b
channel_onwards Opening Opening (channels.Open third) a b = absurd b
channel_onwards Closing Closing Free a b = absurd b
channel_onwards Closing Closing Opening a b = absurd b
channel_onwards Closing Closing (channels.Open third) a b = absurd b
channel_onwards (channels.Open one) (channels.Open other) Free a b = absurd b
channel_onwards (channels.Open one) (channels.Open other) Opening a b = absurd b
channel_onwards (channels.Open one) (channels.Open other) Closing a b = absurd b
channel_onwards one other third a b = absurd a

pub end_itself : (end : End) → AlikeEnds end end
end_itself end = record { phase = refl; agreed = refl; channels = λ n. channel_itself (end.channels n) }

-- Ends that are alike to all who look.

pub alike_left : (one other : End) → AlikeEnds one other → AlikeLeft one other
alike_left one other a = record { phase = a.phase; agreed = a.agreed; no_channel = a.channels 0; channels = λ running. a.channels }

pub left_onwards : (one other third : End) → AlikeLeft one other → AlikeLeft other third → AlikeLeft one third
left_onwards one other third a b = record {
  phase = a.phase ∙ b.phase;
  agreed = a.agreed ∙ b.agreed;
  no_channel = channel_onwards (one.channels 0) (other.channels 0) (third.channels 0) a.no_channel b.no_channel;
  channels = λ running n. channel_onwards (one.channels n) (other.channels n) (third.channels n) (a.channels running n) (b.channels (λ failed. running (a.phase ∙ failed)) n);
}

pub same_left : (one other : End) → SameEnd one other → AlikeLeft one other
same_left one other same = record {
  phase = same.phase;
  agreed = same.agreed;
  no_channel = subst (λ (c : Channel). AlikeChannels (one.channels 0) c) same.no_channel (channel_itself (one.channels 0));
  channels = λ running n. subst (λ (c : ℕ → Channel). AlikeChannels (one.channels n) (c n)) (same.channels running) (channel_itself (one.channels n));
}

pub endpoint_onwards : (one other third : Endpoint) → AlikeEndpoint one other → AlikeEndpoint other third → AlikeEndpoint one third
endpoint_onwards one other third a b = record { end = left_onwards one.end other.end third.end a.end b.end; unfinished = a.unfinished ∙ b.unfinished; output = a.output ∙ b.output }

pub same_endpoint_left : (one other : Endpoint) → SameEndpoint one other → AlikeEndpoint one other
same_endpoint_left one other same = record { end = same_left one.end other.end same.end; unfinished = same.unfinished; output = same.output }

pub alike_endpoint : (one other : Endpoint) → AlikeEndpoints one other → AlikeEndpoint one other
alike_endpoint one other a = record { end = alike_left one.end other.end a.end; unfinished = a.unfinished; output = a.output }

-- an end with the channels of the one and the rest of the other
abbrev pub standing_in : (one other : End) → End
standing_in one other = record { phase = other.phase; agreed = other.agreed; channels = one.channels }

pub stands_in : (one other : End) → AlikeLeft one other → SameEnd one (standing_in one other)
stands_in one other a = record { phase = a.phase; agreed = a.agreed; no_channel = refl; channels = λ running. refl }

pub stood_in : (one other : End) → AlikeLeft one other → AlikeLeft (standing_in one other) other
stood_in one other a = record { phase = refl; agreed = refl; no_channel = a.no_channel; channels = λ running. a.channels (λ failed. running (sym a.phase ∙ failed)) }

-- What holds of the one holds of the other.

abbrev keeps_streamed : (max_body : ℕ) → Streaming → Type 0
keeps_streamed max_body NoContent = Unit {0}
keeps_streamed max_body (AwaitsHeader kind) = Unit {0}
keeps_streamed max_body (AwaitsBody kind size came) = (came < size) × (size ≤ max_body)

as_streamed : (max_body : ℕ) (gathering : Gathering) → KeepsPart max_body gathering → keeps_streamed max_body (streamed gathering)
as_streamed max_body Nothing keeps = tt
as_streamed max_body (HeaderDue method) keeps = tt
as_streamed max_body (BodyDue method size properties body) keeps = keeps

of_streamed : (max_body : ℕ) (gathering : Gathering) → keeps_streamed max_body (streamed gathering) → KeepsPart max_body gathering
of_streamed max_body Nothing keeps = tt
of_streamed max_body (HeaderDue method) keeps = tt
of_streamed max_body (BodyDue method size properties body) keeps = keeps

channel_within : (role : Role) (max_body : ℕ) (one other : Channel) → AlikeChannels one other → ChannelIsWithin role max_body one → ChannelIsWithin role max_body other
channel_within role max_body (channels.Open one) (channels.Open other) a within = record {
  content = of_streamed max_body other.content (subst (λ (s : Streaming). keeps_streamed max_body s) a.content (as_streamed max_body one.content within.content));
  requests = subst (λ rs. length rs ≤ most_requests role) a.requests within.requests;
}
channel_within role max_body Free Free a within = tt
channel_within role max_body Opening Opening a within = tt
channel_within role max_body Closing Closing a within = tt
channel_within role max_body one other a within = absurd a

pub bounded_alike : (role : Role) (config : Config role) (one other : End) → AlikeLeft (standing_in one other) other → IsBounded role config (standing_in one other) → IsBounded role config other
bounded_alike role config one other a bounded = λ takes.
    let running : other.phase ≢ Failed = λ failed. true≢false (sym takes ∙ ap takes_octets failed) in
    ∥∥₁_map (bounded takes) (λ within n. channel_within role config.max_body (one.channels n) (other.channels n) (a.channels running n) (within n))

pub holds_alike : (role : Role) (one other : End) (unfinished : List ℕ) (output : _) → HoldsUnfinished role (record { end = standing_in one other; unfinished = unfinished; output = output })
    → HoldsUnfinished role (record { end = other; unfinished = unfinished; output = output })
holds_alike role one other unfinished output holds = record { of_opening = holds.of_opening; of_frame = holds.of_frame }

-- The splitter has given no frame.
pub fields_waiting : (role : Role) (end : End) (heard : ℕ) (stream new : Stream) → reads_frames role end.phase ≡ true → FieldsFit role end heard stream → new.fault ≡ stream.fault → new.limit ≡ stream.limit → FieldsFit role end heard new
fields_waiting role end heard stream new r fit fault limit = record {
  agreed = fit.agreed;
  opening = λ awaits. absurd (false≢true (sym (reads role end.phase r).opened ∙ awaits));
  opened = fit.opened;
  awaited = fit.awaited;
  within = fit.within;
  over = λ over. absurd (true≢false (sym (reads role end.phase r).octets ∙ over));
  ready = λ octets. record { running = fault ∙ (fit.ready octets).running; limit_is = limit ∙ (fit.ready octets).limit_is };
}

-- It has given one, and is tuned.
pub fields_taking : (role : Role) (old new : End) (heard : ℕ) (stream tuned : Stream) → reads_frames role old.phase ≡ true → FieldsFit role old heard stream → tuned.pending ≡ [] → tuned.fault ≡ stream.fault → tuned.limit ≡ frame_limit new.agreed → IfAgreedFits new.agreed → is_opened new.phase ≡ true → FieldsFit role new heard tuned
fields_taking role old new heard stream tuned r fit none fault limit agreed read_on = record {
  agreed = agreed;
  opening = λ awaits. none;
  opened = λ not_awaited. fit.opened (reads role old.phase r).opened;
  awaited = λ not_awaited. read_on;
  within = fit.within;
  over = λ over. none;
  ready = λ octets. record { running = fault ∙ (fit.ready (reads role old.phase r).octets).running; limit_is = limit };
}

-- What is told.

pub lends_of_frame : (role : Role) (config : Config role) (old : Endpoint) (piece : List ℕ) (fed : Feeding) (count : ℕ) (frame : Frame) (event : Option LentEvent)
    → OneIsSaid → reads_frames role old.end.phase ≡ true
    → fed ≡ with_taken count (after_judged role config old (old.unfinished ++ take count piece) (Whole frame))
    → IsWhole (frame_limit old.end.agreed) (old.unfinished ++ take count piece) frame
    → event ≡ lent frame.channel (reading frame) (maybe_telling (event_of_frame config old.end frame)) → LendsOf role config old piece fed event
lends_of_frame role config old piece fed count frame event one r is whole event_is =
    subst (λ f. LendsOf role config old piece f event) (sym is)
    (record {
      waits = λ e. absurd (ends_frame config old.end frame e);
      greets = λ awaits e. absurd (awaits_none role old.end.phase r awaits);
      takes = λ other phase completes.
          event_is ∙ ap (λ f. lent f.channel (reading f) (maybe_telling (event_of_frame config old.end f))) (ap (frame_or frame) (one (frame_limit old.end.agreed) (old.unfinished ++ take count piece) (Whole frame) (Whole other) whole completes));
    })

pub lends_of_rest : (role : Role) (config : Config role) (old : Endpoint) (piece : List ℕ) (fed : Feeding) (count : ℕ)
    → OneIsSaid → reads_frames role old.end.phase ≡ true
    → fed ≡ with_taken count (holds_octets old (old.unfinished ++ piece)) → old.unfinished ++ piece ≡ old.unfinished ++ take count piece
    → IsRest (frame_limit old.end.agreed) (old.unfinished ++ piece) → LendsOf role config old piece fed None
lends_of_rest role config old piece fed count one r is there rest =
    let begun : IsRest (frame_limit old.end.agreed) (old.unfinished ++ take count piece) = subst (λ xs. IsRest (frame_limit old.end.agreed) xs) there rest in
    subst (λ f. LendsOf role config old piece f None) (sym is)
    (record {
      waits = λ e. refl;
      greets = λ awaits e. absurd (awaits_none role old.end.phase r awaits);
      takes = λ other phase completes. absurd (false≢true (sym (ap is_begun (one (frame_limit old.end.agreed) (old.unfinished ++ take count piece) Begun (Whole other) begun completes))));
    })

-- Of the protocol header nothing is told until it is whole.

event_unfinished : (event : Event) (outcome : Outcome) → AnswersEvent (Some event) outcome → outcome ≢ Unfinished
event_unfinished event Unfinished says e = none_is_some says
event_unfinished event (Finished told) says e = false≢true (ap is_unfinished e)
event_unfinished event (Found fault) says e = absurd says

pub lends_nothing : (role : Role) (config : Config role) (old : Endpoint) (piece : List ℕ) (fed : Feeding) → awaits_opening role old.end.phase ≡ true → AnswersEvent None fed.outcome → LendsOf role config old piece fed None
lends_nothing role config old piece fed awaits says = record {
  waits = λ e. refl;
  greets = λ same e. absurd (nothing_finished fed.outcome says e);
  takes = λ frame phase completes. absurd (no_frames role old.end.phase awaits phase);
}

pub lends_quiet : (role : Role) (config : Config role) (old : Endpoint) (piece : List ℕ) (fed : Feeding) (event : Event) → awaits_opening role old.end.phase ≡ true → AnswersEvent (Some event) fed.outcome → LendsOf role config old piece fed (Some (Other Quiet))
lends_quiet role config old piece fed event awaits says = record {
  waits = λ e. absurd (event_unfinished event fed.outcome says e);
  greets = λ same e. refl;
  takes = λ frame phase completes. absurd (no_frames role old.end.phase awaits phase);
}

-- What is answered.

abbrev pub seen_with : {A : Type 0} → Result A CoreFault → (octets : ℕ) → Option LentEvent → Result LentSeen CoreFault
seen_with (Ok done) octets event = Ok (record { octets = octets; event = event })
seen_with (Err fault) octets event = Err fault

faultless : (event : Option Event) (outcome : Outcome) → AnswersEvent event outcome → AnswersLent (Ok (record { octets = 0; event = None })) outcome
faultless event Unfinished told = tt
faultless event (Finished other) told = tt
faultless event (Found fault) told = absurd told

pub lent_of_fed : {A : Type 0} (role : Role) (config : Config role) (said : Result A CoreFault) (octets : ℕ) (event : Option Event) (seen : Option LentEvent) (old : Endpoint) (piece : List ℕ) (fed : Feeding) (one new : Endpoint)
    → IsFed (taken_with said octets event) old fed one → AlikeEndpoint one new → IfOk said (λ done. LendsOf role config old piece fed seen) → IsLent role config (seen_with said octets seen) old piece fed new
lent_of_fed role config (Ok done) octets event seen old piece fed one new is alike lends = record {
  answer = faultless event fed.outcome is.answer;
  taken = is.taken;
  event = lends;
  left = endpoint_onwards fed.endpoint one new (same_endpoint_left fed.endpoint one is.left) alike;
}
lent_of_fed role config (Err fault) octets event seen old piece fed one new is alike lends = record {
  answer = is.answer;
  taken = tt;
  event = tt;
  left = endpoint_onwards _ one new (same_endpoint_left _ one is.left) alike;
}

pub endpoint_itself : (endpoint : Endpoint) → AlikeEndpoint endpoint endpoint
endpoint_itself endpoint = record { end = alike_left endpoint.end endpoint.end (end_itself endpoint.end); unfinished = refl; output = refl }

-- A whole frame: in the place of what is left stands an end with the channels of the definitions.

abbrev pub left_by_frame : {A : Type 0} → (role : Role) → Config role → Result A CoreFault → End → Frame → End
left_by_frame role config said old frame = cond (ran_out said) (as_failed old) (end_after_taken role config old (reading frame) frame)

pub frame_stands : {A : Type 0} (role : Role) (config : Config role) (old : Endpoint) (stream : Stream) (piece : List ℕ) (octets : ℕ) (frame : Frame) (said : Result A CoreFault) (new : End) (unfinished : List ℕ) (outgoing : Outgoing)
    → FeedGivesFrame role config old stream piece octets frame → IsFedBy role old stream piece → octets ≤ length piece → Completes stream (take octets piece) frame
    → AnswersFrame (answer_with said (event_of_frame config old.end frame)) (outcome_of (facts_at config old.end frame.channel) (end_verdict config old.end frame))
    → EndsAlike said old.end (end_after_taken role config old.end (reading frame) frame) new → unfinished ≡ [] → PutsAs said old.output (after_puts (end_puts config old.end frame) old.output) outgoing
    → IsFed (taken_with said octets (event_of_frame config old.end frame)) old (after_feed role config old piece) (record { end = standing_in (left_by_frame role config said old.end frame) new; unfinished = unfinished; output = outgoing.output })
frame_stands role config old stream piece octets frame said new unfinished outgoing law by within completes says ends none puts =
    frame_fed role config old stream piece octets octets frame said (event_of_frame config old.end frame) (standing_in (left_by_frame role config said old.end frame) new) unfinished outgoing law by within completes refl says
    (stands_in (left_by_frame role config said old.end frame) new ends) none puts

pub frame_lent : {A : Type 0} (role : Role) (config : Config role) (old : Endpoint) (stream : Stream) (piece : List ℕ) (octets : ℕ) (frame : Frame) (said : Result A CoreFault) (seen : Option LentEvent) (new : End) (unfinished : List ℕ) (outgoing : Outgoing)
    → FeedGivesFrame role config old stream piece octets frame → IsFedBy role old stream piece → octets ≤ length piece → Completes stream (take octets piece) frame
    → AnswersFrame (answer_with said (event_of_frame config old.end frame)) (outcome_of (facts_at config old.end frame.channel) (end_verdict config old.end frame))
    → EndsAlike said old.end (end_after_taken role config old.end (reading frame) frame) new → unfinished ≡ [] → PutsAs said old.output (after_puts (end_puts config old.end frame) old.output) outgoing
    → IfOk said (λ done. LendsOf role config old piece (after_feed role config old piece) seen)
    → IsLent role config (seen_with said octets seen) old piece (after_feed role config old piece) (record { end = new; unfinished = unfinished; output = outgoing.output })
frame_lent role config old stream piece octets frame said seen new unfinished outgoing law by within completes says ends none puts lends =
    lent_of_fed role config said octets (event_of_frame config old.end frame) seen old piece (after_feed role config old piece) (record { end = standing_in (left_by_frame role config said old.end frame) new; unfinished = unfinished; output = outgoing.output })
    (record { end = new; unfinished = unfinished; output = outgoing.output })
    (frame_stands role config old stream piece octets frame said new unfinished outgoing law by within completes says ends none puts)
    (record { end = stood_in (left_by_frame role config said old.end frame) new ends; unfinished = refl; output = refl }) lends

-- What is known then of the code's end.
pub frame_sound : {A : Type 0} (old new : kept.Endpoint) (piece : List ℕ) (octets : ℕ) (frame : Frame) (said : Result A CoreFault) (after : Stream)
    → EndpointIsSound old → reads_frames (role_at old) (connection_end old.connection).phase ≡ true → new.connection.settings ≡ old.connection.settings → new.heard ≡ old.heard
    → AgreedStaysWithin (role_at old) (config_view old.connection.settings) (connection_end old.connection) frame
    → FeedHolds (role_at old) (config_view old.connection.settings) (endpoint_view old) piece
    → FrameStaysWithin (role_at old) (config_view old.connection.settings) (connection_end old.connection) frame
    → IsFedBy (role_at old) (endpoint_view old) old.splitter piece
    → after.pending ≡ [] → after.fault ≡ old.splitter.fault → new.splitter ≡ record after { limit = frame_limit (connection_end new.connection).agreed }
    → EndsAlike said (connection_end old.connection) (end_after_taken (role_at old) (config_view old.connection.settings) (connection_end old.connection) (reading frame) frame) (connection_end new.connection)
    → PutsAs said old.outbox.output (after_puts (end_puts (config_view old.connection.settings) (connection_end old.connection) frame) old.outbox.output) new.outbox
    → IsFed (taken_with said octets (event_of_frame (config_view old.connection.settings) (connection_end old.connection) frame)) (endpoint_view old)
    (after_feed (role_at old) (config_view old.connection.settings) (endpoint_view old) piece)
    (record { end = standing_in (left_by_frame (role_at old) (config_view old.connection.settings) said (connection_end old.connection) frame) (connection_end new.connection); unfinished = unfinished_of new.heard new.splitter.pending; output = new.outbox.output })
    → EndpointIsSound new
frame_sound old new piece octets frame said after sound r settings heard stays holds within by none fault tuned ends puts fed =
    let role = role_at old in
    let config = config_view old.connection.settings in
    let before = connection_end old.connection in
    let left = connection_end new.connection in
    let next = left_by_frame role config said before frame in
    let one = standing_in next left in
    let read = reads role before.phase r in
    let fits = frame_leaves role config before one frame (ran_out said) sound.writes stays (sound.fields.awaited read.opened) sound.fields.agreed (stands_in next left ends) in
    sound_with old.connection.settings new settings sound.writes (ap (λ (o : Outgoing). o.staged) puts)
    (subst (λ h. FieldsFit role left h new.splitter) (sym heard)
    (fields_taking role before left old.heard old.splitter new.splitter r sound.fields (ap (λ (s : Stream). s.pending) tuned ∙ none) (ap (λ (s : Stream). s.fault) tuned ∙ fault)
    (ap (λ (s : Stream). s.limit) tuned) fits.0 fits.1))
    (holds_alike role next left (unfinished_of new.heard new.splitter.pending) new.outbox.output
    (fed_holds role config (endpoint_view old) _ old.splitter piece _ holds by fed))
    (bounded_alike role config next left (stood_in next left ends)
    (bounded_frame role config before one frame (ran_out said) within read.octets sound.bounded (stands_in next left ends)))

-- Of what is told nothing else is known than how many octets were taken.

pub lent_within : (role : Role) (config : Config role) (result : Result LentSeen CoreFault) (old : Endpoint) (piece : List ℕ) (fed : Feeding) (new : Endpoint) (P : ℕ → Type 0) → IsLent role config result old piece fed new → P fed.taken → IfOk result (λ seen. P seen.octets)
lent_within role config (Ok seen) old piece fed new P is holds = subst P (sym is.taken) holds
lent_within role config (Err fault) old piece fed new P is holds = tt

-- A step.

pub ok_step : (result : Result Step CoreFault) (given : Option Frame) → IsOk result → IsOk (step_seen result given)
ok_step (Ok step) given ok = ok
ok_step (Err fault) given ok = ok

pub ran_step : (result : Result Step CoreFault) (given : Option Frame) → ran_out (step_seen result given) ≡ ran_out result
ran_step (Ok step) given = refl
ran_step (Err fault) given = refl

pub step_count : (result : Result Step CoreFault) (given : Option Frame) (P : ℕ → Type 0) → IfOk (step_seen result given) (λ seen. P seen.octets) → IfOk result (λ step. P step.octets)
step_count (Ok step) given P holds = holds
step_count (Err fault) given P holds = holds

pub count_step : (result : Result Step CoreFault) (given : Option Frame) (P : ℕ → Type 0)
    → IfOk result (λ step. P step.octets) → IfOk (step_seen result given) (λ seen. P seen.octets)
count_step (Ok step) given P holds = holds
count_step (Err fault) given P holds = holds

-- The splitter after each answer.

pub after_place : (old : Stream) (piece : List ℕ) (result : Result Advanced FrameFault) (advanced : Advanced) (place : Place) (new : Stream) → new ≡ after_advance old piece result → result ≡ Ok advanced → advanced.place ≡ Some place → new ≡ after_taking old piece advanced.taken (Some place)
after_place old piece result advanced place new e is some = e ∙ (ap (after_advance old piece) is ∙ ap (after_taking old piece advanced.taken) some)

pub after_waiting : (old : Stream) (piece : List ℕ) (result : Result Advanced FrameFault) (advanced : Advanced) (new : Stream) → new ≡ after_advance old piece result → result ≡ Ok advanced → advanced.place ≡ None → new ≡ after_taking {A = Place} old piece advanced.taken None
after_waiting old piece result advanced new e is none = e ∙ (ap (after_advance old piece) is ∙ ap (after_taking old piece advanced.taken) none)

pub after_wrong : (old : Stream) (piece : List ℕ) (result : Result Advanced FrameFault) (fault : FrameFault) (new : Stream) → new ≡ after_advance old piece result → result ≡ Err fault → new.pending ≡ []
after_wrong old piece result fault new e is = ap (λ (s : Stream). s.pending) (e ∙ ap (after_advance old piece) is)

pub given_place : (place : Place) (given : Option Frame) (frame : Frame) (P : Frame → Type 0) → place ≡ places.Buffer → given ≡ Some frame → OfGiven place given P → P frame
given_place place given frame P is there holds = subst (λ g. OfGiven places.Buffer g P) there (subst (λ p. OfGiven p given P) is holds)

pub none_given : (place : Place) (P : Frame → Type 0) → place ≡ places.Buffer → OfGiven place None P → ⊥
none_given place P is holds = subst (λ p. OfGiven p None P) is holds

pub piece_place : (place : Place) (given : Option Frame) (frame : FrameRef) (P : Frame → Type 0) → place ≡ places.Piece frame → OfGiven place given P → P (lent_frame frame)
piece_place place given frame P is holds = subst (λ p. OfGiven p given P) is holds

-- An end that is closed, or has failed, takes nothing.

pub closed_lent : (role : Role) (config : Config role) (old : Endpoint) (piece : List ℕ) → after_feed role config old piece ≡ nothing_taken old AlreadyClosed → IsLent role config (Err core.Closed) old piece (after_feed role config old piece) old
closed_lent role config old piece e = subst (λ (f : Feeding). IsLent role config (Err core.Closed) old piece f old) (sym e) (record { answer = refl; taken = tt; event = tt; left = endpoint_itself old })

pub failed_lent : (role : Role) (config : Config role) (old : Endpoint) (piece : List ℕ) → after_feed role config old piece ≡ nothing_taken old AlreadyFailed → IsLent role config (Err core.Failed) old piece (after_feed role config old piece) old
failed_lent role config old piece e = subst (λ (f : Feeding). IsLent role config (Err core.Failed) old piece f old) (sym e) (record { answer = refl; taken = tt; event = tt; left = endpoint_itself old })

pub lent_some : (role : Role) (config : Config role) (result : Result LentSeen CoreFault) (old : Endpoint) (piece : List ℕ) (fed : Feeding) (new : Endpoint) → IsLent role config result old piece fed new → (piece ≢ [] → 0 < fed.taken) → IfOk result (λ seen. piece ≢ [] → 0 < seen.octets)
lent_some role config (Ok seen) old piece fed new is some = λ there. subst (λ n. 0 < n) (sym is.taken) (some there)
lent_some role config (Err fault) old piece fed new is some = tt

pub step_some : (result : Result Step CoreFault) (given : Option Frame) (piece : List ℕ) → IfOk (step_seen result given) (λ seen. piece ≢ [] → 0 < seen.octets) → IfOk result (λ step. piece ≢ [] → 0 < step.octets)
step_some (Ok step) given piece holds = holds
step_some (Err fault) given piece holds = holds

-- What is answered to a frame, and to octets of the protocol header.

pub lent_by : (role : Role) (config : Config role) (said : Result Report CoreFault) (octets number : ℕ) (read : Option Reading) (old : Endpoint) (piece : List ℕ) (fed : Feeding) (new : Endpoint)
    → ((seen : Option LentEvent) → IfOk said (λ report. LendsOf role config old piece fed seen) → IsLent role config (seen_with said octets seen) old piece fed new)
    → IfOk said (λ report. LendsOf role config old piece fed (told_of number read report)) → IsLent role config (seen_by said octets number read) old piece fed new
lent_by role config (Ok report) octets number read old piece fed new is lends = is (told_of number read report) lends
lent_by role config (Err fault) octets number read old piece fed new is lends = is None tt

pub heard_lent : {A : Type 0} (role : Role) (config : Config role) (said : Result A CoreFault) (octets : ℕ) (event : Option Event) (old : Endpoint) (piece : List ℕ) (fed : Feeding) (new : Endpoint)
    → awaits_opening role old.end.phase ≡ true → IsFed (taken_with said octets event) old fed new → IsLent role config (heard_seen said octets event) old piece fed new
heard_lent {A} role config (Ok done) octets None old piece fed new awaits is =
    lent_of_fed role config (Ok done) octets None None old piece fed new new is (endpoint_itself new) (lends_nothing role config old piece fed awaits is.answer)
heard_lent {A} role config (Ok done) octets (Some event) old piece fed new awaits is =
    lent_of_fed role config (Ok done) octets (Some event) (Some (Other Quiet)) old piece fed new new is (endpoint_itself new) (lends_quiet role config old piece fed event awaits is.answer)
heard_lent {A} role config (Err fault) octets event old piece fed new awaits is =
    lent_of_fed {A = A} role config (Err fault) octets event None old piece fed new new is (endpoint_itself new) tt

pub if_told : (said : Result Report CoreFault) (P : Report → Type 0) (Q : Report → Type 0) → ((report : Report) → P report → Q report) → IfOk said P → IfOk said Q
if_told (Ok report) P Q f p = f report p
if_told (Err fault) P Q f p = tt

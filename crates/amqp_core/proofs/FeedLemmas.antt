-- A piece that is given to the splitter: what comes of each of its answers, and what holds of the end then.
use Rattle.std.proofs.Common.{◌≡◌, ◌<◌, ◌≤◌, ◌&&◌, not, get_or, Bool, true, false, cond, ℕ, suc, List, [], ◌++◌, map, length, take, All, Option, Some, None, Result, Ok, Err, IsOk, OnOk, refl, ap, sym, ◌∙◌, subst, arith}
use Rattle.std.proofs.Math.Logic.{∥∥₁_elim}
use Rattle.std.proofs.lemmas.Bool.{true≢false, false≢true}
use Rattle.std.proofs.lemmas.List.Elements.{All-from_get_or}
use Rattle.amqp_frame.specs.Splitter.{Completes, Waits, FirstFault, Faults, after_feed_ref, after_taking, given_after, place_after}
use Rattle.amqp_frame.specs.Stream.{Stream}
use Rattle.amqp_frame.specs.declared.faults.FrameFault.{FrameFault}
use Rattle.amqp_frame.specs.declared.faults.FrameFaultKind.{FrameFaultKind}
use Rattle.amqp_frame.specs.declared.faults.FrameFaultKind.TheVariants as kinds
use Rattle.amqp_frame.specs.declared.faults.FrameFaultKind.TheVariants.{UnknownType, TooLarge, BadEnd, OutOfMemory}
use Rattle.amqp_frame.specs.declared.frames.FrameRef.{FrameRef}
use Rattle.amqp_frame.specs.declared.splitting.FedRef.{FedRef}
use Rattle.amqp_model.specs.End.Channels.{End, Phase, Handshake, Running, Closing, Closed, Failed, AwaitsProtocolHeader, AwaitsStart, AwaitsStartOk, AwaitsTune, AwaitsTuneOk, AwaitsOpen, AwaitsOpenOk, HoldsStart, HoldsLogin, HoldsOpen, Agreed}
use Rattle.amqp_model.specs.End.Closes.{frame_of}
use Rattle.amqp_model.specs.End.EndVerdict.{end_puts, end_verdict, facts_at, takes_frames, takes_octets}
use Rattle.amqp_model.specs.Stream.Endpoint as model
use Rattle.amqp_model.specs.Stream.Endpoint.{Feeding, Outcome, Found, after_feed, awaits_opening, fault_told, outcome_of, owed_at_fault}
use Rattle.amqp_model.specs.End.Fitting.{ConfigWrites, IfAgreedFits}
use Rattle.amqp_model.specs.Laws.FittingLaws.{AgreedStaysWithin}
use Rattle.amqp_model.specs.Wire.Frame.{Frame}
use Rattle.amqp_model.specs.End.Machine.{as_failed, end_after_taken}
use Rattle.amqp_model.specs.History.Negotiation.{Config, frame_limit}
use Rattle.amqp_model.specs.Wire.Notes.{Role, Client, Server}
use Rattle.amqp_model.specs.Laws.OctetLaws.{IsOctet}
use Rattle.amqp_model.specs.Stream.Octets.{opening_read}
use Rattle.amqp_model.specs.Output.Outputs.{Output, after_puts}
use Rattle.amqp_model.specs.Stream.Pieces.{AreBegun, IsFedBy, IsProperPrefixOf, HoldsUnfinished, FaultFed, FeedHolds, FeedGivesFrame, FeedWaits, FeedFindsFault, reads_frames}
use Rattle.amqp_model.specs.Wire.Readings.{reading}
use Rattle.amqp_outbox.specs.OutboxView.{Outgoing, only}
use Rattle.amqp_model.specs.End.Events.{Event}
use Rattle.amqp_core.specs.Faults.Answering.{answer_with, AnswersFrame, EndsAs, PutsAs, Reports, ran_out, is_out_of_memory, stopped}
use Rattle.amqp_core.specs.End.EndpointView.{FieldsFit, EndpointIsSound, endpoint_view, is_opened, unfinished_of}
use Rattle.amqp_core.specs.End.Feeding.{IsFed, SameButChannels, SameEndpoint, ran_out_of, taken_with, Seen}
use Rattle.amqp_core.specs.End.Bounded.{IsBounded}
use Rattle.amqp_core.specs.Connection.View.{connection_end}
use Rattle.amqp_core.specs.End.Kept.{agreed_prop}
use Rattle.amqp_core.specs.Connection.Outcomes.{SameEnd}
use Rattle.amqp_core.specs.Config.Settings.{config_view, role_for}
use Rattle.amqp_core.specs.declared.endpoint.Endpoint.{Endpoint}
use Rattle.amqp_core.specs.declared.settings.Settings.{Settings}
use Rattle.amqp_core.specs.declared.faults.CoreFault.{CoreFault}
use Rattle.amqp_core.specs.declared.faults.CoreFault.TheVariants as core
use Rattle.amqp_core.proofs.OpenedLemmas.{frame_opened}
use Rattle.amqp_core.proofs.StopLemmas.{stopped_agreed}

-- Phases.

takes_when : (phase : Phase) → takes_octets phase ≡ true → is_opened phase ≡ true → takes_frames phase ≡ true
takes_when (Handshake AwaitsProtocolHeader) e o = absurd (false≢true o)
takes_when (Handshake AwaitsStart) e o = refl
takes_when (Handshake AwaitsStartOk) e o = refl
takes_when (Handshake AwaitsTune) e o = refl
takes_when (Handshake AwaitsTuneOk) e o = refl
takes_when (Handshake AwaitsOpen) e o = refl
takes_when (Handshake AwaitsOpenOk) e o = refl
takes_when (Handshake HoldsStart) e o = refl
takes_when (Handshake HoldsLogin) e o = refl
takes_when (Handshake HoldsOpen) e o = refl
takes_when Running e o = refl
takes_when Closing e o = refl
takes_when Closed e o = absurd (false≢true e)
takes_when Failed e o = absurd (false≢true e)

-- what holds of an end that reads frames
pub record Reads (role : Role) (phase : Phase) : Type 0 where
  pub octets : takes_octets phase ≡ true
  pub opened : awaits_opening role phase ≡ false

both : (octets awaits : Bool) → (octets && not awaits) ≡ true → (octets ≡ true) × (awaits ≡ false)
both true false e = (refl, refl)
both true true e = absurd (false≢true e)
both false awaits e = absurd (false≢true e)

pub reads : (role : Role) (phase : Phase) → reads_frames role phase ≡ true → Reads role phase
reads role phase e = let parts = both (takes_octets phase) (awaits_opening role phase) e in record { octets = parts.0; opened = parts.1 }

pub takes : (role : Role) (end : End) (heard : ℕ) (stream : Stream) → FieldsFit role end heard stream → reads_frames role end.phase ≡ true → takes_frames end.phase ≡ true
takes role end heard stream fit r = let read = reads role end.phase r in takes_when end.phase read.octets (fit.awaited read.opened)

pub are_octets : (piece : List ℕ) → ((i : ℕ) → get_or piece i 0 < 256) → All IsOctet piece
are_octets piece h = All-from_get_or IsOctet piece 0 (λ i within. h i)

-- What is unfinished.

pub unfinished_is : (heard : ℕ) (pending : List ℕ) → heard ≡ 0 → unfinished_of heard pending ≡ pending
unfinished_is heard pending e = ap (λ h. unfinished_of h pending) e

pub fed_by : (role : Role) (end : End) (heard : ℕ) (stream : Stream) (output : Output) (piece : List ℕ) →
    let endpoint : model.Endpoint = record { end = end; unfinished = unfinished_of heard stream.pending; output = output } in
    reads_frames role end.phase ≡ true → FieldsFit role end heard stream → HoldsUnfinished role endpoint → ((i : ℕ) → get_or piece i 0 < 256) → IsFedBy role endpoint stream piece
fed_by role end heard stream output piece r fit holds octets =
    let read = reads role end.phase r in
    record {
      reads = r;
      holds = holds;
      splits = record { pending = sym (unfinished_is heard stream.pending (fit.opened read.opened)); limit = (fit.ready read.octets).limit_is };
      are_octets = are_octets piece octets;
    }

-- What is left holds what it is to hold.

pub holds_same : (role : Role) (one other : model.Endpoint) → SameEndpoint one other → HoldsUnfinished role one → HoldsUnfinished role other
holds_same role one other same holds = record {
  of_opening = λ e. subst (λ (u : List ℕ). IsProperPrefixOf u (opening_read role)) same.unfinished (holds.of_opening (ap (awaits_opening role) same.end.phase ∙ e));
  of_frame = λ e. subst (λ (u : List ℕ). AreBegun (frame_limit other.end.agreed) u) same.unfinished
      (subst (λ (a : Option Agreed). AreBegun (frame_limit a) one.unfinished) same.end.agreed (holds.of_frame (ap (reads_frames role) same.end.phase ∙ e)));
}

failed_awaits : (role : Role) (phase : Phase) → Failed ≡ phase → awaits_opening role phase ≡ false
failed_awaits Client phase e = refl
failed_awaits Server phase e = ap (awaits_opening Server) (sym e)

failed_reads : (role : Role) (phase : Phase) → Failed ≡ phase → reads_frames role phase ≡ false
failed_reads Client phase e = ap (reads_frames Client) (sym e)
failed_reads Server phase e = ap (reads_frames Server) (sym e)

pub holds_failed : (role : Role) (endpoint : model.Endpoint) → Failed ≡ endpoint.end.phase → HoldsUnfinished role endpoint
holds_failed role endpoint e = record {
  of_opening = λ t. absurd (false≢true (sym (failed_awaits role endpoint.end.phase e) ∙ t));
  of_frame = λ t. absurd (false≢true (sym (failed_reads role endpoint.end.phase e) ∙ t));
}

pub holds_left : (role : Role) (b : Bool) (old next new : model.Endpoint) → SameEndpoint (cond b (ran_out_of old) next) new → HoldsUnfinished role next → HoldsUnfinished role new
holds_left role true old next new same holds = holds_failed role new same.end.phase
holds_left role false old next new same holds = holds_same role next new same holds

pub agreed_left : (b : Bool) (old next new : End) → SameEnd (cond b (as_failed old) next) new → IfAgreedFits old.agreed → IfAgreedFits next.agreed → IfAgreedFits new.agreed
agreed_left true old next new same fits more = subst IfAgreedFits same.agreed fits
agreed_left false old next new same fits more = subst IfAgreedFits same.agreed more

-- The splitter answers with a frame.

same_endpoint : (b : Bool) (old : model.Endpoint) (next new : End) (unfinished : List ℕ) (put output : Output) → SameEnd (cond b (as_failed old.end) next) new → unfinished ≡ [] → output ≡ cond b old.output put → SameEndpoint (cond b (ran_out_of old) (record { end = next; unfinished = []; output = put })) (record { end = new; unfinished = unfinished; output = output })
same_endpoint true old next new unfinished put output same none out = record { end = same; unfinished = sym none; output = sym out }
same_endpoint false old next new unfinished put output same none out = record { end = same; unfinished = sym none; output = sym out }

-- the answer to a frame, as an answer to the piece
pub ran_with : {A : Type 0} (said : Result A CoreFault) (octets : ℕ) (event : Option Event) → ran_out (taken_with said octets event) ≡ ran_out said
ran_with (Ok done) octets event = refl
ran_with (Err fault) octets event = refl

pub ok_with : {A : Type 0} (said : Result A CoreFault) (octets : ℕ) (event : Option Event) → IsOk said → IsOk (taken_with said octets event)
ok_with (Ok done) octets event ok = ok
ok_with (Err fault) octets event ok = ok

pub of_ok : {A : Type 0} (said : Result A CoreFault) (P : Type 0) → IsOk said → OnOk said P → P
of_ok (Ok done) P ok p = p
of_ok (Err fault) P ok p = absurd (false≢true ok)

-- a message that is told leaves the rest as it was, whatever octets are unfinished
pub alone_in : {A : Type 0} (said : Result A CoreFault) (P : Type 0) (end after : End) (one other same different : List ℕ) (before output : Output)
    → OnOk said (P → SameButChannels (record { end = end; unfinished = one; output = before }) (record { end = after; unfinished = other; output = output }))
    → OnOk said (P → SameButChannels (record { end = end; unfinished = same; output = before }) (record { end = after; unfinished = different; output = output }))
alone_in (Ok done) P end after one other same different before output stays =
    λ p. record { phase = (stays p).phase; agreed = (stays p).agreed; no_channel = (stays p).no_channel; output = (stays p).output }
alone_in (Err fault) P end after one other same different before output stays = tt

answered : {A : Type 0} (said : Result A CoreFault) (octets : ℕ) (event : Option Event) (old : model.Endpoint) (next new : End) (unfinished : List ℕ) (put output : Output) (outcome : Outcome) → AnswersFrame (answer_with said event) outcome → SameEnd (cond (ran_out said) (as_failed old.end) next) new → unfinished ≡ [] → output ≡ cond (ran_out said) old.output put
    → IsFed (taken_with said octets event) old (record { endpoint = record { end = next; unfinished = []; output = put }; taken = octets; outcome = outcome }) (record { end = new; unfinished = unfinished; output = output })
answered (Ok done) octets event old next new unfinished put output outcome says same none out = record { answer = says; taken = refl; left = same_endpoint false old next new unfinished put output same none out }
answered (Err fault) octets event old next new unfinished put output outcome says same none out =
    record { answer = says; taken = tt; left = same_endpoint (is_out_of_memory fault) old next new unfinished put output same none out }

pub frame_fed : {A : Type 0} (role : Role) (config : Config role) (old : model.Endpoint) (stream : Stream) (piece : List ℕ) (octets count : ℕ) (frame : Frame) (said : Result A CoreFault) (event : Option Event) (new : End) (unfinished : List ℕ) (outgoing : Outgoing) → FeedGivesFrame role config old stream piece octets frame → IsFedBy role old stream piece → octets ≤ length piece → Completes stream (take octets piece) frame → count ≡ octets → AnswersFrame (answer_with said event) (outcome_of (facts_at config old.end frame.channel) (end_verdict config old.end frame)) → EndsAs said old.end (end_after_taken role config old.end (reading frame) frame) new → unfinished ≡ [] → PutsAs said old.output (after_puts (end_puts config old.end frame) old.output) outgoing
    → IsFed (taken_with said count event) old (after_feed role config old piece) (record { end = new; unfinished = unfinished; output = outgoing.output })
frame_fed role config old stream piece octets count frame said event new unfinished outgoing law fed within completes is says ends none puts =
    subst (λ (n : ℕ). IsFed (taken_with said n event) old (after_feed role config old piece) (record { end = new; unfinished = unfinished; output = outgoing.output })) (sym is)
    (subst (λ (f : Feeding). IsFed (taken_with said octets event) old f (record { end = new; unfinished = unfinished; output = outgoing.output })) (sym (law fed within completes))
    (answered said octets event old (end_after_taken role config old.end (reading frame) frame) new unfinished (after_puts (end_puts config old.end frame) old.output) outgoing.output (outcome_of (facts_at config old.end frame.channel) (end_verdict config old.end frame)) says ends none (ap (λ (o : Outgoing). o.output) puts)))

-- It answers with none.

same_end : (end : End) → SameEnd end end
same_end end = record { phase = refl; agreed = refl; no_channel = refl; channels = λ running. refl }

pub rest_fed : (role : Role) (config : Config role) (old : model.Endpoint) (stream : Stream) (piece : List ℕ) (octets : ℕ) (event : Option Event) (unfinished : List ℕ) → FeedWaits role config old stream piece octets → IsFedBy role old stream piece → Waits stream piece octets → old.unfinished ++ piece ≡ unfinished → event ≡ None
    → IsFed (Ok (record { octets = octets; event = event })) old (after_feed role config old piece) (record { end = old.end; unfinished = unfinished; output = old.output })
rest_fed role config old stream piece octets event unfinished law fed waits is none =
    subst (λ (f : Feeding). IsFed (Ok (record { octets = octets; event = event })) old f (record { end = old.end; unfinished = unfinished; output = old.output })) (sym (law fed waits))
    (record { answer = none; taken = refl; left = record { end = same_end old.end; unfinished = is; output = refl } })

-- It reports a fault.

stopped_fed : (fault : CoreFault) (octets : ℕ) (old : model.Endpoint) (next new : End) (unfinished : List ℕ) (put output : Output) (outcome : Outcome) → Reports fault outcome → SameEnd (cond (is_out_of_memory fault) (as_failed old.end) next) new → unfinished ≡ [] → output ≡ cond (is_out_of_memory fault) old.output put
    → IsFed (Err fault) old (record { endpoint = record { end = next; unfinished = []; output = put }; taken = octets; outcome = outcome }) (record { end = new; unfinished = unfinished; output = output })
stopped_fed fault octets old next new unfinished put output outcome says same none out = record { answer = says; taken = tt; left = same_endpoint (is_out_of_memory fault) old next new unfinished put output same none out }

-- The splitter after each answer.

pub after_rest : (old : Stream) (piece : List ℕ) (result : Result FedRef FrameFault) (fed : FedRef) (new : Stream) → new ≡ after_feed_ref old piece result → result ≡ Ok fed → fed.frame ≡ None → new ≡ record old { pending = old.pending ++ piece; taken = place_after old.taken fed.taken; given = None }
after_rest old piece result fed new e is none = e ∙ (ap (after_feed_ref old piece) is ∙ ap (after_taking old piece fed.taken) none)

pub after_frame : (old : Stream) (piece : List ℕ) (result : Result FedRef FrameFault) (fed : FedRef) (frame : FrameRef) (new : Stream) → new ≡ after_feed_ref old piece result → result ≡ Ok fed → fed.frame ≡ Some frame → new ≡ record old { pending = []; taken = place_after old.taken fed.taken; given = given_after old.pending (take fed.taken piece) }
after_frame old piece result fed frame new e is some = e ∙ (ap (after_feed_ref old piece) is ∙ ap (after_taking old piece fed.taken) some)

pub after_stop : (old : Stream) (piece : List ℕ) (result : Result FedRef FrameFault) (fault : FrameFault) (new : Stream) → new ≡ after_feed_ref old piece result → result ≡ Err fault → new.pending ≡ []
after_stop old piece result fault new e is = ap (λ (s : Stream). s.pending) (e ∙ ap (after_feed_ref old piece) is)

-- What holds of the fields then.

pub fields_rest : (role : Role) (end : End) (heard taken : ℕ) (pending : List ℕ) (stream new : Stream) → reads_frames role end.phase ≡ true → FieldsFit role end heard stream → new ≡ record stream { pending = pending; taken = taken; given = None } → FieldsFit role end heard new
fields_rest role end heard taken pending stream new r fit e = record {
  agreed = fit.agreed;
  opening = λ awaits. absurd (false≢true (sym (reads role end.phase r).opened ∙ awaits));
  opened = fit.opened;
  awaited = fit.awaited;
  within = fit.within;
  over = λ over. absurd (true≢false (sym (reads role end.phase r).octets ∙ over));
  ready = λ octets. record { running = ap (λ (s : Stream). s.fault) e ∙ (fit.ready octets).running; limit_is = ap (λ (s : Stream). s.limit) e ∙ (fit.ready octets).limit_is };
}

pub fields_frame : {given : Option Frame} (role : Role) (old new : End) (heard : ℕ) (stream after tuned : Stream) (taken : ℕ) → reads_frames role old.phase ≡ true → FieldsFit role old heard stream → after ≡ record stream { pending = []; taken = taken; given = given } → tuned ≡ record after { limit = frame_limit new.agreed } → IfAgreedFits new.agreed → is_opened new.phase ≡ true → FieldsFit role new heard tuned
fields_frame role old new heard stream after tuned taken r fit e t agreed read_on = record {
  agreed = agreed;
  opening = λ awaits. ap (λ (s : Stream). s.pending) t ∙ ap (λ (s : Stream). s.pending) e;
  opened = λ not_awaited. fit.opened (reads role old.phase r).opened;
  awaited = λ not_awaited. read_on;
  within = fit.within;
  over = λ over. ap (λ (s : Stream). s.pending) t ∙ ap (λ (s : Stream). s.pending) e;
  ready = λ octets. record {
    running = ap (λ (s : Stream). s.fault) t ∙ (ap (λ (s : Stream). s.fault) e ∙ (fit.ready (reads role old.phase r).octets).running);
    limit_is = ap (λ (s : Stream). s.limit) t;
  };
}

failed_octets : (phase : Phase) → Failed ≡ phase → takes_octets phase ≡ false
failed_octets phase e = ap takes_octets (sym e)

pub fields_failed : (role : Role) (new : End) (heard : ℕ) (stream : Stream) → Failed ≡ new.phase → IfAgreedFits new.agreed → heard ≡ 0 → stream.pending ≡ [] → FieldsFit role new heard stream
fields_failed role new heard stream e agreed none unfinished = record {
  agreed = agreed;
  opening = λ awaits. absurd (false≢true (sym (failed_awaits role new.phase e) ∙ awaits));
  opened = λ not_awaited. none;
  awaited = λ not_awaited. ap is_opened (sym e);
  within = omega (arith, none);
  over = λ over. unfinished;
  ready = λ octets. absurd (false≢true (sym (failed_octets new.phase e) ∙ octets));
}

opened_left : (b : Bool) (old next new : End) → SameEnd (cond b (as_failed old) next) new → is_opened next.phase ≡ true → is_opened new.phase ≡ true
opened_left true old next new same read_on = ap is_opened (sym same.phase)
opened_left false old next new same read_on = ap is_opened (sym same.phase) ∙ read_on

pub frame_leaves : (role : Role) (config : Config role) (old new : End) (frame : Frame) (b : Bool) → ∥ ConfigWrites config ∥₁ → AgreedStaysWithin role config old frame → is_opened old.phase ≡ true → IfAgreedFits old.agreed → SameEnd (cond b (as_failed old) (end_after_taken role config old (reading frame) frame)) new → IfAgreedFits new.agreed × (is_opened new.phase ≡ true)
frame_leaves role config old new frame b writes stays read_on fits same =
    (agreed_left b old (end_after_taken role config old (reading frame) frame) new same fits (∥∥₁_elim writes (agreed_prop _) (λ w. stays w fits)), opened_left b old (end_after_taken role config old (reading frame) frame) new same (frame_opened role config old (reading frame) frame read_on))

-- What is unfinished then.
pub fed_holds : (role : Role) (config : Config role) (old new : model.Endpoint) (stream : Stream) (piece : List ℕ) (result : Result Seen CoreFault) → FeedHolds role config old piece → IsFedBy role old stream piece → IsFed result old (after_feed role config old piece) new → HoldsUnfinished role new
fed_holds role config old new stream piece result law by fed =
    holds_left role (ran_out result) old (after_feed role config old piece).endpoint new fed.left (law by.holds by.are_octets)

-- A fault.

stop_case : (role : Role) (config : Config role) (old : model.Endpoint) (stream : Stream) (piece : List ℕ) (kind : FrameFaultKind) (at : ℕ) (fault : CoreFault) (new : End) (unfinished : List ℕ) (outgoing : Outgoing) → FaultFed role config old stream piece kind at → Reports fault (Found (fault_told kind)) → SameEnd (cond (is_out_of_memory fault) (as_failed old.end) (stopped role config old.end kind)) new → unfinished ≡ [] → outgoing ≡ only (cond (is_out_of_memory fault) old.output (after_puts (map frame_of (owed_at_fault config old.end kind)) old.output))
    → IsFed (Err fault) old (after_feed role config old piece) (record { end = new; unfinished = unfinished; output = outgoing.output })
stop_case role config old stream piece kind at fault new unfinished outgoing told says ends none puts =
    subst (λ (f : Feeding). IsFed (Err fault) old f (record { end = new; unfinished = unfinished; output = outgoing.output })) (sym told.fed)
    (stopped_fed fault (suc told.before) old (stopped role config old.end kind) new unfinished (after_puts (map frame_of (owed_at_fault config old.end kind)) old.output) outgoing.output (Found (fault_told kind)) says ends none (ap (λ (o : Outgoing). o.output) puts))

-- out of memory nothing is said of what the octets are
lacks_case : (old : model.Endpoint) (feeding : Feeding) (new : End) (unfinished : List ℕ) (outgoing : Outgoing) (next : End) (put : Output) (fault : CoreFault) → is_out_of_memory fault ≡ true → SameEnd (cond (is_out_of_memory fault) (as_failed old.end) next) new → unfinished ≡ [] → outgoing ≡ only (cond (is_out_of_memory fault) old.output put)
    → IsFed (Err fault) old feeding (record { end = new; unfinished = unfinished; output = outgoing.output })
lacks_case old feeding new unfinished outgoing next put (core.Peer code) e ends none puts = absurd (false≢true e)
lacks_case old feeding new unfinished outgoing next put core.Fatal e ends none puts = absurd (false≢true e)
lacks_case old feeding new unfinished outgoing next put core.Failed e ends none puts = absurd (false≢true e)
lacks_case old feeding new unfinished outgoing next put core.Closed e ends none puts = absurd (false≢true e)
lacks_case old feeding new unfinished outgoing next put core.OutOfMemory e ends none puts = record { answer = tt; taken = tt; left = record { end = ends; unfinished = sym none; output = sym (ap (λ (o : Outgoing). o.output) puts) } }

abbrev lacks_memory : FrameFaultKind → Bool
lacks_memory UnknownType = false
lacks_memory TooLarge = false
lacks_memory BadEnd = false
lacks_memory OutOfMemory = true
lacks_memory kinds.Failed = false

pub first_fault : (stream : Stream) (piece : List ℕ) (fault : FrameFault) → stream.fault ≡ None → Faults stream.fault stream piece fault → FirstFault stream piece fault.kind fault.at
first_fault stream piece fault none faults = subst (λ (place : Option ℕ). Faults place stream piece fault) none faults

pub fault_fed : (role : Role) (config : Config role) (old : model.Endpoint) (stream : Stream) (piece : List ℕ) (kind : FrameFaultKind) (at : ℕ) (fault : CoreFault) (new : End) (unfinished : List ℕ) (outgoing : Outgoing) → FeedFindsFault role config old stream piece kind at → IsFedBy role old stream piece → FirstFault stream piece kind at → (kind ≡ OutOfMemory → is_out_of_memory fault ≡ true) → Reports fault (Found (fault_told kind)) → SameEnd (cond (is_out_of_memory fault) (as_failed old.end) (stopped role config old.end kind)) new → unfinished ≡ [] → outgoing ≡ only (cond (is_out_of_memory fault) old.output (after_puts (map frame_of (owed_at_fault config old.end kind)) old.output))
    → IsFed (Err fault) old (after_feed role config old piece) (record { end = new; unfinished = unfinished; output = outgoing.output })
fault_fed role config old stream piece OutOfMemory at fault new unfinished outgoing law by first memory says ends none puts =
    lacks_case old (after_feed role config old piece) new unfinished outgoing (stopped role config old.end OutOfMemory) (after_puts (map frame_of (owed_at_fault config old.end OutOfMemory)) old.output) fault (memory refl) ends none puts
fault_fed role config old stream piece UnknownType at fault new unfinished outgoing law by first memory says ends none puts =
    stop_case role config old stream piece UnknownType at fault new unfinished outgoing (law by (λ e. false≢true (ap lacks_memory e)) first) says ends none puts
fault_fed role config old stream piece TooLarge at fault new unfinished outgoing law by first memory says ends none puts =
    stop_case role config old stream piece TooLarge at fault new unfinished outgoing (law by (λ e. false≢true (ap lacks_memory e)) first) says ends none puts
fault_fed role config old stream piece BadEnd at fault new unfinished outgoing law by first memory says ends none puts =
    stop_case role config old stream piece BadEnd at fault new unfinished outgoing (law by (λ e. false≢true (ap lacks_memory e)) first) says ends none puts
fault_fed role config old stream piece kinds.Failed at fault new unfinished outgoing law by first memory says ends none puts = absurd first

-- The unfinished octets then.

pub rest_unfinished : (heard taken : ℕ) (old new : Stream) (piece : List ℕ) → heard ≡ 0 → new ≡ record old { pending = old.pending ++ piece; taken = taken; given = None } → unfinished_of heard old.pending ++ piece ≡ unfinished_of heard new.pending
rest_unfinished heard taken old new piece none e =
    ap (λ (u : List ℕ). u ++ piece) (unfinished_is heard old.pending none) ∙ (sym (ap (λ (s : Stream). s.pending) e) ∙ sym (unfinished_is heard new.pending none))

pub none_unfinished : (heard : ℕ) (pending : List ℕ) → heard ≡ 0 → pending ≡ [] → unfinished_of heard pending ≡ []
none_unfinished heard pending none e = unfinished_is heard pending none ∙ e

pub stop_leaves : (role : Role) (config : Config role) (old new : End) (kind : FrameFaultKind) (b : Bool) → SameEnd (cond b (as_failed old) (stopped role config old kind)) new → IfAgreedFits old.agreed → (Failed ≡ new.phase) × IfAgreedFits new.agreed
stop_leaves role config old new kind true same fits = (same.phase, subst IfAgreedFits same.agreed fits)
stop_leaves role config old new kind false same fits = (same.phase, subst IfAgreedFits same.agreed (subst IfAgreedFits (sym (stopped_agreed role config old kind)) fits))

-- What an end is set up with stays, so what holds of it is of the same role and the same configuration.
pub sound_with : (settings : Settings) (new : Endpoint) → new.connection.settings ≡ settings → ∥ ConfigWrites (config_view settings) ∥₁ → new.outbox.staged ≡ [] → FieldsFit (role_for settings) (connection_end new.connection) new.heard new.splitter → HoldsUnfinished (role_for settings) (endpoint_view new) → IsBounded (role_for settings) (config_view settings) (connection_end new.connection) → EndpointIsSound new
sound_with settings new e writes staged fields holds bounded = record {
  writes = subst (λ (s : Settings). ∥ ConfigWrites (config_view s) ∥₁) (sym e) writes;
  staged = staged;
  fields = subst (λ (s : Settings). FieldsFit (role_for s) (connection_end new.connection) new.heard new.splitter) (sym e) fields;
  holds = subst (λ (s : Settings). HoldsUnfinished (role_for s) (endpoint_view new)) (sym e) holds;
  bounded = subst (λ (s : Settings). IsBounded (role_for s) (config_view s) (connection_end new.connection)) (sym e) bounded;
}

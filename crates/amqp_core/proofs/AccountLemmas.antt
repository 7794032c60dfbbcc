-- The account of a piece is what came of it: of a frame, of a rest, of octets that show a fault, and of the protocol header.
use Rattle.std.proofs.Common.{◌≡◌, ◌≢◌, ◌+◌, ◌-◌, ◌^◌, ◌<◌, ◌≤◌, Bool, true, false, ℕ, suc, List, [], ◌++◌, length, take, Option, Some, None, Result, Ok, Err, inl, inr, refl, ap, sym, ◌∙◌, subst, arith}
use Rattle.std.proofs.Math.Seq.{take-append-add, take-length}
use Rattle.std.proofs.lemmas.Bool.{false≢true}
use Rattle.std.proofs.lemmas.List.{length-take-le, take-take}
use Rattle.amqp_frame.specs.Frame.{frame_length}
use Rattle.amqp_frame.specs.Judged.{fault_place}
use Rattle.amqp_frame.specs.Laws.{ShownIsJudged}
use Rattle.amqp_frame.specs.Splitter.{Completes, Waits, ToldAt, FirstFault, taken_to, place_after}
use Rattle.amqp_frame.specs.Splitting.{IsRest, Tells, TellsFirst}
use Rattle.amqp_frame.specs.Stream.{Stream}
use Rattle.amqp_frame.specs.declared.faults.FrameFaultKind.{FrameFaultKind}
use Rattle.amqp_frame.specs.declared.faults.FrameFaultKind.TheVariants as kinds
use Rattle.amqp_model.specs.Stream.Endpoint.{Endpoint, Feeding, Outcome, Unfinished, Finished, Found, Judgement, Begun, Whole, Wrong, after_judged, after_feed, awaits_opening, holds_octets, owed_at_start, outcome_of, owed_at_fault}
use Rattle.amqp_model.specs.End.EndVerdict.{end_verdict, facts_at, takes_frames}
use Rattle.amqp_model.specs.End.Events.{Event, Quiet, WrongProtocolHeader, FrameVerdict, Proceeds, RefusesContent, Faults}
use Rattle.amqp_model.specs.End.Channels.{End, Phase, Handshake, AwaitsProtocolHeader}
use Rattle.amqp_model.specs.Wire.Frame.{Frame}
use Rattle.amqp_model.specs.End.FrameVerdict.{Facts}
use Rattle.amqp_model.specs.History.Negotiation.{Config, frame_limit}
use Rattle.amqp_model.specs.Wire.Notes.{Role, Client, Server}
use Rattle.amqp_model.specs.Laws.OctetLaws.{OneIsSaid, IsWhole, TellsLast}
use Rattle.amqp_model.specs.Stream.Pieces.{IsFedBy, SplitsFor, FeedFindsFault, with_taken, reads_frames}
use Rattle.amqp_model.specs.Stream.Traces.{item_in_event}
use Rattle.amqp_core.specs.Traced.AccountView.{Came, IsAccount, IsFresh, came_by, came_of_frame, item_in_outcome, note_there, puts_alone}
use Rattle.amqp_core.specs.Faults.Answering.{answer_with, AnswersEvent, AnswersFrame, Reports, ran_out}
use Rattle.amqp_core.specs.End.Feeding.{IsFed, event_in, taken_with}
use Rattle.amqp_core.specs.Connection.Owed.{owed_view}
use Rattle.amqp_core.specs.declared.account.Account.{Account}
use Rattle.amqp_core.specs.declared.faults.CoreFault.{CoreFault}
use Rattle.amqp_core.specs.declared.faults.CoreFault.TheVariants as core
use Rattle.amqp_core.specs.declared.owed.Owed.{Owed}
use Rattle.amqp_core.specs.declared.settings.Settings.{Settings}
use Rattle.amqp_core.proofs.FeedLemmas.{reads}

-- Outcomes.

abbrev pub is_unfinished : Outcome → Bool
is_unfinished Unfinished = true
is_unfinished outcome = false

abbrev is_found : Outcome → Bool
is_found (Found fault) = true
is_found outcome = false

ends : {role : Role} (facts : Facts role) (verdict : FrameVerdict) → outcome_of facts verdict ≢ Unfinished
ends facts (Proceeds event owed) e = false≢true (ap is_unfinished e)
ends facts RefusesContent e = false≢true (ap is_unfinished e)
ends facts (Faults fault) e = false≢true (ap is_unfinished e)

-- a frame that was taken ends what was unfinished
pub ends_frame : {role : Role} (config : Config role) (end : End) (frame : Frame) → outcome_of (facts_at config end frame.channel) (end_verdict config end frame) ≢ Unfinished
ends_frame config end frame = ends (facts_at config end frame.channel) (end_verdict config end frame)

-- Judgements.

abbrev pub is_begun : Judgement → Bool
is_begun Begun = true
is_begun judgement = false

abbrev pub is_wrong : Judgement → Bool
is_wrong (Wrong kind) = true
is_wrong judgement = false

abbrev pub frame_or : Frame → Judgement → Frame
frame_or other (Whole frame) = frame
frame_or other judgement = other

abbrev kind_or : FrameFaultKind → Judgement → FrameFaultKind
kind_or other (Wrong kind) = kind
kind_or other judgement = other

-- the phase of an end that awaits the protocol header takes no frames
pub no_frames : (role : Role) (phase : Phase) → awaits_opening role phase ≡ true → takes_frames phase ≡ true → ⊥
no_frames Client phase e t = false≢true e
no_frames Server (Handshake AwaitsProtocolHeader) e t = false≢true t
no_frames Server phase e t = false≢true e

pub awaits_none : (role : Role) (phase : Phase) → reads_frames role phase ≡ true → awaits_opening role phase ≡ true → ⊥
awaits_none role phase r awaits = false≢true (sym (reads role phase r).opened ∙ awaits)

-- A whole frame was taken.
pub account_of_frame : (role : Role) (config : Config role) (old : Endpoint) (piece : List ℕ) (fed : Feeding) (count octets : ℕ) (frame : Frame) (came : Came)
    → OneIsSaid → reads_frames role old.end.phase ≡ true
    → fed ≡ with_taken count (after_judged role config old (old.unfinished ++ take count piece) (Whole frame))
    → IsWhole (frame_limit old.end.agreed) (old.unfinished ++ take count piece) frame
    → octets ≡ count → came ≡ came_of_frame config old.end frame → IsAccount role config old piece fed octets came
account_of_frame role config old piece fed count octets frame came one r is whole octets_are came_is =
    subst (λ f. IsAccount role config old piece f octets came) (sym is)
    (record {
      octets_are = octets_are;
      waits = λ e. absurd (ends (facts_at config old.end frame.channel) (end_verdict config old.end frame) e);
      greets = λ awaits e. absurd (awaits_none role old.end.phase r awaits);
      takes = λ other phase completes.
          came_is ∙ ap (λ f. came_of_frame config old.end f) (ap (frame_or frame) (one (frame_limit old.end.agreed) (old.unfinished ++ take count piece) (Whole frame) (Whole other) whole completes));
      tells = λ kind phase shows. absurd (false≢true (ap is_wrong (one (frame_limit old.end.agreed) (old.unfinished ++ take count piece) (Whole frame) (Wrong kind) whole shows)));
      differs = λ awaits e. absurd (awaits_none role old.end.phase r awaits);
    })

-- A frame is begun, and no more came.
pub account_of_rest : (role : Role) (config : Config role) (old : Endpoint) (piece : List ℕ) (fed : Feeding) (count octets : ℕ) (came : Came)
    → OneIsSaid → reads_frames role old.end.phase ≡ true
    → fed ≡ with_taken count (holds_octets old (old.unfinished ++ piece)) → count ≡ length piece
    → IsRest (frame_limit old.end.agreed) (old.unfinished ++ piece)
    → octets ≡ count → came ≡ puts_alone [] → IsAccount role config old piece fed octets came
account_of_rest role config old piece fed count octets came one r is all rest octets_are came_is =
    let there : old.unfinished ++ piece ≡ old.unfinished ++ take count piece = ap (λ xs. old.unfinished ++ xs) (sym (ap (λ n. take n piece) all ∙ take-length piece)) in
    let begun : IsRest (frame_limit old.end.agreed) (old.unfinished ++ take count piece) = subst (λ xs. IsRest (frame_limit old.end.agreed) xs) there rest in
    subst (λ f. IsAccount role config old piece f octets came) (sym is)
    (record {
      octets_are = octets_are;
      waits = λ e. came_is;
      greets = λ awaits e. absurd (awaits_none role old.end.phase r awaits);
      takes = λ other phase completes. absurd (false≢true (sym (ap is_begun (one (frame_limit old.end.agreed) (old.unfinished ++ take count piece) Begun (Whole other) begun completes))));
      tells = λ kind phase shows. absurd (false≢true (ap is_wrong (one (frame_limit old.end.agreed) (old.unfinished ++ take count piece) Begun (Wrong kind) begun shows)));
      differs = λ awaits e. absurd (awaits_none role old.end.phase r awaits);
    })

-- Octets show a fault.
account_of_fault : (role : Role) (config : Config role) (old : Endpoint) (piece : List ℕ) (fed : Feeding) (count octets : ℕ) (kind : FrameFaultKind) (came : Came)
    → OneIsSaid → reads_frames role old.end.phase ≡ true
    → fed ≡ with_taken count (after_judged role config old (old.unfinished ++ take count piece) (Wrong kind))
    → TellsLast (frame_limit old.end.agreed) (old.unfinished ++ take count piece) kind
    → octets ≡ count → came ≡ puts_alone (owed_at_fault config old.end kind) → IsAccount role config old piece fed octets came
account_of_fault role config old piece fed count octets kind came one r is tells octets_are came_is =
    subst (λ f. IsAccount role config old piece f octets came) (sym is)
    (record {
      octets_are = octets_are;
      waits = λ e. absurd (false≢true (ap is_unfinished e));
      greets = λ awaits e. absurd (awaits_none role old.end.phase r awaits);
      takes = λ other phase completes. absurd (false≢true (sym (ap is_wrong (one (frame_limit old.end.agreed) (old.unfinished ++ take count piece) (Wrong kind) (Whole other) tells completes))));
      tells = λ other phase shows.
          came_is ∙ ap (λ k. puts_alone (owed_at_fault config old.end k)) (ap (kind_or kind) (one (frame_limit old.end.agreed) (old.unfinished ++ take count piece) (Wrong kind) (Wrong other) tells shows));
      differs = λ awaits e. absurd (awaits_none role old.end.phase r awaits);
    })

-- The octets up to the one that shows the fault, and that one.

told_cut : (limit : ℕ) (xs : List ℕ) (kind : FrameFaultKind) (place : ℕ) → TellsFirst limit xs kind place → TellsLast limit (take (place + 1) xs) kind
told_cut limit xs kind place told =
    let many : length (take (place + 1) xs) ≡ place + 1 = length-take-le (place + 1) xs (omega (arith, told.within)) in
    record {
      place = place;
      last = many;
      told = record {
        within = omega (arith, many);
        told = subst (λ ys. Tells limit ys kind) (sym (take-take (place + 1) (place + 1) xs (omega arith))) told.told;
        first = λ n other h tells. told.first n other h (subst (λ ys. Tells limit ys other) (take-take n (place + 1) xs (omega (arith, h))) tells);
      };
    }

place_is : (before other : ℕ) → other + 1 < 2 ^ 64 → place_after 0 other ≡ place_after 0 before → before ≡ other
place_is before other h e = omega (arith, h, e)

-- The place at which the splitter reports a fault is counted up to the greatest number of 64 bits. The law that says what
-- was taken up to there holds of each splitter with these pending octets, so of one that has taken nothing yet.
fault_by : (role : Role) (config : Config role) (old : Endpoint) (stream : Stream) (piece : List ℕ) (kind : FrameFaultKind) (at octets : ℕ) (came : Came)
    → OneIsSaid → ((kind : FrameFaultKind) (at : ℕ) → FeedFindsFault role config old (record stream { taken = 0 }) piece kind at) → ShownIsJudged → IsFedBy role old stream piece → octets < 2 ^ 64
    → kind ≢ kinds.OutOfMemory → ((told : ToldAt stream piece kind at) → FirstFault (record stream { taken = 0 }) piece kind (place_after 0 (told.place - length stream.pending)))
    → ToldAt stream piece kind at → octets ≡ fault_place kind (stream.pending ++ piece) + 1 - length stream.pending
    → came ≡ puts_alone (owed_at_fault config old.end kind) → IsAccount role config old piece (after_feed role config old piece) octets came
fault_by role config old stream piece kind at octets came one law judged by short some first told octets_are came_is =
    let count = told.place - length stream.pending in
    let splits : IsFedBy role old (record stream { taken = 0 }) piece = record { reads = by.reads; holds = by.holds; splits = record { pending = by.splits.pending; limit = by.splits.limit }; are_octets = by.are_octets } in
    let found = law kind (place_after 0 count) splits some (first told) in
    let place : told.place ≡ fault_place kind (stream.pending ++ piece) = (judged stream.limit (stream.pending ++ piece) kind told.place told.told).1 in
    let here : found.before ≡ count = place_is found.before count (omega (arith, octets_are, place, short, told.after)) found.at_is in
    let reach : told.place + 1 ≡ length stream.pending + suc count = omega (arith, told.after) in
    let cut : take (told.place + 1) (stream.pending ++ piece) ≡ old.unfinished ++ take (suc found.before) piece =
    ap (λ n. take n (stream.pending ++ piece)) reach ∙ (take-append-add stream.pending piece (suc count) ∙ (ap (λ n. stream.pending ++ take (suc n) piece) (sym here) ∙ ap (λ xs. xs ++ take (suc found.before) piece) by.splits.pending)) in
    let tells : TellsLast stream.limit (take (told.place + 1) (stream.pending ++ piece)) kind = told_cut stream.limit (stream.pending ++ piece) kind told.place told.told in
    let tells_here : TellsLast (frame_limit old.end.agreed) (old.unfinished ++ take (suc found.before) piece) kind =
    subst (λ l. TellsLast l (old.unfinished ++ take (suc found.before) piece) kind) by.splits.limit (subst (λ xs. TellsLast stream.limit xs kind) cut tells) in
    let taken : octets ≡ suc found.before = omega (arith, octets_are, place, here, told.after) in
    account_of_fault role config old piece (after_feed role config old piece) (suc found.before) octets kind came one by.reads found.fed tells_here taken came_is

abbrev lacks_memory : FrameFaultKind → Bool
lacks_memory kinds.UnknownType = false
lacks_memory kinds.TooLarge = false
lacks_memory kinds.BadEnd = false
lacks_memory kinds.OutOfMemory = true
lacks_memory kinds.Failed = false

told_from : (stream : Stream) (piece : List ℕ) (kind : FrameFaultKind) (at : ℕ) (told : ToldAt stream piece kind at) → ToldAt (record stream { taken = 0 }) piece kind (place_after 0 (told.place - length stream.pending))
told_from stream piece kind at told = record { place = told.place; told = told.told; after = told.after; at_is = refl }

-- The splitter reports a fault, out of memory apart.
pub account_of_stop : (role : Role) (config : Config role) (old : Endpoint) (stream : Stream) (piece : List ℕ) (kind : FrameFaultKind) (at octets : ℕ) (came : Came)
    → OneIsSaid → ((kind : FrameFaultKind) (at : ℕ) → FeedFindsFault role config old (record stream { taken = 0 }) piece kind at) → ShownIsJudged → IsFedBy role old stream piece → octets < 2 ^ 64
    → kind ≢ kinds.OutOfMemory → FirstFault stream piece kind at → octets ≡ taken_to kind stream piece
    → came ≡ puts_alone (owed_at_fault config old.end kind) → IsAccount role config old piece (after_feed role config old piece) octets came
account_of_stop role config old stream piece kinds.UnknownType at octets came one law judged by short some first octets_are came_is =
    fault_by role config old stream piece kinds.UnknownType at octets came one law judged by short some (λ told. told_from stream piece kinds.UnknownType at told) first octets_are came_is
account_of_stop role config old stream piece kinds.TooLarge at octets came one law judged by short some first octets_are came_is =
    fault_by role config old stream piece kinds.TooLarge at octets came one law judged by short some (λ told. told_from stream piece kinds.TooLarge at told) first octets_are came_is
account_of_stop role config old stream piece kinds.BadEnd at octets came one law judged by short some first octets_are came_is =
    fault_by role config old stream piece kinds.BadEnd at octets came one law judged by short some (λ told. told_from stream piece kinds.BadEnd at told) first octets_are came_is
account_of_stop role config old stream piece kinds.OutOfMemory at octets came one law judged by short some first octets_are came_is = absurd (some refl)
account_of_stop role config old stream piece kinds.Failed at octets came one law judged by short some first octets_are came_is = absurd first

-- Octets of the protocol header.

-- what came of them, by what the definitions say that they come to
pub account_of_opening : (role : Role) (config : Config role) (old : Endpoint) (piece : List ℕ) (fed : Feeding) (octets : ℕ) (came : Came)
    → awaits_opening role old.end.phase ≡ true → octets ≡ fed.taken
    → (fed.outcome ≡ Unfinished → came ≡ puts_alone []) → (fed.outcome ≡ Finished (Some Quiet) → came ≡ puts_alone (owed_at_start role config)) → (fed.outcome ≡ Found WrongProtocolHeader → came ≡ puts_alone [])
    → IsAccount role config old piece fed octets came
account_of_opening role config old piece fed octets came awaits octets_are waits greets differs = record {
  octets_are = octets_are;
  waits = waits;
  greets = λ e. greets;
  takes = λ frame phase completes. absurd (no_frames role old.end.phase awaits phase);
  tells = λ kind phase shows. absurd (no_frames role old.end.phase awaits phase);
  differs = λ e. differs;
}

abbrev pub is_some : {A : Type 0} → Option A → Bool
is_some (Some x) = true
is_some None = false

pub none_is_some : {A : Type 0} {x : A} → Some x ≡ None → ⊥
none_is_some e = false≢true (sym (ap is_some e))

abbrev event_or : Outcome → Option Event
event_or (Finished event) = event
event_or outcome = None

pub nothing_finished : (outcome : Outcome) → AnswersEvent None outcome → outcome ≢ Finished (Some Quiet)
nothing_finished Unfinished says e = false≢true (sym (ap is_unfinished e))
nothing_finished (Finished told) says e = let there : told ≡ Some Quiet = ap event_or e in none_is_some (sym there ∙ says)
nothing_finished (Found fault) says e = absurd says

fault_finished : (outcome : Outcome) → Reports core.Fatal outcome → outcome ≢ Finished (Some Quiet)
fault_finished outcome (inl says) e = false≢true (sym (ap is_found (sym says ∙ e)))
fault_finished outcome (inr says) e = false≢true (sym (ap is_found (sym says ∙ e)))

-- A part of the header came, or an octet that differs: no frame is taken, and nothing put.
pub quiet_unfinished : (outcome : Outcome) → AnswersEvent (Some Quiet) outcome → outcome ≢ Unfinished
quiet_unfinished Unfinished says e = none_is_some says
quiet_unfinished (Finished told) says e = false≢true (ap is_unfinished e)
quiet_unfinished (Found fault) says e = absurd says

quiet_found : (outcome : Outcome) → AnswersEvent (Some Quiet) outcome → outcome ≢ Found WrongProtocolHeader
quiet_found Unfinished says e = none_is_some says
quiet_found (Finished told) says e = false≢true (ap is_found e)
quiet_found (Found fault) says e = absurd says

pub account_of_part : (role : Role) (config : Config role) (event : Option Event) (old new : Endpoint) (piece : List ℕ) (count octets : ℕ) (came : Came)
    → awaits_opening role old.end.phase ≡ true → event ≡ None → IsFed (Ok (record { octets = count; event = event })) old (after_feed role config old piece) new → octets ≡ count → came ≡ puts_alone []
    → IsAccount role config old piece (after_feed role config old piece) octets came
account_of_part role config event old new piece count octets came awaits none fed octets_are came_is =
    account_of_opening role config old piece (after_feed role config old piece) octets came awaits (octets_are ∙ fed.taken) (λ e. came_is)
    (λ e. absurd (nothing_finished (after_feed role config old piece).outcome (subst (λ o. AnswersEvent o (after_feed role config old piece).outcome) none fed.answer) e)) (λ e. came_is)

pub account_of_other : (role : Role) (config : Config role) (old new : Endpoint) (piece : List ℕ) (octets : ℕ) (came : Came)
    → awaits_opening role old.end.phase ≡ true → IsFed (Err core.Fatal) old (after_feed role config old piece) new → octets ≡ (after_feed role config old piece).taken → came ≡ puts_alone []
    → IsAccount role config old piece (after_feed role config old piece) octets came
account_of_other role config old new piece octets came awaits fed octets_are came_is =
    account_of_opening role config old piece (after_feed role config old piece) octets came awaits octets_are (λ e. came_is) (λ e. absurd (fault_finished (after_feed role config old piece).outcome fed.answer e)) (λ e. came_is)

-- the same of an end that has put start
pub account_of_whole : (role : Role) (config : Config role) (event : Option Event) (old new : Endpoint) (piece : List ℕ) (count octets : ℕ) (came : Came)
    → awaits_opening role old.end.phase ≡ true → event ≡ Some Quiet → IsFed (Ok (record { octets = count; event = event })) old (after_feed role config old piece) new → octets ≡ count → came ≡ puts_alone (owed_at_start role config)
    → IsAccount role config old piece (after_feed role config old piece) octets came
account_of_whole role config event old new piece count octets came awaits quiet fed octets_are came_is =
    let says = subst (λ o. AnswersEvent o (after_feed role config old piece).outcome) quiet fed.answer in
    account_of_opening role config old piece (after_feed role config old piece) octets came awaits (octets_are ∙ fed.taken)
    (λ e. absurd (quiet_unfinished (after_feed role config old piece).outcome says e)) (λ e. came_is) (λ e. absurd (quiet_found (after_feed role config old piece).outcome says e))

-- What an account says where nothing came yet.
pub came_fresh : (settings : Settings) (account : Account) (event : Option Event) → IsFresh account → event ≡ None → came_by settings account event ≡ puts_alone []
came_fresh settings account event fresh none = λ i. record { took = note_there (fresh.took i); item = item_in_event (none i); owed = owed_view settings (fresh.owed i) }

-- and where start is owed
pub came_owed : (settings : Settings) (account after : Account) (more : Owed) (event : Option Event) → IsFresh account → after.took ≡ account.took → after.owed ≡ more → event ≡ Some Quiet
    → came_by settings after event ≡ puts_alone (owed_view settings more)
came_owed settings account after more event fresh took owed quiet =
    λ i. record { took = note_there ((took ∙ fresh.took) i); item = item_in_event (quiet i); owed = owed_view settings (owed i) }

-- The item of the event that is answered is the item of what came.
pub item_is : {A : Type 0} (said : Result A CoreFault) (octets : ℕ) (event : Option Event) (outcome : Outcome) → AnswersFrame (answer_with said event) outcome → ran_out said ≡ false
    → item_in_event (event_in (taken_with said octets event)) ≡ item_in_outcome outcome
item_is (Ok done) octets event Unfinished says ran = ap item_in_event says
item_is (Ok done) octets event (Finished told) says ran = ap item_in_event (sym says)
item_is (Ok done) octets event (Found fault) says ran = absurd says
item_is (Err (core.Peer code)) octets event outcome says ran = sym (ap item_in_outcome says)
item_is (Err core.Fatal) octets event outcome (inl says) ran = sym (ap item_in_outcome says)
item_is (Err core.Fatal) octets event outcome (inr says) ran = sym (ap item_in_outcome says)
item_is (Err core.OutOfMemory) octets event outcome says ran = absurd (false≢true (sym ran))
item_is (Err core.Failed) octets event outcome says ran = sym (ap item_in_outcome says)
item_is (Err core.Closed) octets event outcome says ran = sym (ap item_in_outcome says)

-- In the words of the splitter.

pub rest_of : (stream : Stream) (old : Endpoint) (piece : List ℕ) (taken : ℕ) → SplitsFor old stream → Waits stream piece taken → IsRest (frame_limit old.end.agreed) (old.unfinished ++ piece)
rest_of stream old piece taken splits waits =
    subst (λ l. IsRest l (old.unfinished ++ piece)) splits.limit (subst (λ xs. IsRest stream.limit (xs ++ piece)) splits.pending waits.rest)

pub whole_of : (stream : Stream) (old : Endpoint) (taken : List ℕ) (frame : Frame) → SplitsFor old stream → Completes stream taken frame → IsWhole (frame_limit old.end.agreed) (old.unfinished ++ taken) frame
whole_of stream old taken frame splits completes = record {
  is_frame = ap (λ xs. xs ++ taken) (sym splits.pending) ∙ completes.is_frame;
  fits = completes.fits;
  within = subst (λ l. frame_length frame ≤ l) splits.limit completes.within;
}

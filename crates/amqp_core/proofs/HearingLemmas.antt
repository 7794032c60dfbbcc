-- An end that keeps what was heard by a history keeps it still by the history that follows.
use Rattle.std.proofs.Common.{◌≡◌, ◌&&◌, ◌==◌, inl, inr, Bool, true, false, cond, ℕ, List, ◌++◌, map, take, Option, None, Result, Ok, Err, refl, sym, ap, ◌∙◌, subst}
use Rattle.std.proofs.lemmas.Bool.{false≢true}
use Rattle.amqp_method.specs.declared.kinds.Kind.TheVariants as kinds
use Rattle.amqp_model.specs.End.Channels.{End}
use Rattle.amqp_model.specs.End.Closes.{frame_of}
use Rattle.amqp_model.specs.End.EndVerdict.{end_verdict, goes_on, takes_frames, takes_octets}
use Rattle.amqp_model.specs.End.Events as events
use Rattle.amqp_model.specs.End.Heard as model
use Rattle.amqp_model.specs.End.Heard.{awaited_by, heard, heard_after, hears}
use Rattle.amqp_model.specs.End.LawfulHistories.{then_put, then_taken}
use Rattle.amqp_model.specs.End.Machine.{StandsFor}
use Rattle.amqp_model.specs.History.Histories.{History}
use Rattle.amqp_model.specs.History.Negotiation.{Config, PROTOCOL_HEADER, frame_limit}
use Rattle.amqp_model.specs.Laws.HeardLaws.{HeardFollows, HeardStays, HearsAlike, KeepsHeard}
use Rattle.amqp_model.specs.Laws.OctetLaws.{CompletesFrame, EndpointStandsFor, Follows, IsWhole, waits, greets, takes, faults, tells, differs, refuses}
use Rattle.amqp_model.specs.Laws.StreamingLaws.{FeedsAlike}
use Rattle.amqp_model.specs.Lent.Alike.{AlikeEndpoints, AlikeFeedings, OutcomeTelling, NothingYet, Failing, outcome_telling}
use Rattle.amqp_model.specs.Stream.Endpoint.{Endpoint, Feeding, Outcome, Unfinished, Finished, Found, after_feed, awaits_opening, owed_at_start, owed_at_fault}
use Rattle.amqp_model.specs.Stream.Grown.{Grows}
use Rattle.amqp_model.specs.Stream.Octets.{opening_written}
use Rattle.amqp_model.specs.Wire.Frame.{Frame}
use Rattle.amqp_model.specs.Wire.Methods.{MethodKind}
use Rattle.amqp_model.specs.Wire.Notes.{Role}
use Rattle.amqp_model.specs.Wire.Readings.{reading}
use Rattle.amqp_core.specs.Faults.Answering.{Reports, AnswersEvent, is_out_of_memory, ran_out}
use Rattle.amqp_core.specs.Heard.OfEnd.{HearsOn, is_kept}
use Rattle.amqp_core.specs.End.Feeding.{AnswersPiece, seen}
use Rattle.amqp_core.specs.Heard.View.{Said, kept_of_kind, said_after}
use Rattle.amqp_core.specs.Heard.Hearing.{Hears, HearsFrame}
use Rattle.amqp_core.specs.Stream.Lending.{AnswersLent, LentSeen}
use Rattle.amqp_core.specs.Heard.OfStream.{StreamHearsOn}
use Rattle.amqp_core.specs.Stream.History.{StreamGoesOn}
use Rattle.amqp_core.specs.declared.faults.CoreFault.{CoreFault}
use Rattle.amqp_core.specs.declared.faults.CoreFault.TheVariants as core
use Rattle.amqp_core.specs.declared.taken.Taken.{Taken}

-- a fault is answered where one is found
abbrev pub is_found : Outcome → Bool
is_found (Found fault) = true
is_found outcome = false

reports_found : (fault : CoreFault) (outcome : Outcome) → is_out_of_memory fault ≡ false → Reports fault outcome → is_found outcome ≡ true
reports_found (core.Peer code) outcome e r = ap is_found r
reports_found core.Fatal outcome e (inl r) = ap is_found r
reports_found core.Fatal outcome e (inr r) = ap is_found r
reports_found core.OutOfMemory outcome e r = absurd (false≢true (sym e))
reports_found core.Failed outcome e r = ap is_found r
reports_found core.Closed outcome e r = ap is_found r

tells_none : (event : Option events.Event) (outcome : Outcome) → AnswersEvent event outcome → is_found outcome ≡ false
tells_none event Unfinished t = refl
tells_none event (Finished told) t = refl
tells_none event (Found fault) t = absurd t

-- what is heard of the handshake, by what comes of the piece
pub record HeardBy (role : Role) (config : Config role) (old : Endpoint) (piece : List ℕ) (fed : Feeding) (before after : model.Heard) : Type 0 where
  pub waits : fed.outcome ≡ Unfinished → after ≡ before
  pub greets : awaits_opening role old.end.phase ≡ true → after ≡ before
  pub takes : (frame : Frame) → takes_frames old.end.phase ≡ true → CompletesFrame old piece fed frame → is_found fed.outcome ≡ false
      → after ≡ heard_after (hears config old.end frame) before
  pub at_fault : is_found fed.outcome ≡ true → after ≡ before

methods_same : (before after : Said) → after ≡ before → after.methods ≡ before.methods
methods_same before after e = ap (λ (s : Said). s.methods) e

by_frame : (role : Role) (config : Config role) (old : Endpoint) (piece : List ℕ) (fed : Feeding) (end : Endpoint) (before after : Said)
    → is_found fed.outcome ≡ false → HearsFrame role config old piece fed before after
    → HeardBy role config old piece (record fed { endpoint = end }) before.methods after.methods
by_frame role config old piece fed end before after found is = record {
  waits = λ e. methods_same before after (is.waits e);
  greets = λ e. methods_same before after (is.greets e);
  takes = λ frame phase completes goes. methods_same (said_after config old.end frame before) after (is.takes frame phase completes);
  at_fault = λ e. absurd (false≢true (sym found ∙ e));
}

by_fault : (role : Role) (config : Config role) (old : Endpoint) (piece : List ℕ) (fed : Feeding) (end : Endpoint) (before after : Said)
    → is_found fed.outcome ≡ true → after ≡ before
    → HeardBy role config old piece (record fed { endpoint = end }) before.methods after.methods
by_fault role config old piece fed end before after found is = record {
  waits = λ e. methods_same before after is;
  greets = λ e. methods_same before after is;
  takes = λ frame phase completes goes. absurd (false≢true (sym goes ∙ found));
  at_fault = λ e. methods_same before after is;
}

pub by_taken : (role : Role) (config : Config role) (result : Result Taken CoreFault) (old : Endpoint) (piece : List ℕ) (fed : Feeding) (end : Endpoint) (before after : Said)
    → ran_out result ≡ false → AnswersPiece (seen result) fed.outcome → Hears role config result old piece fed before after
    → HeardBy role config old piece (record fed { endpoint = end }) before.methods after.methods
by_taken role config (Ok taken) old piece fed end before after ran answers is =
    by_frame role config old piece fed end before after (tells_none _ fed.outcome answers) is.hears
by_taken role config (Err fault) old piece fed end before after ran answers is =
    by_fault role config old piece fed end before after (reports_found fault fed.outcome ran answers) (is.at_fault ran)

neither : {A : Type 0} (b : Bool) (x : Option A) → cond (b && false) x None ≡ None
neither true x = refl
neither false x = refl

-- nothing is heard of a frame with which a fault is found
fault_hears : (role : Role) (config : Config role) (end : End) (frame : Frame) (fault : events.Fault) → end_verdict config end frame ≡ events.Faults fault
    → hears config end frame ≡ None
fault_hears role config end frame fault verdict =
    ap (λ v. cond ((frame.channel == 0) && goes_on v) (awaited_by end.phase (reading frame)) None) verdict
    ∙ neither (frame.channel == 0) (awaited_by end.phase (reading frame))

keeps_none : (role : Role) (config : Config role) (kept : model.Heard) (history : History) → KeepsHeard role config (heard_after None kept) history → KeepsHeard role config kept history
keeps_none role config kept history k =
    record { start = k.start; start_ok = k.start_ok; tune = k.tune; tune_ok = k.tune_ok; connection_open = k.connection_open }

keeps_at_fault : (role : Role) (config : Config role) (end : End) (frame : Frame) (fault : events.Fault) (kept : model.Heard) (history : History)
    → end_verdict config end frame ≡ events.Faults fault → KeepsHeard role config (heard_after (hears config end frame) kept) history → KeepsHeard role config kept history
keeps_at_fault role config end frame fault kept history verdict k =
    keeps_none role config kept history (subst (λ now. KeepsHeard role config (heard_after now kept) history) (fault_hears role config end frame fault verdict) k)

keeps_same : (role : Role) (config : Config role) (before after : model.Heard) (history : History) → after ≡ before → KeepsHeard role config before history → KeepsHeard role config after history
keeps_same role config before after history same keeps = subst (λ (h : model.Heard). KeepsHeard role config h history) (sym same) keeps

pub hears_on : (role : Role) (config : Config role) (old : Endpoint) (history : History) (fed written piece : List ℕ) (new : Feeding) (before after : model.Heard)
    → HeardFollows → HeardStays → takes_octets old.end.phase ≡ true
    → EndpointStandsFor role config old history fed written → KeepsHeard role config before history
    → HeardBy role config old piece new before after
    → Follows role config old history fed written piece new
    → HearsOn role config old fed written piece new after
hears_on role config old history fed written piece new before after follows stays taking stands kept by (waits outcome then) = record {
  after = history;
  stands = inl then;
  keeps = keeps_same role config before after history (by.waits outcome) kept;
}
hears_on role config old history fed written piece new before after follows stays taking stands kept by (greets awaits empty outcome then) =
    let later = then_put (map frame_of (owed_at_start role config)) history in
    record {
      after = later;
      stands = inl then;
      keeps = keeps_same role config before after later (by.greets awaits) (stays role config history (map frame_of (owed_at_start role config)) before kept);
    }
hears_on role config old history fed written piece new before after follows stays taking stands kept by (takes frame phase completes goes outcome then) =
    let later = then_taken config old.end frame history in
    record {
      after = later;
      stands = inl then;
      keeps = keeps_same role config (heard_after (hears config old.end frame) before) after later (by.takes frame phase completes (ap is_found outcome))
          (follows role config old.end history frame before stands.stands kept);
    }
hears_on role config old history fed written piece new before after follows stays taking stands kept by (faults frame fault phase completes verdict outcome failed) =
    let later = then_taken config old.end frame history in
    record {
      after = later;
      stands = inr (opening_written role, failed);
      keeps = keeps_same role config before after later (by.at_fault (ap is_found outcome))
          (keeps_at_fault role config old.end frame fault before later verdict (follows role config old.end history frame before stands.stands kept));
    }
hears_on role config old history fed written piece new before after follows stays taking stands kept by (tells kind phase shows outcome failed) =
    let later = then_put (map frame_of (owed_at_fault config old.end kind)) history in
    record {
      after = later;
      stands = inr (opening_written role, failed);
      keeps = keeps_same role config before after later (by.at_fault (ap is_found outcome)) (stays role config history (map frame_of (owed_at_fault config old.end kind)) before kept);
    }
hears_on role config old history fed written piece new before after follows stays taking stands kept by (differs awaits outcome failed) = record {
  after = history;
  stands = inr (PROTOCOL_HEADER, failed);
  keeps = keeps_same role config before after history (by.at_fault (ap is_found outcome)) kept;
}
hears_on role config old history fed written piece new before after follows stays taking stands kept by (refuses closed nothing) =
    absurd (false≢true (sym (ap takes_octets closed) ∙ taking))

-- The same where a history grows by what comes of the piece, whatever else is kept beside.
pub keeps_grown : (role : Role) (config : Config role) (old : Endpoint) (history after : History) (piece : List ℕ) (new : Feeding) (before kept : model.Heard)
    → HeardFollows → HeardStays → takes_octets old.end.phase ≡ true
    → StandsFor role config false old.end history → KeepsHeard role config before history
    → HeardBy role config old piece new before kept
    → Grows role config old piece new history after
    → KeepsHeard role config kept after
keeps_grown role config old history _ piece new before kept follows stays taking stands had by (Grows.waits outcome) =
    keeps_same role config before kept history (by.waits outcome) had
keeps_grown role config old history _ piece new before kept follows stays taking stands had by (Grows.greets awaits empty outcome) =
    keeps_same role config before kept (then_put (map frame_of (owed_at_start role config)) history) (by.greets awaits)
    (stays role config history (map frame_of (owed_at_start role config)) before had)
keeps_grown role config old history _ piece new before kept follows stays taking stands had by (Grows.takes frame phase completes goes outcome) =
    keeps_same role config (heard_after (hears config old.end frame) before) kept (then_taken config old.end frame history)
    (by.takes frame phase completes (ap is_found outcome)) (follows role config old.end history frame before stands had)
keeps_grown role config old history _ piece new before kept follows stays taking stands had by (Grows.faults frame fault phase completes verdict outcome) =
    let later = then_taken config old.end frame history in
    keeps_same role config before kept later (by.at_fault (ap is_found outcome))
    (keeps_at_fault role config old.end frame fault before later verdict (follows role config old.end history frame before stands had))
keeps_grown role config old history _ piece new before kept follows stays taking stands had by (Grows.tells kind phase shows outcome) =
    let later = then_put (map frame_of (owed_at_fault config old.end kind)) history in
    keeps_same role config before kept later (by.at_fault (ap is_found outcome))
    (stays role config history (map frame_of (owed_at_fault config old.end kind)) before had)
keeps_grown role config old history _ piece new before kept follows stays taking stands had by (Grows.differs awaits outcome) =
    keeps_same role config before kept history (by.at_fault (ap is_found outcome)) had
keeps_grown role config old history _ piece new before kept follows stays taking stands had by (Grows.refuses fault refused nothing) =
    keeps_same role config before kept history (by.at_fault (ap (λ (f : Feeding). is_found f.outcome) nothing)) had

-- At a lending end, by an end that gathers to which it is alike.

abbrev telling_found : OutcomeTelling → Bool
telling_found (Failing fault) = true
telling_found told = false

found_told : (outcome : Outcome) → telling_found (outcome_telling outcome) ≡ is_found outcome
found_told Unfinished = refl
found_told (Finished event) = refl
found_told (Found fault) = refl

abbrev telling_some : OutcomeTelling → Bool
telling_some NothingYet = false
telling_some told = true

nothing_yet : (outcome : Outcome) → outcome_telling outcome ≡ NothingYet → outcome ≡ Unfinished
nothing_yet Unfinished e = refl
nothing_yet (Finished event) e = absurd (false≢true (sym (ap telling_some e)))
nothing_yet (Found fault) e = absurd (false≢true (sym (ap telling_some e)))

found_alike : (one other : Outcome) → outcome_telling one ≡ outcome_telling other → is_found one ≡ is_found other
found_alike one other e = sym (found_told one) ∙ (ap telling_found e ∙ found_told other)

whole_alike : (old gathers : Endpoint) (piece : List ℕ) (fed other : Feeding) (frame : Frame) → AlikeEndpoints gathers old → AlikeFeedings other fed
    → CompletesFrame gathers piece other frame → CompletesFrame old piece fed frame
whole_alike old gathers piece fed other frame alike same whole =
    subst (λ limit. IsWhole limit (old.unfinished ++ take fed.taken piece) frame) (ap frame_limit alike.end.agreed)
    (subst (λ xs. IsWhole (frame_limit gathers.end.agreed) xs frame) (λ i. alike.unfinished i ++ take (same.taken i) piece) whole)

heard_alike : (role : Role) (config : Config role) (old gathers : Endpoint) (piece : List ℕ) (fed other : Feeding) (before after : model.Heard)
    → HearsAlike → AlikeEndpoints gathers old → AlikeFeedings other fed
    → HeardBy role config old piece fed before after → HeardBy role config gathers piece other before after
heard_alike role config old gathers piece fed other before after law alike same by = record {
  waits = λ e. by.waits (nothing_yet fed.outcome (sym same.outcome ∙ ap outcome_telling e));
  greets = λ e. by.greets (ap (awaits_opening role) (sym alike.end.phase) ∙ e);
  takes = λ frame phase completes goes.
      by.takes frame (ap takes_frames (sym alike.end.phase) ∙ phase) (whole_alike old gathers piece fed other frame alike same completes)
      (sym (found_alike other.outcome fed.outcome same.outcome) ∙ goes)
      ∙ ap (λ now. heard_after now before) (sym (law role config gathers.end old.end frame alike.end));
  at_fault = λ e. by.at_fault (sym (found_alike other.outcome fed.outcome same.outcome) ∙ e);
}

lent_none : (seen : LentSeen) (outcome : Outcome) → AnswersLent (Ok seen) outcome → is_found outcome ≡ false
lent_none seen Unfinished answers = refl
lent_none seen (Finished event) answers = refl
lent_none seen (Found fault) answers = absurd answers

pub by_lent : (role : Role) (config : Config role) (result : Result LentSeen CoreFault) (old : Endpoint) (piece : List ℕ) (fed : Feeding) (before after : Said)
    → ran_out result ≡ false → AnswersLent result fed.outcome → Hears role config result old piece fed before after
    → HeardBy role config old piece (record fed { endpoint = fed.endpoint }) before.methods after.methods
by_lent role config (Ok seen) old piece fed before after ran answers is =
    by_frame role config old piece fed fed.endpoint before after (lent_none seen fed.outcome answers) is.hears
by_lent role config (Err fault) old piece fed before after ran answers is =
    by_fault role config old piece fed fed.endpoint before after (reports_found fault fed.outcome ran answers) (is.at_fault ran)

pub stream_hears_on : (role : Role) (config : Config role) (old new : Endpoint) (history : History) (fed written piece : List ℕ) (before after : model.Heard)
    → HeardFollows → HeardStays → HearsAlike → FeedsAlike → takes_octets old.end.phase ≡ true
    → HeardBy role config old piece (after_feed role config old piece) before after → KeepsHeard role config before history
    → StreamGoesOn role config false old history fed written piece new
    → StreamHearsOn role config old history fed written piece new after
stream_hears_on role config old new history fed written piece before after follows stays law feeds taking by kept on = record {
  gathers = on.gathers;
  stands = on.stands;
  alike = on.alike;
  hears = hears_on role config on.gathers history fed written piece (after_feed role config on.gathers piece) before after follows stays
      (ap takes_octets on.alike.end.phase ∙ taking) on.stands kept
      (heard_alike role config old on.gathers piece (after_feed role config old piece) (after_feed role config on.gathers piece) before after law on.alike (feeds role config on.gathers old piece on.alike) by)
      on.goes_on;
  left = on.left;
}

-- what is kept of a kind is the last that was heard of it
pub kept_is_heard : (role : Role) (config : Config role) (kept : model.Heard) (history : History) (kind : MethodKind) → KeepsHeard role config kept history → is_kept kind ≡ true
    → kept_of_kind kind kept ≡ heard role config kind history
kept_is_heard role config kept history kinds.ConnectionStart keeps is = keeps.start
kept_is_heard role config kept history kinds.ConnectionStartOk keeps is = keeps.start_ok
kept_is_heard role config kept history kinds.ConnectionTune keeps is = keeps.tune
kept_is_heard role config kept history kinds.ConnectionTuneOk keeps is = keeps.tune_ok
kept_is_heard role config kept history kinds.ConnectionOpen keeps is = keeps.connection_open
kept_is_heard role config kept history kind keeps is = absurd (false≢true is)

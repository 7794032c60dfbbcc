-- What is counted of the octets of a piece, and what is blamed, where a frame is taken, a rest, octets that show a fault, or
-- those of the protocol header.
use Rattle.std.proofs.Common.{◌≡◌, ◌-◌, true, false, ℕ, List, ◌++◌, length, take, Option, None, Result, Ok, Err, inl, inr, refl, ap, sym, ◌∙◌, subst}
use Rattle.std.proofs.Math.Seq.{take-length}
use Rattle.std.proofs.lemmas.Bool.{false≢true}
use Rattle.amqp_frame.specs.Splitting.{IsRest}
use Rattle.amqp_frame.specs.declared.faults.FrameFaultKind.{FrameFaultKind}
use Rattle.amqp_frame.specs.declared.faults.FrameFaultKind.TheVariants as kinds
use Rattle.amqp_model.specs.End.Closes.{CloseCode}
use Rattle.amqp_model.specs.End.EndVerdict.{takes_frames, takes_octets}
use Rattle.amqp_model.specs.End.Events.{Event}
use Rattle.amqp_model.specs.History.Negotiation.{Config, frame_limit}
use Rattle.amqp_model.specs.Laws.OctetLaws.{CompletesFrame, IsWhole, OneIsSaid}
use Rattle.amqp_model.specs.Stream.Endpoint.{Begun, Endpoint, Feeding, Found, Outcome, Whole, Wrong, after_judged, awaits_opening, fault_told, holds_octets}
use Rattle.amqp_model.specs.Stream.Pieces.{reads_frames, with_taken}
use Rattle.amqp_model.specs.Wire.Frame.{Frame}
use Rattle.amqp_model.specs.Wire.Notes.{Role}
use Rattle.amqp_core.specs.Traced.AccountView.{Came, IsAccount}
use Rattle.amqp_core.specs.Faults.Answering.{Reports, is_out_of_memory, ran_out}
use Rattle.amqp_core.specs.Faults.Blamed.{Blames, IsBroken, Tally, begins_at, blamed_if, blames_frame, blames_octets, code_found, code_of, code_told, counted, frame_blamed, octets_blamed, rule_code}
use Rattle.amqp_core.specs.End.Feeding.{seen, taken_with}
use Rattle.amqp_core.specs.Stream.StepView.{step_seen}
use Rattle.amqp_core.specs.declared.blame.Rule.TheVariants as rules
use Rattle.amqp_core.specs.declared.faults.CoreFault.{CoreFault}
use Rattle.amqp_core.specs.declared.faults.CoreFault.TheVariants as core
use Rattle.amqp_core.specs.declared.step.Step.{Step}
use Rattle.amqp_core.specs.declared.taken.Taken.{Taken}
use Rattle.amqp_core.proofs.AccountLemmas.{awaits_none, frame_or, is_begun, is_some, is_wrong, no_frames}

-- The rule of octets that are no frame is the one that is broken where they are answered.

framing : (kind : FrameFaultKind) → rule_code (rules.Framing kind) ≡ code_of (fault_told kind)
framing kinds.UnknownType = refl
framing kinds.TooLarge = refl
framing kinds.BadEnd = refl
framing kinds.OutOfMemory = refl
framing kinds.Failed = refl

abbrev code_in : Outcome → Option CloseCode
code_in (Found fault) = code_of fault
code_in outcome = None

pub framing_broken : (kind : FrameFaultKind) (answer : CoreFault) → Reports answer (Found (fault_told kind)) → IsBroken (rules.Framing kind) answer
framing_broken kind (core.Peer code) says = framing kind ∙ ap code_in says
framing_broken kind core.Fatal (inl says) = framing kind ∙ ap code_in says
framing_broken kind core.Fatal (inr says) = framing kind ∙ ap code_in says
framing_broken kind core.OutOfMemory says = tt
framing_broken kind core.Failed says = tt
framing_broken kind core.Closed says = tt

-- The same of an answer in another form.
pub blames_as : {A B : Type 0} (role : Role) (result : Result A CoreFault) (other : Result B CoreFault) (old : Endpoint) (piece : List ℕ) (fed : Feeding) (before after : Tally)
    → code_found other ≡ code_found result → ran_out other ≡ ran_out result → Blames role result old piece fed before after → Blames role other old piece fed before after
blames_as role result other old piece fed before after code ran blames = record {
  taken = λ takes out. blames.taken takes (sym ran ∙ out);
  faultless = λ none. blames.faultless (sym code ∙ none);
  frame = λ frame phase completes. blames.frame frame phase completes ∙ ap (λ c. blamed_if c (frame_blamed (begins_at after.taken frame) frame) before.blame) (sym code);
  octets = λ kind phase shows. blames.octets kind phase shows ∙ ap (λ c. blamed_if c (octets_blamed (before.taken - length old.unfinished)) before.blame) (sym code);
  header = λ awaits. blames.header awaits ∙ ap (λ c. blamed_if c (octets_blamed (before.taken - length old.unfinished)) before.blame) (sym code);
}

-- Nothing is blamed, and either no octets are taken or memory was refused.
pub blames_nothing : {A : Type 0} (role : Role) (result : Result A CoreFault) (old : Endpoint) (piece : List ℕ) (fed : Feeding) (tally : Tally)
    → code_found result ≡ None → (takes_octets old.end.phase ≡ true → ran_out result ≡ false → ⊥) → Blames role result old piece fed tally tally
blames_nothing role result old piece fed tally none over = record {
  taken = λ takes ran. absurd (over takes ran);
  faultless = λ none. refl;
  frame = λ frame phase completes. ap (λ c. blamed_if c (frame_blamed (begins_at tally.taken frame) frame) tally.blame) (sym none);
  octets = λ kind phase shows. ap (λ c. blamed_if c (octets_blamed (tally.taken - length old.unfinished)) tally.blame) (sym none);
  header = λ awaits. ap (λ c. blamed_if c (octets_blamed (tally.taken - length old.unfinished)) tally.blame) (sym none);
}

-- A whole frame was taken.
pub blames_of_frame : {A : Type 0} (role : Role) (config : Config role) (result : Result A CoreFault) (old : Endpoint) (piece : List ℕ) (fed : Feeding) (count : ℕ) (frame : Frame) (before between after : Tally)
    → OneIsSaid → reads_frames role old.end.phase ≡ true
    → fed ≡ with_taken count (after_judged role config old (old.unfinished ++ take count piece) (Whole frame))
    → IsWhole (frame_limit old.end.agreed) (old.unfinished ++ take count piece) frame
    → between ≡ record before { taken = counted before.taken count } → after ≡ blames_frame (code_found result) frame between
    → Blames role result old piece fed before after
blames_of_frame {A} role config result old piece fed count frame before between after one r is whole counts blames =
    let taken : between.taken ≡ after.taken = sym (ap (λ (t : Tally). t.taken) blames) in
    let kept : between.blame ≡ before.blame = ap (λ (t : Tally). t.blame) counts in
    let blame : after.blame ≡ blamed_if (code_found result) (frame_blamed (begins_at between.taken frame) frame) between.blame = ap (λ (t : Tally). t.blame) blames in
    subst (λ f. Blames role result old piece f before after) (sym is)
    (record {
      taken = λ takes ran. sym taken ∙ ap (λ (t : Tally). t.taken) counts;
      faultless = λ none. blame ∙ (ap (λ c. blamed_if c (frame_blamed (begins_at between.taken frame) frame) between.blame) none ∙ kept);
      frame = λ other phase completes.
          let same : frame ≡ other = ap (frame_or frame) (one (frame_limit old.end.agreed) (old.unfinished ++ take count piece) (Whole frame) (Whole other) whole completes) in
          blame ∙ (λ i. blamed_if (code_found result) (frame_blamed (begins_at (taken i) (same i)) (same i)) (kept i));
      octets = λ kind phase shows. absurd (false≢true (ap is_wrong (one (frame_limit old.end.agreed) (old.unfinished ++ take count piece) (Whole frame) (Wrong kind) whole shows)));
      header = λ awaits. absurd (awaits_none role old.end.phase r awaits);
    })

-- A frame is begun, and no more came.
pub blames_of_rest : {A : Type 0} (role : Role) (result : Result A CoreFault) (old : Endpoint) (piece : List ℕ) (fed : Feeding) (count : ℕ) (before after : Tally)
    → OneIsSaid → reads_frames role old.end.phase ≡ true
    → fed ≡ with_taken count (holds_octets old (old.unfinished ++ piece)) → count ≡ length piece
    → IsRest (frame_limit old.end.agreed) (old.unfinished ++ piece)
    → code_found result ≡ None → after ≡ record before { taken = counted before.taken count }
    → Blames role result old piece fed before after
blames_of_rest role result old piece fed count before after one r is all rest none counts =
    let there : old.unfinished ++ piece ≡ old.unfinished ++ take count piece = ap (λ xs. old.unfinished ++ xs) (sym (ap (λ n. take n piece) all ∙ take-length piece)) in
    let begun : IsRest (frame_limit old.end.agreed) (old.unfinished ++ take count piece) = subst (λ xs. IsRest (frame_limit old.end.agreed) xs) there rest in
    subst (λ f. Blames role result old piece f before after) (sym is)
    (record {
      taken = λ takes ran. ap (λ (t : Tally). t.taken) counts;
      faultless = λ none. ap (λ (t : Tally). t.blame) counts;
      frame = λ other phase completes. absurd (false≢true (sym (ap is_begun (one (frame_limit old.end.agreed) (old.unfinished ++ take count piece) Begun (Whole other) begun completes))));
      octets = λ kind phase shows. absurd (false≢true (ap is_wrong (one (frame_limit old.end.agreed) (old.unfinished ++ take count piece) Begun (Wrong kind) begun shows)));
      header = λ awaits. absurd (awaits_none role old.end.phase r awaits);
    })

-- Octets show a fault.

no_frame_there : (role : Role) (config : Config role) (old : Endpoint) (piece : List ℕ) (fed : Feeding) (octets : ℕ) (came : Came) (frame : Frame)
    → IsAccount role config old piece fed octets came → came.took ≡ None → takes_frames old.end.phase ≡ true → CompletesFrame old piece fed frame → ⊥
no_frame_there role config old piece fed octets came frame account none phase completes =
    false≢true (sym (ap is_some none) ∙ ap (λ (c : Came). is_some c.took) (account.takes frame phase completes))

frame_of_fault : (role : Role) (config : Config role) (answer : CoreFault) (old : Endpoint) (piece : List ℕ) (fed : Feeding) (octets pending : ℕ) (came : Came) (before after : Tally) (frame : Frame)
    → (is_out_of_memory answer ≡ false → IsAccount role config old piece fed octets came) → came.took ≡ None
    → after.blame ≡ blamed_if (code_told answer) (octets_blamed (before.taken - pending)) before.blame
    → takes_frames old.end.phase ≡ true → CompletesFrame old piece fed frame
    → after.blame ≡ blamed_if (code_told answer) (frame_blamed (begins_at after.taken frame) frame) before.blame
frame_of_fault role config (core.Peer code) old piece fed octets pending came before after frame account none blame phase completes =
    absurd (no_frame_there role config old piece fed octets came frame (account refl) none phase completes)
frame_of_fault role config core.Fatal old piece fed octets pending came before after frame account none blame phase completes =
    absurd (no_frame_there role config old piece fed octets came frame (account refl) none phase completes)
frame_of_fault role config core.OutOfMemory old piece fed octets pending came before after frame account none blame phase completes = blame
frame_of_fault role config core.Failed old piece fed octets pending came before after frame account none blame phase completes = blame
frame_of_fault role config core.Closed old piece fed octets pending came before after frame account none blame phase completes = blame

pub blames_of_fault : {A : Type 0} (role : Role) (config : Config role) (answer : CoreFault) (old : Endpoint) (piece : List ℕ) (fed : Feeding) (octets pending : ℕ) (came : Came) (before after : Tally)
    → reads_frames role old.end.phase ≡ true → (is_out_of_memory answer ≡ false → IsAccount role config old piece fed octets came) → came.took ≡ None
    → pending ≡ length old.unfinished → after ≡ blames_octets (code_told answer) pending octets before
    → Blames {A = A} role (Err answer) old piece fed before after
blames_of_fault {A} role config answer old piece fed octets pending came before after r account none many blames =
    let blame : after.blame ≡ blamed_if (code_told answer) (octets_blamed (before.taken - pending)) before.blame = ap (λ (t : Tally). t.blame) blames in
    let there = blame ∙ ap (λ n. blamed_if (code_told answer) (octets_blamed (before.taken - n)) before.blame) many in
    record {
      taken = λ takes ran. ap (λ (t : Tally). t.taken) blames ∙ ap (λ n. counted before.taken n) (account ran).octets_are;
      faultless = λ none. blame ∙ ap (λ c. blamed_if c (octets_blamed (before.taken - pending)) before.blame) none;
      frame = λ frame phase completes. frame_of_fault role config answer old piece fed octets pending came before after frame account none blame phase completes;
      octets = λ kind phase shows. there;
      header = λ awaits. absurd (awaits_none role old.end.phase r awaits);
    }

-- Octets of the protocol header.
pub blames_of_opening : {A : Type 0} (role : Role) (result : Result A CoreFault) (old : Endpoint) (piece : List ℕ) (fed : Feeding) (before after : Tally)
    → awaits_opening role old.end.phase ≡ true → (ran_out result ≡ false → after.taken ≡ counted before.taken fed.taken)
    → after.blame ≡ blamed_if (code_found result) (octets_blamed (before.taken - length old.unfinished)) before.blame
    → Blames role result old piece fed before after
blames_of_opening role result old piece fed before after awaits taken blame = record {
  taken = λ takes. taken;
  faultless = λ none. blame ∙ ap (λ c. blamed_if c (octets_blamed (before.taken - length old.unfinished)) before.blame) none;
  frame = λ frame phase completes. absurd (no_frames role old.end.phase awaits phase);
  octets = λ kind phase shows. absurd (no_frames role old.end.phase awaits phase);
  header = λ awaits. blame;
}

-- The code is the same, whatever else is answered.

pub code_step : (result : Result Step CoreFault) (given : Option Frame) → code_found (step_seen result given) ≡ code_found result
code_step (Ok step) given = refl
code_step (Err fault) given = refl

code_seen : (result : Result Taken CoreFault) → code_found (seen result) ≡ code_found result
code_seen (Ok taken) = refl
code_seen (Err fault) = refl

code_with : {A : Type 0} (said : Result A CoreFault) (octets : ℕ) (event : Option Event) → code_found (taken_with said octets event) ≡ code_found said
code_with (Ok done) octets event = refl
code_with (Err fault) octets event = refl

pub code_taken : {A : Type 0} (said : Result A CoreFault) (result : Result Taken CoreFault) (octets : ℕ) (event : Option Event)
    → seen result ≡ taken_with said octets event → code_found result ≡ code_found said
code_taken said result octets event is = sym (code_seen result) ∙ (ap (λ r. code_found r) is ∙ code_with said octets event)

-- What a push moves, and a push after a pull.
use Rattle.std.proofs.Common.{◌≡◌, Bool, true, false, ℕ, ◌≤◌, min, List, [], length, take, Option, Result, Ok, Err, refl, sym, ◌∙◌, ap, subst, arith}
use Rattle.std.proofs.lemmas.Bool.{true≢false}
use Rattle.std.proofs.lemmas.List.{length-take, nil_from_length, take-take}
use Rattle.std.specs.Io.KnownBytes.{append_known}
use Rattle.amqp_model.specs.Stream.Endpoint.{Endpoint, after_wrote}
use Rattle.amqp_model.specs.History.Negotiation.{Config}
use Rattle.amqp_model.specs.Wire.Notes.{Role}
use Rattle.amqp_model.specs.Output.Outputs.{output_octets}
use Rattle.amqp_io.specs.Intakes.{Intake}
use Rattle.amqp_io.specs.Sessions.{Moves, Pulls, Pushes, PullThenPush, due}
use Rattle.amqp_io.specs.Streams.{Marks}
use Rattle.amqp_io.specs.declared.faults.IoFault.{IoFault}
use Rattle.amqp_io.specs.declared.faults.IoFault.TheVariants as io

-- the part of the output that is to be written
pub length_due : (limit count : ℕ) (old : Endpoint) (output : List ℕ) → output ≡ output_octets old.output
    → count ≡ min limit (length output) → length (take count output) ≡ due limit old
length_due limit count old output output_is count_is =
    let whole : length output ≡ length (output_octets old.output) = ap length output_is in
    let part : length (take count output) ≡ min count (length output) = length-take count output in
    omega arith

pub moves : (limit count n : ℕ) (old new : Endpoint) (output : List ℕ) (before after : Option (List ℕ)) → output ≡ output_octets old.output
    → count ≡ min limit (length output) → n ≤ length (take count output) → new ≡ after_wrote n old
    → after ≡ append_known before (take n (take count output)) → Moves n old new before after
moves limit count n old new output before after output_is count_is within written taken =
    let whole : length output ≡ length (output_octets old.output) = ap length output_is in
    let part : length (take count output) ≡ min count (length output) = length-take count output in
    let most : n ≤ count = omega arith in
    record {
      within = omega arith;
      written = written;
      taken = taken ∙ ap (append_known before) (take-take n count output most ∙ ap (take n) output_is);
    }

-- where nothing is due nothing is to be written
pub none_due : (limit count : ℕ) (old : Endpoint) (output : List ℕ) → output ≡ output_octets old.output
    → count ≡ min limit (length output) → due limit old ≡ 0 → take count output ≡ []
none_due limit count old output output_is count_is none =
    nil_from_length (take count output) (length_due limit count old output output_is count_is ∙ none)

-- A push that failed answers so, and one that did not answers Ok.

pub ok_no_fault : {A : Type 0} (value : A) (fault : IoFault) → ◌≡◌ {A = Result A IoFault} (Ok value) (Err fault) → ⊥
ok_no_fault value fault e = cc

pub marks_failure : {A : Type 0} (failed : Bool) (before after : ℕ) → failed ≡ true → Marks (failed ≡ true) before after
    → Marks (◌≡◌ {A = Result A IoFault} (Err io.Write) (Err io.Write)) before after
marks_failure failed before after fails marks = (λ same. marks.0 fails, λ other. absurd (other refl))

pub marks_none : {A : Type 0} (failed : Bool) (value : A) (before after : ℕ) → failed ≡ false → Marks (failed ≡ true) before after
    → Marks (◌≡◌ {A = Result A IoFault} (Ok value) (Err io.Write)) before after
marks_none failed value before after fine marks =
    (λ same. absurd (ok_no_fault value io.Write same), λ other. marks.1 (λ fails. true≢false (sym fails ∙ fine)))

-- a pull that answered Ok, and a push of all that there was to write then
pub pulled_and_pushed : (room : ℕ) (role : Role) (config : Config role) (result : Result ℕ IoFault) (count all : ℕ) (old between new : Intake)
    (to_give middle left before during after : Option (List ℕ))
    → Pulls room role config (Ok count) old between to_give middle → left ≡ middle
    → all ≡ length (output_octets between.endpoint.output)
    → Pushes all result between.endpoint new.endpoint during after → during ≡ before
    → new.octets ≡ between.octets → new.events ≡ between.events
    → PullThenPush room role config result old new to_give left before after
pulled_and_pushed room role config result count all old between new to_give middle left before during after pulls same_left same_all pushes same_taken octets events =
    record {
      count = count;
      between = between;
      pulls = subst (λ (k : Option (List ℕ)). Pulls room role config (Ok count) old between to_give k) (sym same_left) pulls;
      pushes = subst (λ (n : ℕ). Pushes n result between.endpoint new.endpoint before after) same_all
          (subst (λ (k : Option (List ℕ)). Pushes all result between.endpoint new.endpoint k after) same_taken pushes);
      octets_stay = octets;
      events_stay = events;
    }

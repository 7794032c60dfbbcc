-- What is handed over from one side to the other, by the answer of the one that reads.
use Rattle.std.proofs.Common.{◌≡◌, ◌≢◌, ◌<◌, ◌≤◌, true, false, ℕ, List, [], All, length, take, Ok, Err, refl, ap, ◌∙◌, subst, arith}
use Rattle.std.proofs.Math.Logic.{∥∥₁_elim, ∥∥₁_prop}
use Rattle.std.proofs.lemmas.List.{length-take-le}
use Rattle.amqp_model.specs.Wire.Notes.{Role}
use Rattle.amqp_model.specs.Laws.OctetLaws.{IsOctet}
use Rattle.amqp_core.specs.Faults.Answering.{is_out_of_memory}
use Rattle.amqp_core.specs.declared.taken.Taken.{Taken}
use Rattle.amqp_core.specs.declared.faults.CoreFault.{CoreFault}
use Rattle.amqp_core.specs.declared.faults.CoreFault.TheVariants as core
use Rattle.amqp_link.specs.JoinLaws.{BothJoinLaws}
use Rattle.amqp_link.specs.Joined.{IsJoinedTo}
use Rattle.amqp_link.specs.SeatSteps.{FedBy, HandsOver, RunsOut, SideWrote, piece_of, to_write}
use Rattle.amqp_link.specs.Seats.{Seated}
use Rattle.amqp_link.proofs.Joining.{no-fault, ran-out}

-- The output of the writer, as the code has it.
piece-is : (octets : ℕ) (out : List ℕ) (writer : Seated) → out ≡ to_write writer → take octets out ≡ piece_of octets writer
piece-is octets out writer e = ap (λ o. take octets o) e

pub all-octets : (octets : ℕ) (out : List ℕ) (writer : Seated) → out ≡ to_write writer → All IsOctet (take octets out) → All IsOctet (piece_of octets writer)
all-octets octets out writer e all = subst (λ p. All IsOctet p) (piece-is octets out writer e) all

-- The piece was taken, and written.
pub hands : (octets : ℕ) (taken : Taken) (out : List ℕ) (writer reader writer_after reader_after : Seated) → out ≡ to_write writer → 0 < octets → octets ≤ length (to_write writer)
    → reader.dropped ≡ false → reader_after.dropped ≡ false → FedBy reader.set_up (take octets out) (Ok taken) reader reader_after
    → taken.octets ≤ length (take octets out) → (take octets out ≢ [] → 0 < taken.octets) → SideWrote taken.octets writer writer_after
    → HandsOver octets taken.octets writer reader writer_after reader_after
hands octets taken out writer reader writer_after reader_after e many enough there still fed within progress wrote =
    let long : length (take octets out) ≡ octets = ap length (piece-is octets out writer e) ∙ length-take-le octets (to_write writer) enough in
    record {
      taken = taken;
      counted = refl;
      some = progress (λ none. omega (arith, long, ap length none, many));
      within = omega (arith, within, long);
      was_there = there;
      is_there = still;
      reads = subst (λ p. FedBy reader.set_up p (Ok taken) reader reader_after) (piece-is octets out writer e) fed;
      writes = wrote;
    }

-- Any fault is that memory ran out.

memory-or : (fault : CoreFault) → (is_out_of_memory fault ≡ false → ⊥) → fault ≡ core.OutOfMemory
memory-or (core.Peer code) never = absurd (never refl)
memory-or core.Fatal never = absurd (never refl)
memory-or core.OutOfMemory never = refl
memory-or core.Failed never = absurd (never refl)
memory-or core.Closed never = absurd (never refl)

⊥-prop : (one other : ⊥) → one ≡ other
⊥-prop one other = absurd one

pub runs-out : (role : Role) (octets : ℕ) (fault : CoreFault) (out : List ℕ) (writer reader reader_after : Seated) → BothJoinLaws → out ≡ to_write writer → All IsOctet (take octets out) → 0 < octets → octets ≤ length (to_write writer)
    → ∥ IsJoinedTo role reader writer ∥₁ → reader.dropped ≡ false → reader_after.dropped ≡ true → FedBy reader.set_up (take octets out) (Err fault) reader reader_after
    → RunsOut octets writer reader writer reader_after
runs-out role octets fault out writer reader reader_after laws e all many enough joined there dropped fed =
    let here = subst (λ p. FedBy reader.set_up p (Err fault) reader reader_after) (piece-is octets out writer e) fed in
    let memory = memory-or fault (λ other. ∥∥₁_elim joined ⊥-prop (λ j. no-fault role octets writer reader fault reader_after.kept.endpoint laws (all-octets octets out writer e all) many enough there j here.fed other)) in
    record {
      reads = subst (λ f. FedBy reader.set_up (piece_of octets writer) (Err f) reader reader_after) memory here;
      is_dropped = dropped;
      writer_same = refl;
    }

pub out-joined : (role : Role) (octets : ℕ) (writer reader reader_after : Seated) → ∥ IsJoinedTo role reader writer ∥₁ → RunsOut octets writer reader writer reader_after → ∥ IsJoinedTo role reader_after writer ∥₁
out-joined role octets writer reader reader_after joined out = ∥∥₁_elim joined ∥∥₁_prop (λ j. ran-out role octets writer reader reader_after j out.reads out.is_dropped)

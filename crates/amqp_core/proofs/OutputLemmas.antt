-- The order of an output, and what a write makes of the histories that an end stands for.
use Rattle.std.proofs.Common.{◌≡◌, ◌≤◌, inl, Bool, true, false, ℕ, List, ◌++◌, length, take, refl, sym, subst}
use Rattle.std.proofs.Math.Logic.{∥∥₁_map}
use Rattle.amqp_model.specs.Laws.ArrangementLaws.{OutputAfterWrite, OutputFollowsRules, WriteLeaves}
use Rattle.amqp_model.specs.Stream.Endpoint.{Endpoint, after_wrote}
use Rattle.amqp_model.specs.End.Fitting.{ConfigWrites}
use Rattle.amqp_model.specs.Laws.FittingLaws.{AllReadsBack}
use Rattle.amqp_model.specs.History.Histories.{History}
use Rattle.amqp_model.specs.Laws.LeavingLaws.{ClosesArePutLast, OctetsArePutAs}
use Rattle.amqp_model.specs.History.Negotiation.{Config}
use Rattle.amqp_model.specs.Wire.Notes.{Role}
use Rattle.amqp_model.specs.Laws.OctetLaws.{EndpointStandsFor, FailedWrites, HasFailed, WroteFollows}
use Rattle.amqp_model.specs.Stream.Octets.{frames_put, opening_written}
use Rattle.amqp_model.specs.Output.Outputs.{Output, after_writing, output_octets}
use Rattle.amqp_core.specs.End.Following.{KeepsHistory}
use Rattle.amqp_core.specs.End.OutputOrder.{OutputInOrder, WroteGoesOn}
use Rattle.amqp_core.specs.Traced.Tracing as tracing
use Rattle.amqp_core.specs.Traced.Tracing.{IsTraceOf, IsWrittenInOrder, Kept, Stands}

pub output_in_order : (role : Role) (config : Config role) (output : Output)
    → OutputFollowsRules → ((failed : Bool) (history : History) → ClosesArePutLast role config failed history)
    → ((failed : Bool) (history : History) (opening written : List ℕ) → OctetsArePutAs role config failed history opening written output)
    → AllReadsBack role config → ∥ ConfigWrites config ∥₁ → OutputInOrder role config output
output_in_order role config output rules closes put back writes = λ failed history opening written lawful out.
    ∥∥₁_map writes (λ w. record {
      rules = rules opening (frames_put history) written output out;
      put = put failed history opening written (back w) lawful out;
      closes = closes failed history (back w) lawful;
    })

kept_writes : (role : Role) (config : Config role) (octets : ℕ) (old : Endpoint) → WriteLeaves → OutputAfterWrite → octets ≤ length (output_octets old.output)
    → (history : History) (written : List ℕ) → KeepsHistory role config old history written → KeepsHistory role config (after_wrote octets old) history (written ++ take octets (output_octets old.output))
kept_writes role config octets old leaves after within history written kept = record {
  lawful = kept.lawful;
  stands = kept.stands;
  out = after (opening_written role) (frames_put history) written octets old.output (after_writing octets old.output) kept.out (leaves octets old.output within);
}

pub wrote_goes_on : (role : Role) (config : Config role) (octets : ℕ) (old new : Endpoint) → new ≡ after_wrote octets old → octets ≤ length (output_octets old.output)
    → ((history : History) (fed written : List ℕ) → WroteFollows role config old history fed written octets)
    → ((limit : ℕ) (opening : List ℕ) (history : History) (fed written : List ℕ) → FailedWrites role config limit opening history fed written old octets)
    → WriteLeaves → OutputAfterWrite → WroteGoesOn role config octets old new
wrote_goes_on role config octets old new is within follows fails leaves after = record {
  stands = λ history fed written stands. subst (λ (e : Endpoint). EndpointStandsFor role config e history fed (written ++ take octets (output_octets old.output))) (sym is) (follows history fed written stands within);
  failed = λ limit opening history fed written failed. subst (λ (e : Endpoint). HasFailed role config limit opening history fed (written ++ take octets (output_octets old.output)) e) (sym is) (fails limit opening history fed written failed within);
  ran_out = λ history written kept. subst (λ (e : Endpoint). KeepsHistory role config e history (written ++ take octets (output_octets old.output))) (sym is) (kept_writes role config octets old leaves after within history written kept);
}

-- An end that is kept with its history has such an output, in each case.
traced_by : (role : Role) (config : Config role) (kept : Kept) (history : History) → OutputInOrder role config kept.endpoint.output → Stands role config kept history → ∥ IsWrittenInOrder role history kept.written kept.endpoint.output ∥₁
traced_by role config kept history law (tracing.stands stands) =
    ∥∥₁_map (law false history (opening_written role) kept.written stands.lawful stands.out) (λ order. record { opening = opening_written role; opens = inl refl; order = order })
traced_by role config kept history law (tracing.failed limit opening opens failed shown) =
    ∥∥₁_map (law true history opening kept.written failed.lawful failed.out) (λ order. record { opening = opening; opens = opens; order = order })
traced_by role config kept history law (tracing.ran_out unfinished out) =
    ∥∥₁_map (law true history (opening_written role) kept.written out.lawful out.out) (λ order. record { opening = opening_written role; opens = inl refl; order = order })

pub traced_in_order : (role : Role) (config : Config role) (kept : Kept) (history : History) → OutputInOrder role config kept.endpoint.output → IsTraceOf role config kept history → ∥ IsWrittenInOrder role history kept.written kept.endpoint.output ∥₁
traced_in_order role config kept history law traced = traced_by role config kept history law traced.stands

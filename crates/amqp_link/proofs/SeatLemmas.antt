-- One side: what stays as it is.
use Rattle.std.proofs.Common.{◌≡◌, false, [], Option, Err, sym, subst}
use Rattle.std.proofs.lemmas.Option.{none-some}
use Rattle.amqp_model.specs.End.Asks.{Refusal}
use Rattle.amqp_model.specs.Stream.Endpoint.{new_endpoint}
use Rattle.amqp_model.specs.History.Negotiation.{Config}
use Rattle.amqp_model.specs.Wire.Notes.{Role}
use Rattle.amqp_core.specs.Faults.Numbers.{refusal_view}
use Rattle.amqp_core.specs.Traced.Tracing.{IsTraceOf, SameLists}
use Rattle.amqp_core.specs.declared.faults.AskFault.{AskFault}
use Rattle.amqp_core.specs.declared.faults.AskFault.TheVariants as asking
use Rattle.amqp_link.specs.Seats.{Seated}
use Rattle.amqp_link.specs.FaultView.{fault_of}
use Rattle.amqp_link.specs.SeatSteps.{IsNew, SideAnswers}

-- a side of which nothing has changed
pub same-side : (old new : Seated) → new.set_up ≡ old.set_up → new.kept.endpoint ≡ old.kept.endpoint → SameLists old.kept new.kept → new.dropped ≡ old.dropped → new ≡ old
same-side old new set_up endpoint lists dropped = λ i. record {
  set_up = set_up i;
  kept = record {
    endpoint = endpoint i;
    notes = sym lists.notes i;
    told = sym lists.told i;
    said = sym lists.said i;
    fed = sym lists.fed i;
    written = sym lists.written i;
  };
  dropped = dropped i;
}

-- What an application does is refused by the end, or because memory was refused.
pub refused-side : (refused : Option Refusal) (Accepts : Type 0) (fault : AskFault) (old new : Seated) → old.dropped ≡ false → refusal_view fault ≡ refused → new.kept.endpoint ≡ old.kept.endpoint
    → SameLists old.kept new.kept → new.set_up ≡ old.set_up → new.dropped ≡ old.dropped → SideAnswers refused Accepts old (Err (fault_of fault)) new
refused-side refused Accepts asking.NotRunning old new there is endpoint lists set_up dropped = (there, sym is, (λ none. none-some _ (sym none)), same-side old new set_up endpoint lists dropped)
refused-side refused Accepts asking.BadChannel old new there is endpoint lists set_up dropped = (there, sym is, (λ none. none-some _ (sym none)), same-side old new set_up endpoint lists dropped)
refused-side refused Accepts asking.NotOpen old new there is endpoint lists set_up dropped = (there, sym is, (λ none. none-some _ (sym none)), same-side old new set_up endpoint lists dropped)
refused-side refused Accepts asking.Paused old new there is endpoint lists set_up dropped = (there, sym is, (λ none. none-some _ (sym none)), same-side old new set_up endpoint lists dropped)
refused-side refused Accepts asking.NotSendable old new there is endpoint lists set_up dropped = (there, sym is, (λ none. none-some _ (sym none)), same-side old new set_up endpoint lists dropped)
refused-side refused Accepts asking.TooLarge old new there is endpoint lists set_up dropped = (there, sym is, (λ none. none-some _ (sym none)), same-side old new set_up endpoint lists dropped)
refused-side refused Accepts asking.FlowPending old new there is endpoint lists set_up dropped = (there, sym is, (λ none. none-some _ (sym none)), same-side old new set_up endpoint lists dropped)
refused-side refused Accepts asking.NoFreeChannel old new there is endpoint lists set_up dropped = (there, sym is, (λ none. none-some _ (sym none)), same-side old new set_up endpoint lists dropped)
refused-side refused Accepts asking.ReplyPending old new there is endpoint lists set_up dropped = (there, sym is, (λ none. none-some _ (sym none)), same-side old new set_up endpoint lists dropped)
refused-side refused Accepts asking.NoSuchRequest old new there is endpoint lists set_up dropped = (there, sym is, (λ none. none-some _ (sym none)), same-side old new set_up endpoint lists dropped)
refused-side refused Accepts asking.NotAwaited old new there is endpoint lists set_up dropped = (there, sym is, (λ none. none-some _ (sym none)), same-side old new set_up endpoint lists dropped)
refused-side refused Accepts asking.OutOfMemory old new there is endpoint lists set_up dropped = (there, sym is, same-side old new set_up endpoint lists dropped)

-- a new side, by what it is set up with
pub new-side : (set_up : (role : Role) × Config role) (seated : Seated) → seated.set_up ≡ set_up → seated.kept.endpoint ≡ new_endpoint seated.set_up.0
    → IsTraceOf seated.set_up.0 seated.set_up.1 seated.kept [] → seated.kept.fed ≡ [] → seated.kept.written ≡ [] → seated.dropped ≡ false → IsNew set_up seated
new-side set_up seated so endpoint trace fed written there = record {
  set_up_so = so;
  endpoint = subst (λ (u : (role : Role) × Config role). seated.kept.endpoint ≡ new_endpoint u.0) so endpoint;
  trace = subst (λ (u : (role : Role) × Config role). IsTraceOf u.0 u.1 seated.kept []) so trace;
  fed = fed;
  written = written;
  there = there;
}

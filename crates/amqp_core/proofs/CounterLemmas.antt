-- What the account of a piece says of frames is what is counted.
use Rattle.std.proofs.Common.{◌≡◌, ap, ◌∙◌, ℕ, List}
use Rattle.amqp_model.specs.History.Negotiation.{Config}
use Rattle.amqp_model.specs.Stream.Endpoint.{Endpoint, Feeding}
use Rattle.amqp_model.specs.Wire.Notes.{Role}
use Rattle.amqp_core.specs.Traced.AccountView.{Came, IsAccount}
use Rattle.amqp_core.specs.End.Counters.{Counters, CountsFrame, counted_with}

pub frame_counted : (role : Role) (config : Config role) (old : Endpoint) (piece : List ℕ) (fed : Feeding) (octets : ℕ) (came : Came) (before after : Counters)
    → IsAccount role config old piece fed octets came → after.frames ≡ counted_with came.took before.frames
    → CountsFrame role config old piece fed before after
frame_counted role config old piece fed octets came before after account is =
    let by : (other : Came) → came ≡ other → after.frames ≡ counted_with other.took before.frames =
    λ other e. is ∙ ap (λ (c : Came). counted_with c.took before.frames) e in
    record {
      whole = λ frame takes completes. by _ (account.takes frame takes completes);
      waits = λ waits. by _ (account.waits waits);
      greets = λ awaits finished. by _ (account.greets awaits finished);
      differs = λ awaits found. by _ (account.differs awaits found);
      tells = λ kind takes shows. by _ (account.tells kind takes shows);
    }

-- What a fault means for the end that answers it.
use Rattle.std.specs.Prelude.{◌≡◌, Result, Err, IfErr}
use Rattle.amqp_model.specs.End.Channels as channels
use Rattle.amqp_model.specs.Stream.Endpoint.{Endpoint}
use Rattle.amqp_core.specs.End.Feeding.{SameEndpoint}
use Rattle.amqp_core.specs.declared.faults.CoreFault.{CoreFault}
use Rattle.amqp_core.specs.declared.faults.CoreFault.TheVariants as core

-- after every fault but that of a closed end the end has failed
abbrev pub FailsAfter : CoreFault → channels.Phase → Type 0
FailsAfter core.Closed phase = Unit {0}
FailsAfter fault phase = phase ≡ channels.Failed

-- this is answered, no octet is taken, and the end stays as it is
pub record TakesNothing {A : Type 0} (fault : CoreFault) (result : Result A CoreFault)
    (old new : Endpoint) : Type 0 where
  pub answer : result ≡ Err fault
  pub same : SameEndpoint old new

pub record FeedFaults {A : Type 0} (result : Result A CoreFault) (old new : Endpoint) : Type 0 where
  -- after a fault the end has failed, unless it is closed
  pub fails : IfErr result (λ fault. FailsAfter fault new.end.phase)
  -- an end that is closed, or has failed, takes nothing
  pub closed : old.end.phase ≡ channels.Closed → TakesNothing core.Closed result old new
  pub failed : old.end.phase ≡ channels.Failed → TakesNothing core.Failed result old new

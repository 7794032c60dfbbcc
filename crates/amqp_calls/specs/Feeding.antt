-- What is said of a fault that octets show.
use Rattle.std.specs.Prelude.{◌≡◌, ℕ}
use Rattle.amqp_model.specs.End.Closes.{number_of}
use Rattle.amqp_channel.specs.Events.Closes.{code_view}
use Rattle.amqp_core.specs.declared.faults.CoreFault.{CoreFault}
use Rattle.amqp_core.specs.declared.faults.CoreFault.TheVariants as faults

-- the code of the close that was put
abbrev pub TellsCode : CoreFault → ℕ → Type 0
TellsCode (faults.Peer code) told = told ≡ number_of (code_view code)
TellsCode fault told = Unit {0}

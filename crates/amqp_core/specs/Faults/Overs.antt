-- What a feed answers of an end that is closed, or has failed.
use Rattle.std.specs.Prelude.{◌≡◌}
use Rattle.amqp_model.specs.End.Channels.{Phase, Closed, Failed}
use Rattle.amqp_core.specs.declared.faults.CoreFault.{CoreFault}
use Rattle.amqp_core.specs.declared.faults.CoreFault.TheVariants as core

abbrev pub IsOver : Phase → CoreFault → Type 0
IsOver phase core.Closed = phase ≡ Closed
IsOver phase core.Failed = phase ≡ Failed
IsOver phase fault = ⊥

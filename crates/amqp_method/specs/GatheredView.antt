-- The bits gathered, as the code has them.
use Rattle.amqp_method.specs.Writing.{Gathered}
use Rattle.amqp_method.specs.declared.bit_run.BitRun.{BitRun}

abbrev pub gathered : BitRun → Gathered
gathered run = record { number = run.number; count = run.count }

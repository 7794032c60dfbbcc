use Rattle.std.proofs.Common.{length}
use Rattle.amqp.proofs.checking.print_events.Given as goal

abbrev pub decreases-loop-rest : goal.decreases-loop-rest
decreases-loop-rest g l = length l.rest

use Rattle.std.proofs.Common.{length}
use Rattle.amqp_core_tests.proofs.streams.tell_all.Given as goal

abbrev pub decreases-loop-rest : goal.decreases-loop-rest
decreases-loop-rest g l = length l.rest

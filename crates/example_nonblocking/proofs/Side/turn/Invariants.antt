-- Each take leaves less.
use Rattle.std.proofs.Common.{length}
use Rattle.example_nonblocking.proofs.Side.turn.Given as goal

abbrev pub decreases-loop-rest : goal.decreases-loop-rest
decreases-loop-rest g l = length l.rest

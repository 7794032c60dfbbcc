use Rattle.amqp_calls.proofs.WrittenHeaders.{Flagged}
use Rattle.amqp_calls.proofs.codec.written_headers.flags.Given as goal

abbrev pub invariant-loop-place : goal.invariant-loop-place
invariant-loop-place l = Flagged l.values l.place l.flags l.bit

abbrev pub decreases-loop-place : goal.decreases-loop-place
decreases-loop-place l = l.place

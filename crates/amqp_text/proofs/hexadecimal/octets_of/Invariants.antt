use Rattle.std.proofs.Common.{length}
use Rattle.amqp_text.proofs.HexadecimalLemmas.{ReadSoFar}
use Rattle.amqp_text.proofs.hexadecimal.octets_of.Given as goal

abbrev pub invariant-loop-octets : goal.invariant-loop-octets
invariant-loop-octets l = ReadSoFar l.text l.octets.items l.rest l.before

abbrev pub decreases-loop-octets : goal.decreases-loop-octets
decreases-loop-octets l = length l.rest

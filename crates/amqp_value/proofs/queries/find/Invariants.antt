use Rattle.std.proofs.Common.{◌≡◌}
use Rattle.amqp_value.proofs.PairLemmas.{named_from}
use Rattle.amqp_value.proofs.queries.find.Given as goal

abbrev pub invariant-loop-pair : goal.invariant-loop-pair
invariant-loop-pair l = named_from l.pair-index l.pairs l.name ≡ named_from 0 l.pairs l.name

use Rattle.amqp_value.proofs.Written.{ItemsPut, PairsPut}
use Rattle.amqp_value.proofs.write.+write.Given as goal

abbrev pub invariant-put_items-loop-value : goal.invariant-put_items-loop-value
invariant-put_items-loop-value l = ItemsPut l.initial.out.items l.out.items l.values l.value-index

abbrev pub invariant-put_pairs-loop-pair : goal.invariant-put_pairs-loop-pair
invariant-put_pairs-loop-pair l = PairsPut l.initial.out.items l.out.items l.pairs l.pair-index

use Rattle.std.proofs.Common.{arith}
use Rattle.amqp_calls.proofs.Counting.{pairs_few}
use Rattle.amqp_calls.proofs.codec.tables.tell_pairs.Goals as goal

pub overflow_sub-size : goal.overflow_sub-size
overflow_sub-size c =
    let few = pairs_few c.octets-size.result.now _ _ c.octets-size.ensures.table c.iter.ensures in
    omega (arith, few, c.fill_pairs-placed.ensures.counted)

pub count_pairs-others-requires : goal.count_pairs-others-requires
count_pairs-others-requires c =
    let few = pairs_few c.octets-size.result.now _ _ c.octets-size.ensures.table c.iter.ensures in
    omega (arith, few, c.fill_pairs-placed.ensures.counted)

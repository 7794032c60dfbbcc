use Rattle.std.proofs.Common.{◌-◌, length, get_or, arith}
use Rattle.amqp_outbox.proofs.WovenSides.{part-within, place-within}
use Rattle.amqp_outbox.proofs.WovenSteps.{no_coming}
use Rattle.amqp_outbox.proofs.weaving.goes_down.Goals as goal

pub length_from-after_first-requires-clause-within : goal.length_from-after_first-requires-clause-within
length_from-after_first-requires-clause-within c = place-within c.args.coming.now 0 _ no_coming c.requires.some c.requires.follow

pub length_from-after_last-requires-clause-within : goal.length_from-after_last-requires-clause-within
length_from-after_last-requires-clause-within c =
    let some = c.requires.some in
    place-within c.args.coming.now (length c.args.coming.now - 1) _ no_coming (omega arith) c.requires.follow

pub overflow_sub-result-2 : goal.overflow_sub-result-2
overflow_sub-result-2 c =
    let last = part-within c.args.row.now (get_or c.args.coming.now (length c.args.coming.now - 1) no_coming).place in
    let e = c.length_from-after_last.ensures in
    let a = c.requires.arranged in
    let b = c.requires.begun in
    omega arith

use Rattle.std.proofs.Common.{ap, arith}
use Rattle.amqp_outbox.specs.OutboxSlots.{slots_in, slots_length}
use Rattle.amqp_outbox.proofs.OutboxSlots.{slots_length-part}
use Rattle.amqp_outbox.proofs.OutboxWaiting.{slots-before, slots-rest}
use Rattle.amqp_outbox.proofs.slots.length_from.Goals as goal

pub length_of-requires : goal.length_of-requires
length_of-requires c =
    let a = slots_length-part (slots_in c.args.row.now) c.args.place in
    let b = ap slots_length (slots-before c.args.place c.args.row.now) in
    omega arith

pub overflow_sub-result : goal.overflow_sub-result
overflow_sub-result c =
    let a = slots_length-part (slots_in c.args.row.now) c.args.place in
    let b = ap slots_length (slots-before c.args.place c.args.row.now) in
    omega arith

pub length_of-requires-else-place-row : goal.length_of-requires-else-place-row
length_of-requires-else-place-row c =
    let a = slots_length-part (slots_in c.args.row.now) c.args.place in
    let b = ap slots_length (slots-rest c.args.place c.args.row.now) in
    omega arith

pub returns-then-place-row : goal.returns-then-place-row
returns-then-place-row c =
    let a = slots_length-part (slots_in c.args.row.now) c.args.place in
    let b = ap slots_length (slots-before c.args.place c.args.row.now) in
    omega arith

pub returns-else-place-row : goal.returns-else-place-row
returns-else-place-row c =
    let b = ap slots_length (slots-rest c.args.place c.args.row.now) in
    omega arith

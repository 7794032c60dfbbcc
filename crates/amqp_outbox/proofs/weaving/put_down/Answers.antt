use Rattle.std.proofs.Common.{refl, ◌∙◌, arith}
use Rattle.amqp_outbox.proofs.WovenSides.{down-weaves}
use Rattle.amqp_outbox.proofs.weaving.put_down.Goals as goal

pub weave_down-requires-clause-frames : goal.weave_down-requires-clause-frames
weave_down-requires-clause-frames c =
    let a = c.split_at.ensures.front_len in
    let b = c.requires.total in
    omega arith

pub weave_down-requires-clause-room : goal.weave_down-requires-clause-room
weave_down-requires-clause-room c =
    let a = c.split_at.ensures.front_len in
    let b = c.requires.down in
    let d = c.requires.begun in
    omega arith

pub weave_down-requires-clause-there : goal.weave_down-requires-clause-there
weave_down-requires-clause-there c =
    let a = c.requires.all in
    let b = c.requires.arranged in
    let d = c.settle.ensures.count in
    omega arith

pub append-requires : goal.append-requires
append-requires c =
    let a = c.weave_down.ensures.count in
    let b = c.settle.ensures.count in
    let d = c.weave_down.ensures.capacity in
    let e = c.settle.ensures.capacity in
    let f = c.requires.room in
    let g = c.split_at.ensures.back_len in
    omega arith

pub returns : goal.returns
returns c =
    down-weaves c.args.ends _ c.args.row.now c.args.coming.now c.args.total c.args.octets.now.items c.args.aside.now c.split_at.result.0.now c.split_at.result.1.now c.settle.new.octets.items c.weave_down.new.octets.items c.append.new.octets.items refl refl refl
    c.requires.down c.requires.begun c.requires.arranged c.requires.total c.requires.all c.requires.follow c.split_at.ensures.front c.split_at.ensures.back c.split_at.ensures.front_len
    c.settle.ensures.settled c.settle.ensures.rest (c.weave_down.ensures.count ∙ c.settle.ensures.count) c.weave_down.ensures.octets c.append.ensures

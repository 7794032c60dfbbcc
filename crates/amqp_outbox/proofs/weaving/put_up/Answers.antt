use Rattle.std.proofs.Common.{◌≡◌, ◌+◌, ◌-◌, length, replicate, refl, ap, ◌∙◌, arith, length-append}
use Rattle.amqp_outbox.proofs.WovenSides.{up-weaves}
use Rattle.amqp_outbox.proofs.weaving.put_up.Goals as goal

pub append-requires : goal.append-requires
append-requires c =
    let a = c.open.ensures.count in
    let b = c.open.ensures.room in
    let d = c.requires.room in
    let e = c.requires.all in
    let f = c.split_at.ensures.back_len in
    omega arith

pub weave_octets-requires-clause-frames : goal.weave_octets-requires-clause-frames
weave_octets-requires-clause-frames c =
    let a = c.split_at.ensures.front_len in
    let b = c.requires.total in
    omega arith

pub weave_octets-requires-clause-there : goal.weave_octets-requires-clause-there
weave_octets-requires-clause-there c =
    let a = c.open.ensures.count in
    let b = ap length c.append.ensures ∙ length-append c.open.new.octets.items c.split_at.result.1.now in
    let d = c.split_at.ensures.front_len in
    omega arith

pub returns : goal.returns
returns c =
    let octets = c.args.octets.now.items in
    let hole = replicate (c.args.ends.arranged + c.args.total - length octets) 0 in
    let a = ap length c.open.ensures.opened ∙ length-append octets hole in
    let b = c.open.ensures.count in
    let count : length octets + length hole ≡ c.args.ends.arranged + c.args.total = omega arith in
    up-weaves c.args.ends _ c.args.row.now c.args.coming.now c.args.total octets c.args.aside.now c.split_at.result.0.now c.split_at.result.1.now hole c.open.new.octets.items c.append.new.octets.items c.weave_octets.new.octets.items refl refl refl
    c.requires.begun c.requires.arranged c.requires.total c.requires.all c.requires.follow c.split_at.ensures.front c.split_at.ensures.back c.split_at.ensures.front_len
    c.open.ensures.opened count c.append.ensures c.weave_octets.ensures.count c.weave_octets.ensures.octets

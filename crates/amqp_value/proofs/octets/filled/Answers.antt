use Rattle.std.proofs.Common.{◌∙◌, ap, sym, take, length, ◌≡◌}
use Rattle.std.proofs.lemmas.List.{take-set-le, take-take, take_at, length-take-le}
use Rattle.amqp_value.proofs.octets.filled.Goals as goal

pub returns-clause-octets : goal.returns-clause-octets
returns-clause-octets c =
    let first = c.copy_from_slice.new.self in
    let long : length first ≡ 23 = ap length c.copy_from_slice.ensures.after ∙ length-take-le 23 c.args.octets.now c.requires.room in
    take-set-le c.args.len _ 23 c.args.len c.requires.within
    ∙ sym (take-take c.args.len 23 _ c.requires.within)
    ∙ ap (take c.args.len) (take_at first _ 23 long ∙ c.copy_from_slice.ensures.after)
    ∙ take-take c.args.len 23 c.args.octets.now c.requires.within

use Rattle.std.proofs.Common.{◌<◌, length, ◌∙◌, arith}
use Rattle.std.proofs.lemmas.List.{length-set}
use Rattle.std.proofs.lemmas.Option.{slice_get-get_or}
use Rattle.amqp_calls.proofs.GatheredPlaces.{one_completed}
use Rattle.amqp_calls.proofs.ends.gathering.complete_each.Goals as goal

pub loop-at-preserved : goal.loop-at-preserved
loop-at-preserved c =
    let inv = c.loop-at.invariant in
    let now = c.loop-at.places in
    let at = c.loop-at.at in
    let room : at < length now = omega (arith, c.loop-at-test.true, c.requires, inv.as_many) in
    let step = one_completed c.args.parts.now c.args.places.now now at _ c.complete_at.new.place room inv.as_many (slice_get-get_or now at _ room) inv.others
    inv.each c.complete_at.ensures in
    record { each = step.0; others = step.1; as_many = length-set now at c.complete_at.new.place ∙ inv.as_many }

use Rattle.amqp_handle.specs.declared.held.Held.TheVariants.{Content}
use Rattle.amqp_calls.specs.LentContents.{LendsWith}
use Rattle.amqp_calls.proofs.HeldContents.{of_slot}
use Rattle.amqp_calls.proofs.ends.slices.lend_with.Goals as goal

pub returns-in-Content : goal.returns-in-Content
returns-in-Content g c =
    of_slot (λ held. LendsWith c.args.kept.now held c.args.channel c.args.method.now c.args.header.now c.args.body.now c.args.pieces.now c.lend_one.result c.lend_one.new.count c.lend_one.new.pieces c.lend_one.new.kept)
    c.args.slot.now c.is_open.new.self c.held.result.now (Content c.in-Content.content) c.is_open.ensures.1 c.held.ensures.value c.in-Content.is c.lend_one.ensures

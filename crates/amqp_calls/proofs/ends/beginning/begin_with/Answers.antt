use Rattle.std.proofs.Common.{Some}
use Rattle.amqp_handle.specs.declared.held.Held.TheVariants.{Content}
use Rattle.amqp_calls.specs.BegunContents.{BeginsWith}
use Rattle.amqp_calls.proofs.HeldContents.{of_slot}
use Rattle.amqp_calls.proofs.ends.beginning.begin_with.Goals as goal

pub returns-in-Content : goal.returns-in-Content
returns-in-Content g c =
    of_slot (λ held. BeginsWith c.args.kept.now held c.args.channel c.args.method.now c.args.header.now c.begin_one.result c.begin_one.new.kept (Some (Content c.begin_one.new.content)))
    c.args.slot.now c.is_open.new.self c.held.result.now (Content c.in-Content.content) c.is_open.ensures.1 c.held.ensures.value c.in-Content.is c.begin_one.ensures

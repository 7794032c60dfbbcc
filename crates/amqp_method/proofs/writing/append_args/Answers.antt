use Rattle.amqp_method.specs.GatheredView.{gathered}
use Rattle.amqp_method.specs.Views.{args_view}
use Rattle.amqp_method.proofs.WritingLemmas.{next_field, ended, on_ok}
use Rattle.amqp_method.proofs.writing.append_args.Goals as goal

pub loop-field-preserved : goal.loop-field-preserved
loop-field-preserved c =
    let e = c.in_ok-next.ensures in
    next_field c.args.fields.now c.loop-field.field-index _ (args_view c.loop-field.rest.now) (args_view c.in_ok-next.others.now) c.args.out.now.items c.loop-field.out.items c.append_value.new.out.items
    (gathered c.loop-field.run) (gathered c.in_ok-next.next) _ c.loop-field-test.true e.left e.ok e.after e.fits c.loop-field.invariant

pub returns-clause-ok : goal.returns-clause-ok
returns-clause-ok c = on_ok c.finish.result (ended c.args.out.now.items c.loop-field.out.items c.finish.new.out.items c.args.fields.now c.loop-field.field-index (args_view c.loop-field.rest.now) (gathered c.loop-field.run) _ c.loop-field-test.false c.loop-field.invariant) c.finish.ensures.ok

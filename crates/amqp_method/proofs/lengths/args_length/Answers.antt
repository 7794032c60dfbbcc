use Rattle.amqp_method.specs.Views.{args_view}
use Rattle.amqp_method.proofs.LengthLemmas.{counts_field, counting_ends}
use Rattle.amqp_method.proofs.WritingLemmas.{values_from}
use Rattle.amqp_method.proofs.lengths.args_length.Goals as goal

pub loop-field-preserved : goal.loop-field-preserved
loop-field-preserved c =
    let e = c.with_field.ensures in
    counts_field c.args.fields.now c.loop-field.field-index _ (args_view c.loop-field.rest.now) (args_view c.with_field.result.1.now) c.loop-field.counted.octets c.loop-field.counted.left
    c.with_field.result.0.octets c.with_field.result.0.left (values_from 0 c.args.fields.now (args_view c.args.args.now)) c.loop-field-test.true e.after e.octets e.left c.loop-field.invariant

pub returns : goal.returns
returns c =
    counting_ends c.args.fields.now c.loop-field.field-index (args_view c.loop-field.rest.now) c.loop-field.counted.octets c.loop-field.counted.left (values_from 0 c.args.fields.now (args_view c.args.args.now)) c.loop-field-test.false
    c.loop-field.invariant

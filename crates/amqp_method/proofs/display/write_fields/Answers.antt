use Rattle.std.proofs.Common.{refl}
use Rattle.std.proofs.Output.{has_written_append}
use Rattle.amqp_method.specs.Views.{args_view}
use Rattle.amqp_method.proofs.TextLemmas.{field_step}
use Rattle.amqp_method.proofs.display.write_fields.Goals as goal

pub loop-field-preserved : goal.loop-field-preserved
loop-field-preserved g c = λ plain.
    let before = c.loop-field.invariant plain in (
      _,
      has_written_append _ _ _ _ _ _ before.1 (c.in_ok-write_field.ensures before.1.plain refl),
      field_step c.args.fields.now c.loop-field.field-index _ (args_view c.loop-field.rest.now) _ before.0 _ c.loop-field-test.true c.args_after-rest.ensures before.2,
    )

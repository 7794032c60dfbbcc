use Rattle.std.proofs.Common.{refl}
use Rattle.std.proofs.Output.{has_written_append}
use Rattle.amqp_method.specs.MethodRefs.{args_left}
use Rattle.amqp_method.proofs.TextLemmas.{field_step}
use Rattle.amqp_method.proofs.display_ref.write_fields_ref.Goals as goal

pub loop-field-preserved : goal.loop-field-preserved
loop-field-preserved g c = λ plain.
    let before = c.loop-field.invariant plain in (
      _,
      has_written_append _ _ _ _ _ _ before.1 (c.in_ok-write_field_ref.ensures before.1.plain refl),
      field_step c.args.fields.now c.loop-field.field-index _ (args_left c.loop-field.left) _ before.0 _ c.loop-field-test.true c.args_ref_after-left.ensures before.2,
    )

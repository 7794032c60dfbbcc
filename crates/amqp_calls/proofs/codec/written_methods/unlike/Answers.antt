use Rattle.std.proofs.Common.{◌≡◌, ◌+◌, List, map, drop, ap, ◌∙◌, arith}
use Rattle.amqp_method.specs.Arguments.{wanted}
use Rattle.amqp_method.specs.Methods.{FieldRow}
use Rattle.amqp_method.specs.Rows.{field_view}
use Rattle.amqp_method.specs.declared.fields.FieldKind.{FieldKind}
use Rattle.amqp_method.proofs.FitLemmas.{field_here}
use Rattle.amqp_calls.specs.Writing.{first_unlike}
use Rattle.amqp_calls.proofs.codec.written_methods.unlike.Goals as goal

pub returns-in_default : goal.returns-in_default
returns-in_default c =
    let items = c.schema-field-items.result.now in
    let i = c.loop-field.field-index in
    let values = c.args.values.now in
    let later = wanted (map field_view (drop (i + 1) items)) in
    let here = ap wanted (field_here items i _ c.loop-field-test.true) in
    let none : first_unlike (wanted (map field_view (drop i items))) (drop c.loop-field.place values) ≡ 0 =
    ap (λ (kinds : List FieldKind). first_unlike kinds (drop c.loop-field.place values)) here ∙ c.in_default.ensures later in
    let told : c.loop-field.place ≡ first_unlike (wanted (map field_view items)) values = omega (arith, c.loop-field.invariant.1, none) in
    told ∙ ap (λ (rows : List FieldRow). first_unlike (wanted rows) values) c.schema-field-items.ensures

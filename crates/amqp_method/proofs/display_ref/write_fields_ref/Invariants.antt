use Rattle.std.proofs.Common.{◌≡◌, List, ℕ, ◌++◌, map, drop}
use Rattle.std.specs.Fmt.{HasWritten, IsPlainFormatter}
use Rattle.amqp_method.specs.MethodRefs.{args_left}
use Rattle.amqp_method.specs.Rows.{field_view}
use Rattle.amqp_method.specs.Texts.{fields_text}
use Rattle.amqp_method.proofs.display_ref.write_fields_ref.Given as goal

abbrev pub invariant-loop-field : goal.invariant-loop-field
invariant-loop-field g l =
    IsPlainFormatter l.initial.f
    → (done : List ℕ) × HasWritten g.W.Write.write_str_gives l.initial.f done l.f
    × (done ++ fields_text (map field_view (drop l.field-index l.fields)) (args_left l.left) ≡ fields_text (map field_view l.fields) (args_left l.args))

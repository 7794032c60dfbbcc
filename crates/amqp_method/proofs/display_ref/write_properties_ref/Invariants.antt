use Rattle.std.proofs.Common.{◌≡◌, List, ℕ, ◌++◌, drop}
use Rattle.std.specs.Fmt.{HasWritten, IsPlainFormatter}
use Rattle.amqp_method.specs.HeaderRefView.{lent_header}
use Rattle.amqp_method.specs.Texts.{property_names, properties_text}
use Rattle.amqp_method.proofs.display_ref.write_properties_ref.Given as goal

abbrev pub invariant-loop-place : goal.invariant-loop-place
invariant-loop-place g l =
    IsPlainFormatter l.initial.f
    → (done : List ℕ) × HasWritten g.W.Write.write_str_gives l.initial.f done l.f
    × (done ++ properties_text (drop l.place property_names) (drop l.place (lent_header l.header).properties) ≡ properties_text property_names (lent_header l.header).properties)

use Rattle.std.proofs.Common.{◌≡◌, List, ℕ, ◌++◌, drop}
use Rattle.std.specs.Fmt.{HasWritten, IsPlainFormatter}
use Rattle.amqp_method.specs.Lent.{lent_views}
use Rattle.amqp_method.specs.Texts.{parted, property_names, properties_text}
use Rattle.amqp_method.proofs.display.write_properties.Given as goal

abbrev pub invariant-loop-index : goal.invariant-loop-index
invariant-loop-index g l =
    IsPlainFormatter l.initial.f
    → (done : List ℕ) × HasWritten g.W.Write.write_str_gives l.initial.f done l.f
    × (done ++ parted l.is_first (properties_text (drop l.index property_names) (lent_views (drop l.index l.properties)))
    ≡ parted l.fn.starts (properties_text property_names (lent_views l.properties)))

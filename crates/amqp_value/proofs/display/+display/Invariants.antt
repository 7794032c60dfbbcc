use Rattle.std.proofs.Common.{take}
use Rattle.std.specs.Fmt.{HasWritten, IsPlainFormatter}
use Rattle.amqp_value.specs.Text.{items_text, pairs_text}
use Rattle.amqp_value.specs.View.{items_view, pairs_view}
use Rattle.amqp_value.proofs.display.+display.Given as goal

abbrev pub invariant-write_items-loop-index : goal.invariant-write_items-loop-index
invariant-write_items-loop-index g l =
    IsPlainFormatter l.initial.f → HasWritten g.W.Write.write_str_gives l.initial.f (items_text (items_view (take l.index l.values))) l.f

abbrev pub invariant-write_pairs-loop-index : goal.invariant-write_pairs-loop-index
invariant-write_pairs-loop-index g l =
    IsPlainFormatter l.initial.f → HasWritten g.W.Write.write_str_gives l.initial.f (pairs_text (pairs_view (take l.index l.pairs))) l.f

use Rattle.std.proofs.Common.{◌≡◌, ◌≤◌, ◌+◌, ◌*◌, ◌++◌, ℕ, List, length}
use Rattle.std.specs.Fmt.{HasWritten, IsPlainFormatter}
use Rattle.amqp_value.specs.Lent.{octets_inside}
use Rattle.amqp_value.specs.Text.{comma_before, items_text, items_text_from, pairs_text, pairs_text_from}
use Rattle.amqp_value.specs.Values.{items_of, pairs_of}
use Rattle.amqp_value.specs.Whole.{AreItems, ArePairs, items_encoded, pairs_encoded}
use Rattle.amqp_value.proofs.display_ref.+display_ref.Given as goal

abbrev pub decreases-write_value_ref : goal.decreases-write_value_ref
decreases-write_value_ref g l = 3 * octets_inside l.value + 2

abbrev pub decreases-write_array_ref : goal.decreases-write_array_ref
decreases-write_array_ref g l = 3 * length l.body.now + 1

abbrev pub decreases-write_items_ref : goal.decreases-write_items_ref
decreases-write_items_ref g l = 3 * length l.body.now

abbrev pub decreases-write_braced_ref : goal.decreases-write_braced_ref
decreases-write_braced_ref g l = 3 * length l.body.now + 1

abbrev pub decreases-write_pairs_ref : goal.decreases-write_pairs_ref
decreases-write_pairs_ref g l = 3 * length l.body.now

-- the text of the values before those that are left, and what is left to be written
abbrev pub invariant-write_items_ref-loop-rest : goal.invariant-write_items_ref-loop-rest
invariant-write_items_ref-loop-rest g l =
    (length l.rest ≤ length l.body)
    × AreItems l.rest
    × (n : ℕ)
    × (text : List ℕ)
    × (l.comma ≡ comma_before n)
    × (text ++ items_text_from n (items_of (items_encoded l.rest)) ≡ items_text (items_of (items_encoded l.body)))
    × (IsPlainFormatter l.initial.f → HasWritten g.W.Write.write_str_gives l.initial.f text l.f)

abbrev pub decreases-write_items_ref-loop-rest : goal.decreases-write_items_ref-loop-rest
decreases-write_items_ref-loop-rest g l = length l.rest

abbrev pub invariant-write_pairs_ref-loop-rest : goal.invariant-write_pairs_ref-loop-rest
invariant-write_pairs_ref-loop-rest g l =
    (length l.rest ≤ length l.body)
    × ArePairs l.rest
    × (n : ℕ)
    × (text : List ℕ)
    × (l.comma ≡ comma_before n)
    × (text ++ pairs_text_from n (pairs_of (pairs_encoded l.rest)) ≡ pairs_text (pairs_of (pairs_encoded l.body)))
    × (IsPlainFormatter l.initial.f → HasWritten g.W.Write.write_str_gives l.initial.f text l.f)

abbrev pub decreases-write_pairs_ref-loop-rest : goal.decreases-write_pairs_ref-loop-rest
decreases-write_pairs_ref-loop-rest g l = length l.rest

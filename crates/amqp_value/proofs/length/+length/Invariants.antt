use Rattle.std.proofs.Common.{◌≡◌, length, take}
use Rattle.amqp_value.specs.Lengths.{capped}
use Rattle.amqp_value.specs.Plain.{plain_items, plain_pairs}
use Rattle.amqp_value.specs.View.{items_view, pairs_view}
use Rattle.amqp_value.proofs.length.+length.Given as goal

abbrev pub invariant-items_length-loop-value : goal.invariant-items_length-loop-value
invariant-items_length-loop-value l = l.octets ≡ capped (length (plain_items (items_view (take l.value-index l.values))))

abbrev pub invariant-pairs_length-loop-pair : goal.invariant-pairs_length-loop-pair
invariant-pairs_length-loop-pair l = l.octets ≡ capped (length (plain_pairs (pairs_view (take l.pair-index l.pairs))))

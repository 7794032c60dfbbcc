-- The items of the life so far.
use Rattle.std.proofs.Common.{◌≡◌, map, take}
use Rattle.amqp_core.specs.Traced.Notes.{item_view, telling_view}
use Rattle.amqp_model.specs.Pair.Sent as sent
use Rattle.amqp_link.proofs.lives.items_of.Given as goal

abbrev pub invariant-loop-telling : goal.invariant-loop-telling
invariant-loop-telling l = map item_view l.items.items ≡ sent.items_of l.channel l.number (map telling_view (take l.telling-index l.tellings))

use Rattle.std.proofs.Common.{◌≡◌, length, map, take, flat_map}
use Rattle.std.specs.List.{enumerate_from}
use Rattle.amqp_link.specs.ConnectionView.{connection_view}
use Rattle.amqp_link.specs.Items.{tallies_at}
use Rattle.amqp_link.specs.TallyView.{tally_view}
use Rattle.amqp_link.proofs.link.Link.tally.Given as goal

-- the tallies of the connections so far
abbrev pub invariant-loop-index : goal.invariant-loop-index
invariant-loop-index l = record {
  tallies : map tally_view l.tallies.items ≡ flat_map (λ entry. tallies_at entry.0 entry.1) (take l.index (enumerate_from 0 (map connection_view l.connection-items)));
  all : l.index-end ≡ length l.connection-items;
}

-- Connection by connection.
use Rattle.std.proofs.Common.{◌++◌, map, flat_map, ap, ◌∙◌}
use Rattle.std.specs.List.{enumerate_from}
use Rattle.amqp_link.specs.ConnectionView.{connection_view}
use Rattle.amqp_link.specs.Items.{tallies_at}
use Rattle.amqp_link.specs.Tallies.{tallies_of}
use Rattle.amqp_link.specs.TallyView.{tally_view}
use Rattle.amqp_link.specs.LinkView.{link_view}
use Rattle.amqp_link.proofs.TallyAll.{all-of, one-more}
use Rattle.amqp_link.proofs.TallyLengths.{all-count}
use Rattle.amqp_link.proofs.link.Link.tally.Goals as goal

pub loop-index-preserved : goal.loop-index-preserved
loop-index-preserved c =
    let so_far = c.loop-index.invariant in
    let w = c.written.ensures in
    record {
      tallies = one-more c.deref-connection-items.result.now c.loop-index.index c.connection-item.result _ _ c.loop-index-test.true c.connection-item.is so_far.tallies
          (c.in_ok-add_tallies.ensures ∙ (λ i. map tally_view c.loop-index.tallies.items ++ tallies_of c.loop-index.index (w.notes i) (w.client_said i) (w.server_told i) (w.server_said i) (w.client_told i)));
      all = so_far.all;
    }

pub returns-clause-tallies : goal.returns-clause-tallies
returns-clause-tallies c =
    all-of c.deref-connection-items.result.now c.loop-index.index (map tally_view c.loop-index.tallies.items) c.loop-index-test.false c.loop-index.auto.index-end c.loop-index.invariant.tallies
    ∙ ap (λ l. flat_map (λ entry. tallies_at entry.0 entry.1) (enumerate_from 0 (map connection_view l))) c.deref-connection-items.ensures.value

pub returns-clause-lengths : goal.returns-clause-lengths
returns-clause-lengths c =
    all-count (link_view c.args.self.now) c.loop-index.tallies.items (returns-clause-tallies c)

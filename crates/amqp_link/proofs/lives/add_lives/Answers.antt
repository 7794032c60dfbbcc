-- One more life.
use Rattle.std.proofs.Common.{◌+◌, ◌-◌, ◌++◌, ℕ, map, slice_index, ap, ◌∙◌, arith}
use Rattle.std.proofs.lemmas.List.{map-append}
use Rattle.amqp_link.specs.Tallies.{two_entries}
use Rattle.amqp_link.specs.TallyView.{tally_view}
use Rattle.amqp_link.proofs.TallyCounts.{flat-more}
use Rattle.amqp_link.proofs.lives.add_lives.Goals as goal

pub loop-before-preserved : goal.loop-before-preserved
loop-before-preserved c =
    let before = c.loop-before.before in
    let connection = c.args.connection in
    let channel = c.args.channel in
    let counts = λ (at : ℕ). λ (life : ℕ).
    two_entries connection channel life (slice_index c.args.to_server.0.now at) (slice_index c.args.to_server.1.now at)
    (slice_index c.args.to_client.0.now at) (slice_index c.args.to_client.1.now at) in
    flat-more (λ life. counts (life - 1) life) before (map tally_view c.args.tallies.now.items) (map tally_view c.loop-before.tallies.items)
    (map tally_view c.add_life.new.tallies.items) c.loop-before.invariant
    (ap (map tally_view) c.in_ok-add_life.ensures
    ∙ (map-append tally_view c.loop-before.tallies.items _
    ∙ ap (λ at. map tally_view c.loop-before.tallies.items ++ counts at (before + 1)) (omega arith)))

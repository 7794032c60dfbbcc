-- The lives so far.
use Rattle.std.proofs.Common.{◌≡◌, ◌++◌, map}
use Rattle.amqp_link.specs.TallyView as view
use Rattle.amqp_link.specs.TallyView.{tally_view}
use Rattle.amqp_link.proofs.lives.add_lives.Given as goal

abbrev pub invariant-loop-before : goal.invariant-loop-before
invariant-loop-before l =
    map tally_view l.tallies.items
    ≡ map tally_view l.initial.tallies.items
    ++ view.tallies_by l.connection l.channel l.before l.to_server.0.now l.to_server.1.now l.to_client.0.now l.to_client.1.now

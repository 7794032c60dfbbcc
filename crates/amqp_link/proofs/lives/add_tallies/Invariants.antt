-- The channels so far.
use Rattle.std.proofs.Common.{◌≡◌, ◌++◌, map}
use Rattle.amqp_core.specs.Traced.Notes.{note_view, telling_view}
use Rattle.amqp_link.specs.Tallies as tallied
use Rattle.amqp_link.specs.TallyView.{tally_view}
use Rattle.amqp_link.proofs.lives.add_tallies.Given as goal

abbrev pub invariant-loop-before : goal.invariant-loop-before
invariant-loop-before l =
    map tally_view l.tallies.items
    ≡ map tally_view l.initial.tallies.items
    ++ tallied.tallies_to l.before l.connection (map note_view l.written.notes.now) (map telling_view l.written.client_said.now)
    (map telling_view l.written.server_told.now) (map telling_view l.written.server_said.now) (map telling_view l.written.client_told.now)

-- The greatest channel so far.
use Rattle.std.proofs.Common.{◌≡◌, map, take}
use Rattle.amqp_core.specs.Traced.Notes.{note_view}
use Rattle.amqp_link.specs.Tallies as tallied
use Rattle.amqp_link.proofs.lives.last_begun.Given as goal

abbrev pub invariant-loop-note : goal.invariant-loop-note
invariant-loop-note l = l.last ≡ tallied.last_begun (map note_view (take l.note-index l.notes))

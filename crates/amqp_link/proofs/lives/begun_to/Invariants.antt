-- The lives of each channel so far.
use Rattle.std.proofs.Common.{◌≡◌, map, take}
use Rattle.amqp_core.specs.Traced.Notes.{note_view}
use Rattle.amqp_link.specs.TallyView as view
use Rattle.amqp_link.proofs.lives.begun_to.Given as goal

abbrev pub invariant-loop-note : goal.invariant-loop-note
invariant-loop-note l = l.begun.items ≡ view.begun_to l.last (map note_view (take l.note-index l.notes))

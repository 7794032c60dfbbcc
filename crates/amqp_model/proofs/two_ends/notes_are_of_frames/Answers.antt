-- Each clause is a lemma on histories.
use Rattle.amqp_model.proofs.Carrying.{frames-of-channel, notes-of-frames}
use Rattle.amqp_model.proofs.two_ends.notes_are_of_frames.Goals as goal

pub returns-clause-frames : goal.returns-clause-frames
returns-clause-frames c = frames-of-channel

pub returns-clause-notes : goal.returns-clause-notes
returns-clause-notes c = notes-of-frames

-- Each clause is a lemma on what an end writes.
use Rattle.amqp_model.proofs.ReadBackFrames.{frames-say}
use Rattle.amqp_model.proofs.fitting.frames_say_payloads.Goals as goal

pub returns : goal.returns
returns c = frames-say

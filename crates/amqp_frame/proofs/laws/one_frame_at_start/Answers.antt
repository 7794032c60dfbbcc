use Rattle.amqp_frame.proofs.FrameLemmas.{one_frame}
use Rattle.amqp_frame.proofs.laws.one_frame_at_start.Goals as goal

pub returns : goal.returns
returns c = one_frame

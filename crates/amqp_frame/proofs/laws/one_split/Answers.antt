use Rattle.amqp_frame.proofs.SplittingLemmas.{one_split}
use Rattle.amqp_frame.proofs.laws.one_split.Goals as goal

pub returns : goal.returns
returns c = one_split

-- The lengths compute.
use Rattle.amqp_model.proofs.CutLemmas.{row-above, row-full, row-empty}
use Rattle.amqp_model.proofs.contents.sizes_of_cut.Goals as goal

pub returns-clause-above : goal.returns-clause-above
returns-clause-above c = row-above

pub returns-clause-full : goal.returns-clause-full
returns-clause-full c = row-full

pub returns-clause-empty : goal.returns-clause-empty
returns-clause-empty c = row-empty

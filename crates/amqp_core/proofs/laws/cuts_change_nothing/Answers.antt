-- In whatever pieces, they come to what their octets come to.
use Rattle.amqp_core.proofs.CutLemmas.{cuts_change_nothing}
use Rattle.amqp_core.proofs.laws.cuts_change_nothing.Goals as goal

pub returns : goal.returns
returns c = cuts_change_nothing

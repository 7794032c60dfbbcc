-- The clauses are lemmas on histories, on frames and on asks.
use Rattle.amqp_model.proofs.Settling.{agreed-within, agreed-stays, ask-keeps-agreed}
use Rattle.amqp_model.proofs.fitting.agreed_is_within.Goals as goal

pub returns-clause-history : goal.returns-clause-history
returns-clause-history c = agreed-within c.written_reads_back.ensures.method

pub returns-clause-frame : goal.returns-clause-frame
returns-clause-frame c = agreed-stays

pub returns-clause-ask : goal.returns-clause-ask
returns-clause-ask c = ask-keeps-agreed

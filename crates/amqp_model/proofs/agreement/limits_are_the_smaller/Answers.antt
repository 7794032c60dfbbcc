-- Each clause is a lemma on pairs.
use Rattle.amqp_model.proofs.Agreements.{agrees-on-smaller, agrees-past-handshake, agrees-running, agrees-ungated}
use Rattle.amqp_model.proofs.agreement.limits_are_the_smaller.Goals as goal

pub returns-clause-agreed : goal.returns-clause-agreed
returns-clause-agreed c = agrees-on-smaller c.written_reads_back.ensures.method

pub returns-clause-past_handshake : goal.returns-clause-past_handshake
returns-clause-past_handshake c = agrees-past-handshake c.written_reads_back.ensures.method

pub returns-clause-running : goal.returns-clause-running
returns-clause-running c = agrees-running c.written_reads_back.ensures.method

pub returns-clause-ungated : goal.returns-clause-ungated
returns-clause-ungated c = agrees-ungated c.written_reads_back.ensures.method

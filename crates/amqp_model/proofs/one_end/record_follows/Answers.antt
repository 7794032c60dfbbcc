-- Each clause is a lemma on the entries of a channel.
use Rattle.amqp_model.proofs.Following.{follows-taken, follows-put, follows-leaving}
use Rattle.amqp_model.proofs.one_end.record_follows.Goals as goal

pub returns-clause-taken : goal.returns-clause-taken
returns-clause-taken c = follows-taken

pub returns-clause-put : goal.returns-clause-put
returns-clause-put c = follows-put

pub returns-clause-at_leaving : goal.returns-clause-at_leaving
returns-clause-at_leaving c = λ role channel entries stands. stands

pub returns-clause-leaving : goal.returns-clause-leaving
returns-clause-leaving c = follows-leaving

-- Each clause is a lemma on the entries of a channel.
use Rattle.amqp_model.specs.History.Histories.{entries_before_leaving}
use Rattle.amqp_model.proofs.Standing.{counted, state-reads}
use Rattle.amqp_model.proofs.one_end.record_reads.Goals as goal

pub returns-clause-channel : goal.returns-clause-channel
returns-clause-channel c = λ role channel entries stands. counted role channel (entries_before_leaving entries) stands

pub returns-clause-state : goal.returns-clause-state
returns-clause-state c = state-reads

use Rattle.std.proofs.Common.{sym, ◌∙◌}
use Rattle.amqp_typed.proofs.tx.AnyMethod.from_view.Goals as goal

pub of_view-requires : goal.of_view-requires
of_view-requires c = (c.kind_in.ensures.fit, sym c.kind_in.ensures.kind ∙ c.in-TxSelect.is)

pub returns-in-TxSelect : goal.returns-in-TxSelect
returns-in-TxSelect c = c.of_view.ensures

pub of_view-requires-in-TxSelectOk : goal.of_view-requires-in-TxSelectOk
of_view-requires-in-TxSelectOk c = (c.kind_in.ensures.fit, sym c.kind_in.ensures.kind ∙ c.in-TxSelectOk.is)

pub returns-in-TxSelectOk : goal.returns-in-TxSelectOk
returns-in-TxSelectOk c = c.of_view-in-TxSelectOk.ensures

pub of_view-requires-in-TxCommit : goal.of_view-requires-in-TxCommit
of_view-requires-in-TxCommit c = (c.kind_in.ensures.fit, sym c.kind_in.ensures.kind ∙ c.in-TxCommit.is)

pub returns-in-TxCommit : goal.returns-in-TxCommit
returns-in-TxCommit c = c.of_view-in-TxCommit.ensures

pub of_view-requires-in-TxCommitOk : goal.of_view-requires-in-TxCommitOk
of_view-requires-in-TxCommitOk c = (c.kind_in.ensures.fit, sym c.kind_in.ensures.kind ∙ c.in-TxCommitOk.is)

pub returns-in-TxCommitOk : goal.returns-in-TxCommitOk
returns-in-TxCommitOk c = c.of_view-in-TxCommitOk.ensures

pub of_view-requires-in-TxRollback : goal.of_view-requires-in-TxRollback
of_view-requires-in-TxRollback c = (c.kind_in.ensures.fit, sym c.kind_in.ensures.kind ∙ c.in-TxRollback.is)

pub returns-in-TxRollback : goal.returns-in-TxRollback
returns-in-TxRollback c = c.of_view-in-TxRollback.ensures

pub of_view-requires-in-TxRollbackOk : goal.of_view-requires-in-TxRollbackOk
of_view-requires-in-TxRollbackOk c = (c.kind_in.ensures.fit, sym c.kind_in.ensures.kind ∙ c.in-TxRollbackOk.is)

pub returns-in-TxRollbackOk : goal.returns-in-TxRollbackOk
returns-in-TxRollbackOk c = c.of_view-in-TxRollbackOk.ensures

-- What the structs of the class tx stand for: each the call of its method, with the fields as arguments in
-- the order of the table.
-- Written by `tools/typed_methods.py` from the table of methods in `docs/PROTOCOL.md`: change those and run it again.
use Rattle.std.specs.Prelude.{[]}
use Rattle.amqp_method.specs.Arguments.{Call, call}
use Rattle.amqp_method.specs.declared.kinds.Kind.TheVariants.{TxSelect, TxSelectOk, TxCommit, TxCommitOk, TxRollback, TxRollbackOk}
use Rattle.amqp_typed.specs.declared.tx.AnyMethod.{AnyMethod}
use Rattle.amqp_typed.specs.declared.tx.AnyMethod.TheVariants as any

abbrev pub any_call : AnyMethod → Call
any_call (any.Select m) = call TxSelect []
any_call (any.SelectOk m) = call TxSelectOk []
any_call (any.Commit m) = call TxCommit []
any_call (any.CommitOk m) = call TxCommitOk []
any_call (any.Rollback m) = call TxRollback []
any_call (any.RollbackOk m) = call TxRollbackOk []

use Rattle.std.proofs.Common.{sym, ◌∙◌}
use Rattle.amqp_typed.proofs.confirm.AnyMethod.from_method.Goals as goal

pub of_method-requires : goal.of_method-requires
of_method-requires c = sym c.kind.ensures ∙ c.in-ConfirmSelect.is

pub returns-in-ConfirmSelect : goal.returns-in-ConfirmSelect
returns-in-ConfirmSelect c = c.of_method.ensures

pub of_method-requires-in-ConfirmSelectOk : goal.of_method-requires-in-ConfirmSelectOk
of_method-requires-in-ConfirmSelectOk c = sym c.kind.ensures ∙ c.in-ConfirmSelectOk.is

pub returns-in-ConfirmSelectOk : goal.returns-in-ConfirmSelectOk
returns-in-ConfirmSelectOk c = c.of_method-in-ConfirmSelectOk.ensures

use Rattle.std.proofs.Common.{sym, ◌∙◌}
use Rattle.amqp_typed.proofs.confirm.AnyMethod.from_view.Goals as goal

pub of_view-requires : goal.of_view-requires
of_view-requires c = (c.kind_in.ensures.fit, sym c.kind_in.ensures.kind ∙ c.in-ConfirmSelect.is)

pub returns-in-ConfirmSelect : goal.returns-in-ConfirmSelect
returns-in-ConfirmSelect c = c.of_view.ensures

pub of_view-requires-in-ConfirmSelectOk : goal.of_view-requires-in-ConfirmSelectOk
of_view-requires-in-ConfirmSelectOk c = (c.kind_in.ensures.fit, sym c.kind_in.ensures.kind ∙ c.in-ConfirmSelectOk.is)

pub returns-in-ConfirmSelectOk : goal.returns-in-ConfirmSelectOk
returns-in-ConfirmSelectOk c = c.of_view-in-ConfirmSelectOk.ensures

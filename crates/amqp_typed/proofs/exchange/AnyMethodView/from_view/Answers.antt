use Rattle.std.proofs.Common.{sym, ◌∙◌}
use Rattle.amqp_typed.proofs.exchange.AnyMethodView.from_view.Goals as goal

pub of_view-requires : goal.of_view-requires
of_view-requires c = (c.kind_in.ensures.fit, sym c.kind_in.ensures.kind ∙ c.in-ExchangeDeclare.is)

pub returns-in-ExchangeDeclare : goal.returns-in-ExchangeDeclare
returns-in-ExchangeDeclare c = c.of_view.ensures

pub of_view-requires-in-ExchangeDeclareOk : goal.of_view-requires-in-ExchangeDeclareOk
of_view-requires-in-ExchangeDeclareOk c = (c.kind_in.ensures.fit, sym c.kind_in.ensures.kind ∙ c.in-ExchangeDeclareOk.is)

pub returns-in-ExchangeDeclareOk : goal.returns-in-ExchangeDeclareOk
returns-in-ExchangeDeclareOk c = c.of_view-in-ExchangeDeclareOk.ensures

pub of_view-requires-in-ExchangeDelete : goal.of_view-requires-in-ExchangeDelete
of_view-requires-in-ExchangeDelete c = (c.kind_in.ensures.fit, sym c.kind_in.ensures.kind ∙ c.in-ExchangeDelete.is)

pub returns-in-ExchangeDelete : goal.returns-in-ExchangeDelete
returns-in-ExchangeDelete c = c.of_view-in-ExchangeDelete.ensures

pub of_view-requires-in-ExchangeDeleteOk : goal.of_view-requires-in-ExchangeDeleteOk
of_view-requires-in-ExchangeDeleteOk c = (c.kind_in.ensures.fit, sym c.kind_in.ensures.kind ∙ c.in-ExchangeDeleteOk.is)

pub returns-in-ExchangeDeleteOk : goal.returns-in-ExchangeDeleteOk
returns-in-ExchangeDeleteOk c = c.of_view-in-ExchangeDeleteOk.ensures

pub of_view-requires-in-ExchangeBind : goal.of_view-requires-in-ExchangeBind
of_view-requires-in-ExchangeBind c = (c.kind_in.ensures.fit, sym c.kind_in.ensures.kind ∙ c.in-ExchangeBind.is)

pub returns-in-ExchangeBind : goal.returns-in-ExchangeBind
returns-in-ExchangeBind c = c.of_view-in-ExchangeBind.ensures

pub of_view-requires-in-ExchangeBindOk : goal.of_view-requires-in-ExchangeBindOk
of_view-requires-in-ExchangeBindOk c = (c.kind_in.ensures.fit, sym c.kind_in.ensures.kind ∙ c.in-ExchangeBindOk.is)

pub returns-in-ExchangeBindOk : goal.returns-in-ExchangeBindOk
returns-in-ExchangeBindOk c = c.of_view-in-ExchangeBindOk.ensures

pub of_view-requires-in-ExchangeUnbind : goal.of_view-requires-in-ExchangeUnbind
of_view-requires-in-ExchangeUnbind c = (c.kind_in.ensures.fit, sym c.kind_in.ensures.kind ∙ c.in-ExchangeUnbind.is)

pub returns-in-ExchangeUnbind : goal.returns-in-ExchangeUnbind
returns-in-ExchangeUnbind c = c.of_view-in-ExchangeUnbind.ensures

pub of_view-requires-in-ExchangeUnbindOk : goal.of_view-requires-in-ExchangeUnbindOk
of_view-requires-in-ExchangeUnbindOk c = (c.kind_in.ensures.fit, sym c.kind_in.ensures.kind ∙ c.in-ExchangeUnbindOk.is)

pub returns-in-ExchangeUnbindOk : goal.returns-in-ExchangeUnbindOk
returns-in-ExchangeUnbindOk c = c.of_view-in-ExchangeUnbindOk.ensures

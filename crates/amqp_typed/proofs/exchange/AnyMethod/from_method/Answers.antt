use Rattle.std.proofs.Common.{sym, ◌∙◌}
use Rattle.amqp_typed.proofs.exchange.AnyMethod.from_method.Goals as goal

pub of_method-requires : goal.of_method-requires
of_method-requires c = sym c.kind.ensures ∙ c.in-ExchangeDeclare.is

pub returns-in-ExchangeDeclare : goal.returns-in-ExchangeDeclare
returns-in-ExchangeDeclare c = c.of_method.ensures

pub of_method-requires-in-ExchangeDeclareOk : goal.of_method-requires-in-ExchangeDeclareOk
of_method-requires-in-ExchangeDeclareOk c = sym c.kind.ensures ∙ c.in-ExchangeDeclareOk.is

pub returns-in-ExchangeDeclareOk : goal.returns-in-ExchangeDeclareOk
returns-in-ExchangeDeclareOk c = c.of_method-in-ExchangeDeclareOk.ensures

pub of_method-requires-in-ExchangeDelete : goal.of_method-requires-in-ExchangeDelete
of_method-requires-in-ExchangeDelete c = sym c.kind.ensures ∙ c.in-ExchangeDelete.is

pub returns-in-ExchangeDelete : goal.returns-in-ExchangeDelete
returns-in-ExchangeDelete c = c.of_method-in-ExchangeDelete.ensures

pub of_method-requires-in-ExchangeDeleteOk : goal.of_method-requires-in-ExchangeDeleteOk
of_method-requires-in-ExchangeDeleteOk c = sym c.kind.ensures ∙ c.in-ExchangeDeleteOk.is

pub returns-in-ExchangeDeleteOk : goal.returns-in-ExchangeDeleteOk
returns-in-ExchangeDeleteOk c = c.of_method-in-ExchangeDeleteOk.ensures

pub of_method-requires-in-ExchangeBind : goal.of_method-requires-in-ExchangeBind
of_method-requires-in-ExchangeBind c = sym c.kind.ensures ∙ c.in-ExchangeBind.is

pub returns-in-ExchangeBind : goal.returns-in-ExchangeBind
returns-in-ExchangeBind c = c.of_method-in-ExchangeBind.ensures

pub of_method-requires-in-ExchangeBindOk : goal.of_method-requires-in-ExchangeBindOk
of_method-requires-in-ExchangeBindOk c = sym c.kind.ensures ∙ c.in-ExchangeBindOk.is

pub returns-in-ExchangeBindOk : goal.returns-in-ExchangeBindOk
returns-in-ExchangeBindOk c = c.of_method-in-ExchangeBindOk.ensures

pub of_method-requires-in-ExchangeUnbind : goal.of_method-requires-in-ExchangeUnbind
of_method-requires-in-ExchangeUnbind c = sym c.kind.ensures ∙ c.in-ExchangeUnbind.is

pub returns-in-ExchangeUnbind : goal.returns-in-ExchangeUnbind
returns-in-ExchangeUnbind c = c.of_method-in-ExchangeUnbind.ensures

pub of_method-requires-in-ExchangeUnbindOk : goal.of_method-requires-in-ExchangeUnbindOk
of_method-requires-in-ExchangeUnbindOk c = sym c.kind.ensures ∙ c.in-ExchangeUnbindOk.is

pub returns-in-ExchangeUnbindOk : goal.returns-in-ExchangeUnbindOk
returns-in-ExchangeUnbindOk c = c.of_method-in-ExchangeUnbindOk.ensures

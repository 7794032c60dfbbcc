-- What is allowed of a flow and of a close is so whatever they say.
use Rattle.std.proofs.Common.{sym, subst}
use Rattle.std.proofs.lemmas.Result.{err_from_is_err_and}
use Rattle.amqp_core.specs.Asks.View.{lent_view}
use Rattle.amqp_core.specs.Asks.Outcomes.{IsAllowed, IsRefusal}
use Rattle.amqp_core.specs.Connection.View.{connection_end}
use Rattle.amqp_core.specs.Heard.View.{cause_view}
use Rattle.amqp_core.specs.declared.asks.LentAsk.{LentAsk}
use Rattle.amqp_core.proofs.connection.Connection.allow.Goals as goal

pub returns-in_err-_agreed-in-Flow-clause-refused : goal.returns-in_err-_agreed-in-Flow-clause-refused
returns-in_err-_agreed-in-Flow-clause-refused c =
    let p = err_from_is_err_and c.from_residual-in_err-_agreed-in-Flow.result c.from_residual-in_err-_agreed-in-Flow.ensures.1 in
    rw (p.1, p.2) (subst (λ (a : LentAsk). IsRefusal c.args.self.now.settings (connection_end c.args.self.now) (lent_view a) c.in_err-_agreed-in-Flow.field-0.0) (sym c.in-Flow.is)
    (c.in_err-_agreed-in-Flow.ensures.refused c.in-Flow.field-1))

pub returns-in_err-_agreed-in-CloseChannel-clause-refused : goal.returns-in_err-_agreed-in-CloseChannel-clause-refused
returns-in_err-_agreed-in-CloseChannel-clause-refused c =
    let p = err_from_is_err_and c.from_residual-in_err-_agreed-in-CloseChannel.result c.from_residual-in_err-_agreed-in-CloseChannel.ensures.1 in
    rw (p.1, p.2) (subst (λ (a : LentAsk). IsRefusal c.args.self.now.settings (connection_end c.args.self.now) (lent_view a) c.in_err-_agreed-in-CloseChannel.field-0.0) (sym c.in-CloseChannel.is)
    (c.in_err-_agreed-in-CloseChannel.ensures.refused c.in-CloseChannel.field-1 c.in-CloseChannel.field-2.now (cause_view c.in-CloseChannel.field-3)))

pub returns-in_ok-_agreed-in-Flow-clause-allowed : goal.returns-in_ok-_agreed-in-Flow-clause-allowed
returns-in_ok-_agreed-in-Flow-clause-allowed c =
    subst (λ (a : LentAsk). IsAllowed c.args.self.now.settings (connection_end c.args.self.now) (lent_view a)) (sym c.in-Flow.is) (c.in_ok-_agreed-in-Flow.ensures.allowed c.in-Flow.field-1)

pub returns-in_ok-_agreed-in-CloseChannel-clause-allowed : goal.returns-in_ok-_agreed-in-CloseChannel-clause-allowed
returns-in_ok-_agreed-in-CloseChannel-clause-allowed c =
    subst (λ (a : LentAsk). IsAllowed c.args.self.now.settings (connection_end c.args.self.now) (lent_view a)) (sym c.in-CloseChannel.is)
    (c.in_ok-_agreed-in-CloseChannel.ensures.allowed c.in-CloseChannel.field-1 c.in-CloseChannel.field-2.now (cause_view c.in-CloseChannel.field-3))

use Rattle.std.proofs.lemmas.Result.{err_from_is_err_and}
use Rattle.amqp_model.specs.End.Asks as asks
use Rattle.amqp_core.specs.Config.Settings.{role_for}
use Rattle.amqp_core.proofs.connection.Connection.allow_flow.Goals as goal

pub returns-in_err-agreed-clause-refused : goal.returns-in_err-agreed-clause-refused
returns-in_err-agreed-clause-refused c =
    let p = err_from_is_err_and c.from_residual.result c.from_residual.ensures.1 in
    rw (p.1, p.2) (λ active. c.in_err-agreed.ensures.refused (role_for c.args.self.now.settings) (asks.Flow c.args.number active))

pub returns-in_err-standing-clause-refused : goal.returns-in_err-standing-clause-refused
returns-in_err-standing-clause-refused c =
    let p = err_from_is_err_and c.from_residual-in_err-standing.result c.from_residual-in_err-standing.ensures.1 in
    rw (p.1, p.2) (λ active. c.in_err-standing.ensures.refused _)

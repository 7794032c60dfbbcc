use Rattle.std.proofs.Common.{rules, ◌≡◌, false}
use Rattle.std.proofs.lemmas.Result.{err_from_is_err_and}
use Rattle.amqp_core.specs.Connection.Decisions.{holds_start}
use Rattle.amqp_core.specs.Config.Settings.{config_view, role_for}
use Rattle.amqp_core.specs.Connection.Stages.{phase_at}
use Rattle.amqp_core.proofs.DecisionLemmas.{answers_none, refused_by}
use Rattle.amqp_core.proofs.connection.Connection.answer.Goals as goal

pub returns-in_err-method-in-HoldsStart-clause-refused : goal.returns-in_err-method-in-HoldsStart-clause-refused
returns-in_err-method-in-HoldsStart-clause-refused c =
    let p = err_from_is_err_and c.from_residual.result c.from_residual.ensures.1 in
    rw (p.1, p.2, c.in-HoldsStart.is) c.in_err-method-in-HoldsStart.ensures.refused

pub returns-in_ok-method-in-HoldsStart-clause-decides : goal.returns-in_ok-method-in-HoldsStart-clause-decides
returns-in_ok-method-in-HoldsStart-clause-decides c = rw c.in-HoldsStart.is c.in_ok-method-in-HoldsStart.ensures.decides

pub returns-in-AwaitsProtocolHeader-clause-refused : goal.returns-in-AwaitsProtocolHeader-clause-refused
returns-in-AwaitsProtocolHeader-clause-refused c =
    let none : holds_start (phase_at c.args.self.now.stage) ≡ false = search rules in
    refused_by _ _ (answers_none (role_for c.args.self.now.settings) (config_view c.args.self.now.settings) (phase_at c.args.self.now.stage)
    c.args.mechanism.now c.args.response.now c.args.locale.now none)

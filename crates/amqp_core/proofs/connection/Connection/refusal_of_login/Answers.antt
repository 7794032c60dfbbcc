use Rattle.std.proofs.Common.{ap, ◌∙◌}
use Rattle.std.proofs.lemmas.Result.{err_from_is_err_and}
use Rattle.amqp_core.specs.Faults.Numbers.{refusal_view}
use Rattle.amqp_core.specs.Config.Settings.{role_for}
use Rattle.amqp_core.specs.Connection.Stages.{phase_at}
use Rattle.amqp_core.proofs.DecisionLemmas.{none_refused, refusal_lost, refused_by, refuses_client, served}
use Rattle.amqp_core.proofs.connection.Connection.refusal_of_login.Goals as goal

pub returns-in_err-allow_client-clause-refused : goal.returns-in_err-allow_client-clause-refused
returns-in_err-allow_client-clause-refused c =
    let settings = c.args.self.now.settings in
    let p = err_from_is_err_and c.from_residual.result c.from_residual.ensures.1 in
    rw (p.1, p.2) (ap refusal_view c.in_err-allow_client.ensures.not_awaited
    ∙ refused_by _ _ (none_refused (role_for settings) (phase_at c.args.self.now.stage) c.args.code c.args.text.now c.in_err-allow_client.ensures.none))

pub returns-in_err-method-clause-refused : goal.returns-in_err-method-clause-refused
returns-in_err-method-clause-refused c =
    let settings = c.args.self.now.settings in
    let p = err_from_is_err_and c.from_residual-in_err-method.result c.from_residual-in_err-method.ensures.1 in
    rw (p.1, p.2) (c.in_err-method.ensures.err
    ∙ refusal_lost (role_for settings) (phase_at c.args.self.now.stage) c.args.code c.args.text.now c.in_ok-allow_client.ensures.server c.in_ok-allow_client.ensures.holds)

pub returns-clause-decides : goal.returns-clause-decides
returns-clause-decides c =
    let settings = c.args.self.now.settings in
    let there = served settings c.in_ok-allow_client.ensures.server in
    refuses_client settings there.0 c.args.self.now.stage c.agreed.result c.args.code c.args.text.now _ there.1 c.in_ok-allow_client.ensures.holds c.agreed.ensures
    c.in_ok-method.ensures.short c.in_ok-method.ensures.ok

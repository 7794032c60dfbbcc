use Rattle.std.proofs.Common.{rules, ◌≡◌, false}
use Rattle.amqp_core.specs.Connection.Decisions.{holds_start}
use Rattle.amqp_core.specs.Config.Settings.{config_view, role_for}
use Rattle.amqp_core.specs.Connection.Stages.{phase_at}
use Rattle.amqp_core.proofs.DecisionLemmas.{answers_none, refused_by}
use Rattle.amqp_core.proofs.connection.Connection.allow_answer.Goals as goal

pub returns-in-HoldsStart-clause-allowed : goal.returns-in-HoldsStart-clause-allowed
returns-in-HoldsStart-clause-allowed c = rw c.in-HoldsStart.is c.allow_answer.ensures.allowed

pub returns-in-HoldsStart-clause-refused : goal.returns-in-HoldsStart-clause-refused
returns-in-HoldsStart-clause-refused c = rw c.in-HoldsStart.is c.allow_answer.ensures.refused

pub returns-in-AwaitsProtocolHeader-clause-refused : goal.returns-in-AwaitsProtocolHeader-clause-refused
returns-in-AwaitsProtocolHeader-clause-refused c =
    let none : holds_start (phase_at c.args.self.now.stage) ≡ false = search rules in
    refused_by _ _ (answers_none (role_for c.args.self.now.settings) (config_view c.args.self.now.settings) (phase_at c.args.self.now.stage)
    c.args.mechanism.now c.args.response.now c.args.locale.now none)

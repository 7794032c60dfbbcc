use Rattle.std.proofs.Common.{rules, ◌≡◌, false, sym, ap, ◌∙◌}
use Rattle.std.proofs.lemmas.Bool.{false≢true}
use Rattle.std.proofs.lemmas.Result.{err_from_is_err_and}
use Rattle.amqp_core.specs.Connection.Decisions.{holds_client}
use Rattle.amqp_core.specs.Faults.Numbers.{refusal_view}
use Rattle.amqp_core.specs.Config.Settings.{config_view, role_for}
use Rattle.amqp_core.specs.Connection.Stages.{phase_at}
use Rattle.amqp_core.proofs.DecisionLemmas.{admits_login, admits_open, none_admitted, refused_by, served, some_admitted}
use Rattle.amqp_core.proofs.connection.Connection.admission.Goals as goal

pub returns-in_err-allow_client-clause-refused : goal.returns-in_err-allow_client-clause-refused
returns-in_err-allow_client-clause-refused c =
    let settings = c.args.self.now.settings in
    let p = err_from_is_err_and c.from_residual.result c.from_residual.ensures.1 in
    rw (p.1, p.2) (ap refusal_view c.in_err-allow_client.ensures.not_awaited
    ∙ refused_by _ _ (none_admitted (role_for settings) (config_view settings) (phase_at c.args.self.now.stage) c.in_err-allow_client.ensures.none))

pub returns-in_err-method-in-HoldsLogin-clause-refused : goal.returns-in_err-method-in-HoldsLogin-clause-refused
returns-in_err-method-in-HoldsLogin-clause-refused c =
    let settings = c.args.self.now.settings in
    let p = err_from_is_err_and c.from_residual-in_err-method-in-HoldsLogin.result c.from_residual-in_err-method-in-HoldsLogin.ensures.1 in
    rw (p.1, p.2) (sym (some_admitted (role_for settings) (config_view settings) (phase_at c.args.self.now.stage)
    c.in_ok-allow_client.ensures.server c.in_ok-allow_client.ensures.holds))

pub returns-in_ok-method-in-HoldsLogin-clause-decides : goal.returns-in_ok-method-in-HoldsLogin-clause-decides
returns-in_ok-method-in-HoldsLogin-clause-decides c =
    let settings = c.args.self.now.settings in
    let there = served settings c.in_ok-allow_client.ensures.server in
    rw c.in-HoldsLogin.is (admits_login settings there.0 _ there.1 c.in_ok-method-in-HoldsLogin.ensures)

pub returns-in-HoldsOpen-clause-decides : goal.returns-in-HoldsOpen-clause-decides
returns-in-HoldsOpen-clause-decides c =
    let settings = c.args.self.now.settings in
    let there = served settings c.in_ok-allow_client.ensures.server in
    rw c.in-HoldsOpen.is (admits_open settings there.0 c.in-HoldsOpen.agreed _ there.1 c.bare.ensures)

pub unreachable-requires : goal.unreachable-requires
unreachable-requires c =
    let none : holds_client (phase_at c.args.self.now.stage) ≡ false = search rules in
    false≢true (sym none ∙ c.in_ok-allow_client.ensures.holds)

use Rattle.std.proofs.Common.{refl}
use Rattle.std.proofs.lemmas.Result.{err_from_is_err_and}
use Rattle.amqp_method.specs.MethodView.{method_view}
use Rattle.amqp_channel.specs.Channels.ChannelsView.{channels_view}
use Rattle.amqp_core.proofs.AskLemmas.{all_are_put}
use Rattle.amqp_core.proofs.DecisionLemmas.{decision_lost, decision_put}
use Rattle.amqp_core.proofs.connection.Connection.put_decision.Goals as goal

pub returns-in_err-stage_method-clause-refused : goal.returns-in_err-stage_method-clause-refused
returns-in_err-stage_method-clause-refused c =
    let p = err_from_is_err_and c.from_residual.result c.from_residual.ensures.1 in
    rw (p.1, p.2) (λ control decides.
    decision_lost c.args.self.now.settings control c.args.self.now.stage c.args.decision.then (method_view c.args.decision.method) (channels_view c.args.self.now.channels)
    _ _ c.args.outbox.now _ decides c.in_err-stage_method.ensures.err refl c.in_err-stage_method.ensures.same)

pub returns-clause-accepted : goal.returns-clause-accepted
returns-clause-accepted c = λ control decides.
    decision_put c.args.self.now.settings control c.args.self.now.stage c.args.decision.then (method_view c.args.decision.method) (channels_view c.args.self.now.channels)
    c.args.outbox.now c.put.new.self decides c.in_ok-stage_method.ensures.reads_back
    (all_are_put c.args.outbox.now c.stage_method.new.outbox c.put.new.self _ c.requires.staged c.in_ok-stage_method.ensures.ok c.put.ensures)

use Rattle.std.proofs.Common.{ap, ◌∙◌}
use Rattle.std.proofs.lemmas.Result.{err_from_is_err_and}
use Rattle.amqp_model.specs.End.Controls as controls
use Rattle.amqp_core.specs.Connection.View.{connection_end}
use Rattle.amqp_core.specs.Faults.Numbers.{refusal_view}
use Rattle.amqp_core.specs.Connection.Stages.{phase_at}
use Rattle.amqp_core.proofs.AskLemmas.{all_are_put}
use Rattle.amqp_core.proofs.DecisionLemmas.{beat_lost, beat_put, beats_none, refused_by, refused_control}
use Rattle.amqp_core.proofs.connection.Connection.beat.Goals as goal

pub returns-in_err-_agreed-clause-refused : goal.returns-in_err-_agreed-clause-refused
returns-in_err-_agreed-clause-refused c =
    let p = err_from_is_err_and c.from_residual.result c.from_residual.ensures.1 in
    rw (p.1, p.2) (refused_control c.args.self.now.settings controls.Beat _ (connection_end c.args.self.now) c.args.outbox.now
    (ap refusal_view c.in_err-_agreed.ensures.not_running ∙ refused_by _ _ (beats_none (phase_at c.args.self.now.stage) c.in_err-_agreed.ensures.idle)))

pub returns-in_err-stage_heartbeat-clause-refused : goal.returns-in_err-stage_heartbeat-clause-refused
returns-in_err-stage_heartbeat-clause-refused c =
    let p = err_from_is_err_and c.from_residual-in_err-stage_heartbeat.result c.from_residual-in_err-stage_heartbeat.ensures.1 in
    rw (p.1, p.2) (beat_lost c.args.self.now.settings _ (connection_end c.args.self.now) c.args.outbox.now _
    (ap phase_at c.in_ok-_agreed.ensures.running) c.in_err-stage_heartbeat.ensures.err c.in_err-stage_heartbeat.ensures.same)

pub returns-clause-accepted : goal.returns-clause-accepted
returns-clause-accepted c =
    beat_put c.args.self.now.settings (connection_end c.args.self.now) c.args.outbox.now c.put.new.self (ap phase_at c.in_ok-_agreed.ensures.running)
    (all_are_put c.args.outbox.now c.stage_heartbeat.new.outbox c.put.new.self _ c.requires.staged c.in_ok-stage_heartbeat.ensures.ok c.put.ensures)

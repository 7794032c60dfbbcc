use Rattle.std.proofs.Common.{ap, ◌∙◌}
use Rattle.std.proofs.lemmas.Result.{err_from_is_err_and}
use Rattle.amqp_core.specs.Faults.Numbers.{refusal_view}
use Rattle.amqp_core.specs.Connection.Stages.{phase_at}
use Rattle.amqp_core.proofs.DecisionLemmas.{beat_allowed, beats_none, refused_by}
use Rattle.amqp_core.proofs.connection.Connection.allow_control.Goals as goal

pub returns-in_err-_agreed-in-Beat-clause-refused : goal.returns-in_err-_agreed-in-Beat-clause-refused
returns-in_err-_agreed-in-Beat-clause-refused c =
    let p = err_from_is_err_and c.from_residual.result c.from_residual.ensures.1 in
    rw (p.1, p.2, c.in-Beat.is) (ap refusal_view c.in_err-_agreed-in-Beat.ensures.not_running
    ∙ refused_by _ _ (beats_none (phase_at c.args.self.now.stage) c.in_err-_agreed-in-Beat.ensures.idle))

pub returns-in_ok-_agreed-in-Beat-clause-allowed : goal.returns-in_ok-_agreed-in-Beat-clause-allowed
returns-in_ok-_agreed-in-Beat-clause-allowed c =
    rw c.in-Beat.is (beat_allowed (phase_at c.args.self.now.stage) (ap phase_at c.in_ok-_agreed-in-Beat.ensures.running))

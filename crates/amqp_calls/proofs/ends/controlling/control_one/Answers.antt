use Rattle.std.proofs.Common.{refl}
use Rattle.amqp_calls.specs.Decisions.{decision_view}
use Rattle.amqp_calls.specs.EndAsks.ControlsOne.{made, unmade}
use Rattle.amqp_calls.proofs.ends.controlling.control_one.Goals as goal

pub returns-in-Ok : goal.returns-in-Ok
returns-in-Ok g c = made (decision_view c.in-Ok.decision) c.in-Ok.ensures.ok c.decide-answer.ensures

pub returns-in-Err : goal.returns-in-Err
returns-in-Err g c = unmade c.in-Err.fault c.in-Err.ensures.err c.number.ensures refl

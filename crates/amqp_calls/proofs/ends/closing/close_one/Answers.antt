use Rattle.std.proofs.Common.{refl}
use Rattle.amqp_calls.specs.Closing.{close_view}
use Rattle.amqp_calls.specs.Closing.ClosesKept.{made, unmade}
use Rattle.amqp_calls.proofs.ends.closing.close_one.Goals as goal

pub returns-in-Ok : goal.returns-in-Ok
returns-in-Ok g c = made (close_view c.in-Ok.close) c.in-Ok.ensures.ok c.close_kept-answer.ensures

pub returns-in-Err : goal.returns-in-Err
returns-in-Err g c = unmade c.in-Err.fault c.in-Err.ensures.err c.number.ensures refl

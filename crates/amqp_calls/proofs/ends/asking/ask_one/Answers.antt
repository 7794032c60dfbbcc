use Rattle.std.proofs.Common.{refl}
use Rattle.amqp_core.specs.Asks.View.{ask_view}
use Rattle.amqp_calls.specs.EndAsks.AsksOne.{made, unmade}
use Rattle.amqp_calls.proofs.ends.asking.ask_one.Goals as goal

pub returns-in-Ok : goal.returns-in-Ok
returns-in-Ok g c = made (ask_view c.in-Ok.made) c.in-Ok.ensures.ok c.put_ask-answer.ensures

pub returns-in-Err : goal.returns-in-Err
returns-in-Err g c = unmade c.in-Err.fault c.in-Err.ensures.err c.number.ensures refl

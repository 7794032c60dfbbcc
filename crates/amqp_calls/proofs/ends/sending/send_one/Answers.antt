use Rattle.std.proofs.Common.{refl}
use Rattle.amqp_method.specs.MethodView.{method_view}
use Rattle.amqp_calls.specs.Sending.SendsOne.{unmade}
use Rattle.amqp_calls.proofs.Sent.{not_method, of_call}
use Rattle.amqp_calls.proofs.ends.sending.send_one.Goals as goal

pub returns-in-Ok : goal.returns-in-Ok
returns-in-Ok g c =
    of_call c.args.kept.now c.args.channel (method_view c.in-Ok.made) c.args.method.now c.args.header.now c.args.body.now c.send_method.result
    c.send_method.new.kept c.in-Ok.ensures.ok c.send_method.ensures

pub returns-in-Err : goal.returns-in-Err
returns-in-Err g c =
    unmade c.in-Err.fault (not_method c.args.method.now c.args.header.now c.args.body.now c.in-Err.fault c.in-Err.ensures.err) c.number.ensures
    refl

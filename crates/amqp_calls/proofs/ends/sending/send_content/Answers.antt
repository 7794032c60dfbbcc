use Rattle.std.proofs.Common.{refl}
use Rattle.amqp_method.specs.HeaderView.{header_view}
use Rattle.amqp_method.specs.MethodView.{method_view}
use Rattle.amqp_calls.specs.Sending.SendsOne.{unmade}
use Rattle.amqp_calls.proofs.Sent.{not_content, of_sized}
use Rattle.amqp_calls.proofs.ends.sending.send_content.Goals as goal

pub returns-in-Ok : goal.returns-in-Ok
returns-in-Ok g c =
    of_sized c.args.kept.now c.args.channel (method_view c.args.method.now) (header_view c.in-Ok.made) c.args.header.now c.args.body.now
    c.send_sized-answer.result c.send_sized-answer.new.kept c.requires c.in-Ok.ensures.ok c.send_sized-answer.ensures

pub returns-in-Err : goal.returns-in-Err
returns-in-Err g c =
    unmade c.in-Err.fault (not_content c.args.header.now c.args.body.now c.in-Err.fault c.in-Err.ensures.err) c.number.ensures refl

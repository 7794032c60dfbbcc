use Rattle.std.proofs.Common.{◌∙◌}
use Rattle.amqp_method.specs.MethodView.{method_view}
use Rattle.amqp_calls.proofs.Unwritten.{is_put, not_put}
use Rattle.amqp_calls.proofs.codec.written_methods.put_method.Goals as goal

pub returns-in-Ok-encoded : goal.returns-in-Ok-encoded
returns-in-Ok-encoded c =
    is_put c.args.number c.args.values.now c.args.room.now (method_view c.in-Ok.method) c.in-Ok.ensures.ok c.deref.result.now
    (c.deref.ensures.value ∙ c.in-Ok-encoded.ensures.ok) c.put.result c.put.new.room c.put.ensures.put c.put.ensures.room

pub returns-in-Ok : goal.returns-in-Ok
returns-in-Ok c =
    not_put c.args.number c.args.values.now c.args.room.now (method_view c.in-Ok.method) c.in-Ok.ensures.ok c.in-Err-encoded.fault c.in-Err-encoded.ensures.err

use Rattle.std.proofs.Common.{◌≡◌, ◌∙◌}
use Rattle.amqp_method.specs.MethodView.{method_view}
use Rattle.amqp_method.specs.Plain.{plain_method, CountsAllFit}
use Rattle.amqp_calls.proofs.Unwritten.{put_writes, not_encoded}
use Rattle.amqp_calls.proofs.ends.hearing.write_call.Goals as goal

pub returns-in-Ok : goal.returns-in-Ok
returns-in-Ok c =
    let call = method_view c.args.method.now in
    put_writes (λ octets. octets ≡ plain_method call) (CountsAllFit call.args → ⊥) (λ fault. ⊥) c.args.room.now c.deref.result.now
    (c.deref.ensures.value ∙ c.in-Ok.ensures.ok) c.put.result c.put.new.room c.put.ensures.put c.put.ensures.room

pub returns-in-Err : goal.returns-in-Err
returns-in-Err c = not_encoded (method_view c.args.method.now) c.args.room.now c.in-Err.fault c.in-Err.ensures.err

use Rattle.std.proofs.Common.{refl}
use Rattle.amqp_method.specs.HeaderView.{header_view}
use Rattle.amqp_calls.specs.LentContents.LendsCall.{headed, unread}
use Rattle.amqp_calls.proofs.ends.slices.lend_call.Goals as goal

pub returns-in-Ok : goal.returns-in-Ok
returns-in-Ok g c = headed (header_view c.in-Ok.made) c.in-Ok.ensures.ok c.lend_sized-answer.ensures

pub returns-in-Err : goal.returns-in-Err
returns-in-Err g c = unread c.in-Err.fault c.in-Err.ensures.err c.number.ensures refl refl

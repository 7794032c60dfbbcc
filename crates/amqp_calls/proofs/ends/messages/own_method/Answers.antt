use Rattle.std.proofs.Common.{sym, subst}
use Rattle.amqp_method.specs.FirstFault.{FirstFaultOfMethod}
use Rattle.amqp_calls.specs.Messages.{NotRead}
use Rattle.amqp_calls.proofs.Sent.{not_read}
use Rattle.amqp_calls.proofs.ends.messages.own_method.Goals as goal

pub returns-in-Err-clause-err : goal.returns-in-Err-clause-err
returns-in-Err-clause-err c =
    subst (NotRead (FirstFaultOfMethod c.args.payload.now)) (sym c.unread.ensures)
    (not_read (FirstFaultOfMethod c.args.payload.now) c.in-Err.fault c.in-Err.ensures.fault)

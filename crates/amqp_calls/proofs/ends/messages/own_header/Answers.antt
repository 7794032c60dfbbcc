use Rattle.std.proofs.Common.{sym, subst}
use Rattle.amqp_method.specs.FirstFault.{FirstFaultOfHeader}
use Rattle.amqp_calls.specs.Messages.{NotRead}
use Rattle.amqp_calls.proofs.Sent.{not_read}
use Rattle.amqp_calls.proofs.ends.messages.own_header.Goals as goal

pub returns-in-Err-clause-err : goal.returns-in-Err-clause-err
returns-in-Err-clause-err c =
    subst (NotRead (FirstFaultOfHeader c.args.payload.now)) (sym c.unread.ensures)
    (not_read (FirstFaultOfHeader c.args.payload.now) c.in-Err.fault c.in-Err.ensures.fault)

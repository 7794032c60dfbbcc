-- What holds of the ask that is lent holds of the message, and what holds of the message that is lent holds of its parts.
use Rattle.std.proofs.Common.{Ok, Err, subst}
use Rattle.std.proofs.lemmas.Result.{err_from_is_err_and}
use Rattle.amqp_method.specs.Messages.{Letter}
use Rattle.amqp_model.specs.End.Asks.{Send}
use Rattle.amqp_channel.specs.Events.EventView.{message_of}
use Rattle.amqp_core.specs.Asks.LentLetter.{lent_letter}
use Rattle.amqp_core.specs.Traced.Asks.{AskedTrace}
use Rattle.amqp_core.proofs.traced.Traced.send_content.Goals as goal

pub returns-clause-asked : goal.returns-clause-asked
returns-clause-asked g c = λ content.
    let old = c.args.self.now in
    let new = c.ask_lent.new.self in
    let asked : AskedTrace old (Send c.args.channel (message_of (lent_letter c.content-message.result))) (Ok tt) new = record {
      accepted = c.in_ok-ask_lent.ensures.asked.accepted;
      refused = tt;
      history = c.in_ok-ask_lent.ensures.asked.history;
      same = tt;
      fed = c.in_ok-ask_lent.ensures.asked.fed;
      written = c.in_ok-ask_lent.ensures.asked.written;
      settings = c.in_ok-ask_lent.ensures.asked.settings;
      heard = c.in_ok-ask_lent.ensures.asked.heard;
    } in
    subst (λ (l : Letter). AskedTrace old (Send c.args.channel (message_of l)) (Ok tt) new) c.content-message.ensures asked

pub returns-in_err-ask_lent-clause-asked : goal.returns-in_err-ask_lent-clause-asked
returns-in_err-ask_lent-clause-asked g c = λ content.
    let p = err_from_is_err_and c.from_residual.result c.from_residual.ensures.1 in
    let old = c.args.self.now in
    let new = c.ask_lent.new.self in
    let asked : AskedTrace {A = Unit {0}} old (Send c.args.channel (message_of (lent_letter c.content-message.result))) (Err c.in_err-ask_lent.field-0.0) new = record {
      accepted = tt;
      refused = c.in_err-ask_lent.ensures.asked.refused;
      history = tt;
      same = c.in_err-ask_lent.ensures.asked.same;
      fed = c.in_err-ask_lent.ensures.asked.fed;
      written = c.in_err-ask_lent.ensures.asked.written;
      settings = c.in_err-ask_lent.ensures.asked.settings;
      heard = c.in_err-ask_lent.ensures.asked.heard;
    } in
    let answered : AskedTrace {A = Unit {0}} old (Send c.args.channel (message_of (lent_letter c.content-message.result))) c.from_residual.result new = rw (p.1, p.2) asked in
    subst (λ (l : Letter). AskedTrace {A = Unit {0}} old (Send c.args.channel (message_of l)) c.from_residual.result new) c.content-message.ensures answered

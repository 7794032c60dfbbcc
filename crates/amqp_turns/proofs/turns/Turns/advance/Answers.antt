-- Each turn of the loop sends one message more, and the last none.
use Rattle.std.proofs.Common.{arith, rules}
use Rattle.std.proofs.lemmas.Result.{err_from_is_err_and}
use Rattle.amqp_turns.specs.Sends.{none_sent}
use Rattle.amqp_turns.proofs.SendLemmas.{advances_on}
use Rattle.amqp_turns.proofs.turns.Turns.advance.Goals as goal

pub loop-sent-init : goal.loop-sent-init
loop-sent-init g c = record { advances = none_sent; count = omega arith }

pub returns-in_err-send_next : goal.returns-in_err-send_next
returns-in_err-send_next g c =
    let p = err_from_is_err_and c.from_residual.result c.from_residual.ensures.1 in
    rw (p.1, p.2) record {
      advances = advances_on _ _ _ c.loop-sent.invariant.advances c.send_next.ensures.advances;
      count = tt;
      rests = tt;
      refused = c.in_err-send_next.ensures.refused;
      no_wait = c.in_err-send_next.ensures.no_wait;
    }

pub loop-sent-preserved : goal.loop-sent-preserved
loop-sent-preserved g c =
    record {
      advances = advances_on _ _ _ c.loop-sent.invariant.advances c.send_next.ensures.advances;
      count = omega (arith, c.in_ok-send_next.ensures.one c.if-branch.true, c.loop-sent.invariant.count);
    }

pub returns : goal.returns
returns g c =
    record {
      advances = advances_on _ _ _ c.loop-sent.invariant.advances c.send_next.ensures.advances;
      count = search rules;
      rests = search rules;
      refused = search rules;
      no_wait = search rules;
    }

use Rattle.amqp_method.proofs.CommonProperties.{earlier_past}
use Rattle.amqp_method.proofs.header_checker.past_earlier.Goals as goal

pub returns : goal.returns
returns c =
    earlier_past c.args.flags c.args.end c.args.octets.now c.in_ok-first.first.now c.in_ok-second.second.now c.in_ok-third.third.now c.in_ok-fourth.fourth.now c.in_ok-fifth.fifth.now
    c.requires.earlier c.in_ok-first.ensures.read c.in_ok-second.ensures.read (c.in_ok-third.ensures.read c.args.end) c.in_ok-fourth.ensures.read c.in_ok-fifth.ensures.read

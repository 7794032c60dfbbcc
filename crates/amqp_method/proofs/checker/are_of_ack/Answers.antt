use Rattle.amqp_method.proofs.CommonKinds.{ack_ends}
use Rattle.amqp_method.proofs.checker.are_of_ack.Goals as goal

pub returns : goal.returns
returns c =
    rw c.ok.ensures.value
    (ack_ends c.args.end _ _ c.args.octets.now _ _ c.read_end.result
    c.in_ok-left.ensures.read c.in_ok-octets.ensures.read c.read_end.ensures)

use Rattle.amqp_method.proofs.CommonKinds.{deliver_ends}
use Rattle.amqp_method.proofs.checker.are_of_deliver.Goals as goal

pub returns : goal.returns
returns c =
    rw c.ok.ensures.value
    (deliver_ends c.args.end _ _ _ _ _ c.args.octets.now _ _ _ _ _ c.read_end.result
    c.in_ok-left.ensures.read c.in_ok-left-2.ensures.read c.in_ok-left-3.ensures.read c.in_ok-left-4.ensures.read c.in_ok-octets.ensures.read c.read_end.ensures)

use Rattle.amqp_calls.proofs.Unwritten.{not_all}
use Rattle.amqp_calls.proofs.codec.owned.own_args.Goals as goal

pub returns-in-Err-clause-err : goal.returns-in-Err-clause-err
returns-in-Err-clause-err c =
    rw (c.at.ensures) (not_all c.args.values.now c.loop-place.place _ c.in-Err.fault c.loop-place-test.true c.in-Err.ensures.err)

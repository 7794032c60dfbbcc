use Rattle.amqp_calls.proofs.WrittenTables.{not_pairs}
use Rattle.amqp_calls.proofs.codec.written_tables.own_pairs.Goals as goal

pub returns-in-Err-clause-err : goal.returns-in-Err-clause-err
returns-in-Err-clause-err c =
    rw (c.at.ensures) (not_pairs c.args.pairs.now c.loop-place.place _ c.in-Err.fault c.loop-place-test.true c.in-Err.ensures.err)

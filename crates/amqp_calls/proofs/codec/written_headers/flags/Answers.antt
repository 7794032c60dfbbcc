use Rattle.std.proofs.Common.{◌<◌, arith}
use Rattle.amqp_calls.proofs.WrittenHeaders.{flags_next}
use Rattle.amqp_calls.proofs.codec.written_headers.flags.Goals as goal

pub loop-place-preserved : goal.loop-place-preserved
loop-place-preserved c =
    let some : 0 < c.loop-place.place = omega (arith, c.loop-place-test.true) in
    rw (c.bit_of-flags.ensures) (flags_next c.args.values.now c.loop-place.place c.loop-place.flags c.loop-place.bit _ c.requires some c.loop-place.invariant)

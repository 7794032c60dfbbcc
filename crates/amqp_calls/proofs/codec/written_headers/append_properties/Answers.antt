use Rattle.std.proofs.Common.{◌<◌, length, arith}
use Rattle.amqp_calls.proofs.WrittenHeaders.{all_kinds, appended_next, kinds_next, not_header}
use Rattle.amqp_calls.proofs.codec.written_headers.append_properties.Goals as goal

pub returns-in-Err-clause-err : goal.returns-in-Err-clause-err
returns-in-Err-clause-err c =
    let here : c.loop-place.place < length c.args.values.now = omega (arith, c.loop-place-test.true, c.requires) in
    rw (c.at.ensures) (not_header c.args.values.now c.loop-place.place _ c.kind_of.result c.in-Err.fault here c.kind_of.ensures c.in-Err.ensures.err)

pub loop-place-preserved : goal.loop-place-preserved
loop-place-preserved c =
    let here : c.loop-place.place < length c.args.values.now = omega (arith, c.loop-place-test.true, c.requires) in (
      omega (arith, c.loop-place-test.true),
      appended_next c.args.values.now c.loop-place.place _ c.args.out.now.items c.loop-place.out.items c.append_property.new.out.items here c.loop-place.invariant.1 c.in_default.ensures.ok,
      kinds_next c.args.values.now c.loop-place.place _ c.kind_of.result here (omega (arith, c.loop-place-test.true)) c.kind_of.ensures c.loop-place.invariant.2 c.in_default.ensures.kind,
    )

pub returns-clause-kinds : goal.returns-clause-kinds
returns-clause-kinds c =
    all_kinds c.args.values.now c.loop-place.place c.requires (omega (arith, c.loop-place.invariant.0, c.loop-place-test.false)) c.loop-place.invariant.2

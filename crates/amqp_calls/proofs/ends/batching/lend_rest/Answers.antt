use Rattle.std.proofs.Common.{Some, None, Ok, Err, refl, subst, ap}
use Rattle.amqp_core.specs.Stream.View.{given_in}
use Rattle.amqp_calls.specs.LentBatches.{LendsFrames, LendsRest}
use Rattle.amqp_calls.proofs.ends.batching.lend_rest.Goals as goal

pub returns-in-Ok-None : goal.returns-in-Ok-None
returns-in-Ok-None g c =
    let n = c.lend_frames.new in
    let frames = subst (λ end. LendsFrames end c.args.piece.now c.args.places.now (Ok None) n.fed.taken n.count n.places n.end) c.deref_mut.ensures.value
    (subst (λ step. LendsFrames c.deref_mut.result.now c.args.piece.now c.args.places.now (Ok step) n.fed.taken n.count n.places n.end) c.in-Ok-None.field-0-is c.in-Ok-None.ensures) in
    let lends : LendsRest c.args.kept.now.end.value c.args.piece.now c.args.places.now (Ok None) n.fed.taken n.count n.places n.end = record { frames = frames; lent = tt } in (
      (refl, λ _. tt, record { lends = lends; gathering = refl }),
      record { answers = record { new = n.end; lends = lends }; after = tt },
    )

pub returns-in-Ok-Some : goal.returns-in-Ok-Some
returns-in-Ok-Some g c =
    let n = c.lend_frames.new in
    let step = c.in-Ok-Some.step in
    let frames = subst (λ end. LendsFrames end c.args.piece.now c.args.places.now (Ok (Some step)) n.fed.taken n.count n.places n.end) c.deref_mut.ensures.value
    (subst (λ s. LendsFrames c.deref_mut.result.now c.args.piece.now c.args.places.now (Ok s) n.fed.taken n.count n.places n.end) c.in-Ok-Some.field-0-is c.in-Ok-Some.ensures) in
    let lends : LendsRest c.args.kept.now.end.value c.args.piece.now c.args.places.now (Ok (Some (record { end = c.deref.result; step = step }))) n.fed.taken n.count n.places n.end =
    record { frames = frames; lent = ap given_in c.deref.ensures } in (
      (refl, λ _. tt, record { lends = lends; gathering = refl }),
      record { answers = record { new = n.end; lends = lends }; after = tt },
    )

pub returns-in-Err : goal.returns-in-Err
returns-in-Err g c =
    let n = c.lend_frames.new in
    let frames = subst (λ end. LendsFrames end c.args.piece.now c.args.places.now (Err c.in-Err.fault) n.fed.taken n.count n.places n.end) c.deref_mut.ensures.value c.in-Err.ensures in
    let lends : LendsRest c.args.kept.now.end.value c.args.piece.now c.args.places.now (Err c.in-Err.fault) n.fed.taken n.count n.places n.end = record { frames = frames; lent = tt } in (
      (refl, λ _. tt, record { lends = lends; gathering = refl }),
      record { answers = record { new = n.end; lends = lends }; after = tt },
    )

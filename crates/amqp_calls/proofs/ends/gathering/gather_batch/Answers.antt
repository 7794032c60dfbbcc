use Rattle.std.proofs.Common.{[], Some, None, Ok, Err, refl, sym, subst, ap, ◌∙◌}
use Rattle.std.specs.Box.{with_value}
use Rattle.amqp_handle.specs.declared.gathering.Gathering.{Gathering}
use Rattle.amqp_calls.specs.GatheredBatches.{lost, GathersBatch, GathersFrames}
use Rattle.amqp_calls.proofs.GatheredPlaces.{batch_apart, batch_fails, batch_over}
use Rattle.amqp_calls.proofs.KeptBatches.{gathers_kept, rest_of}
use Rattle.amqp_calls.proofs.ends.gathering.gather_batch.Goals as goal

pub returns-then-deref : goal.returns-then-deref
returns-then-deref g c =
    let kept = c.args.kept.now in
    let piece = c.args.piece.now in
    let places = c.args.places.now in
    let before = c.in-Some.gathering in
    let status = c.finish.result.status in
    let final = c.finish.new.places in
    let fed = record c.args.fed.now { taken = 0 } in
    let new = record kept { gathering = Some before } in
    let batch : GathersBatch kept.end.value before.value piece places status fed 0 final kept.end.value before.value =
    record {
      left = kept.end.value;
      kept = before.value;
      rest = piece;
      feds = [];
      last = [];
      each = (refl, refl, refl);
      stops = lost c.finish.ensures.status (ap (λ (k : Gathering). k.is_lost) (sym c.deref.ensures) ∙ c.if-deref.true) refl refl refl refl refl;
      after_loss = λ _. (c.finish.ensures.status, refl);
      shows = tt;
      as_many = c.finish.ensures.whole.as_many;
      others = c.finish.ensures.whole.others;
    } in
    let leaves = gathers_kept kept before piece places status fed 0 final new before c.in-Some.is refl batch in
    ((refl, λ _. tt, leaves), record { answers = record { new = new; leaves = leaves }; after = tt })

pub returns-in-Ok-None : goal.returns-in-Ok-None
returns-in-Ok-None g c =
    let kept = c.args.kept.now in
    let piece = c.args.piece.now in
    let places = c.args.places.now in
    let before = c.in-Some.gathering in
    let old = kept.end.value in
    let n = c.gather_frames.new in
    let status = c.finish-in-Ok-None.result.status in
    let final = c.finish-in-Ok-None.new.places in
    let well = ap (λ (k : Gathering). k.is_lost) (sym c.deref.ensures) ∙ c.if-deref.false in
    let frames = subst (λ end. GathersFrames end before.value piece places (Ok None) n.fed n.count n.places n.end n.gathering) c.deref_mut.ensures.value
    (subst (λ gathering. GathersFrames c.deref_mut.result.now gathering piece places (Ok None) n.fed n.count n.places n.end n.gathering) c.deref_mut-2.ensures.value
    (subst (λ step. GathersFrames c.deref_mut.result.now c.deref_mut-2.result.now piece places (Ok step) n.fed n.count n.places n.end n.gathering) c.in-Ok-None.field-0-is c.in-Ok-None.ensures)) in
    let batch = subst (λ s. GathersBatch old before.value piece places s n.fed n.count final n.end n.gathering) (sym c.finish-in-Ok-None.ensures.status)
    (batch_over old before.value piece places n.fed n.count n.places final n.end n.gathering well frames c.finish-in-Ok-None.ensures.whole) in
    let after = with_value before n.gathering in
    let new = record kept { end = with_value kept.end n.end; gathering = Some after } in
    let leaves = gathers_kept kept before piece places status n.fed n.count final new after c.in-Some.is refl batch in
    ((refl, λ _. tt, leaves), record { answers = record { new = new; leaves = leaves }; after = tt })

pub returns-in-Ok-Some : goal.returns-in-Ok-Some
returns-in-Ok-Some g c =
    let kept = c.args.kept.now in
    let piece = c.args.piece.now in
    let places = c.args.places.now in
    let before = c.in-Some.gathering in
    let old = kept.end.value in
    let step = c.in-Ok-Some.step in
    let n = c.gather_frames.new in
    let status = c.gather_rest.result.status in
    let r = c.gather_rest.new in
    let new = c.gather_rest.follows.lender-at-none in
    let rest = c.gather_rest.follows.holds-at-none in
    let well = ap (λ (k : Gathering). k.is_lost) (sym c.deref.ensures) ∙ c.if-deref.false in
    let frames = subst (λ end. GathersFrames end before.value piece places (Ok (Some step)) n.fed n.count n.places n.end n.gathering) c.deref_mut.ensures.value
    (subst (λ gathering. GathersFrames c.deref_mut.result.now gathering piece places (Ok (Some step)) n.fed n.count n.places n.end n.gathering) c.deref_mut-2.ensures.value
    (subst (λ s. GathersFrames c.deref_mut.result.now c.deref_mut-2.result.now piece places (Ok s) n.fed n.count n.places n.end n.gathering) c.in-Ok-Some.field-0-is c.in-Ok-Some.ensures)) in
    let last = rest_of (record kept { end = with_value kept.end n.end; gathering = Some (with_value before n.gathering) }) (with_value before n.gathering) step n.fed.taken n.places n.count status
    r.count r.places new refl rest in
    let batch = batch_apart old before.value piece places step n.fed n.count n.places n.end n.gathering rest.after.value status r.count rest.filled r.places well frames last.0 last.1
    rest.completes in
    let left = subst (λ end. GathersBatch old before.value piece places status n.fed r.count r.places end rest.after.value) (sym (ap (λ k. k.end.value) rest.left)) batch in
    let leaves = gathers_kept kept before piece places status n.fed r.count r.places new rest.after c.in-Some.is (ap (λ k. k.gathering) rest.left) left in
    ((refl, λ _. tt, leaves), record { answers = record { new = new; leaves = leaves }; after = tt })

pub returns-in-Err : goal.returns-in-Err
returns-in-Err g c =
    let kept = c.args.kept.now in
    let piece = c.args.piece.now in
    let places = c.args.places.now in
    let before = c.in-Some.gathering in
    let old = kept.end.value in
    let fault = c.in-Err.status in
    let n = c.gather_frames.new in
    let status = c.finish-in-Err.result.status in
    let final = c.finish-in-Err.new.places in
    let well = ap (λ (k : Gathering). k.is_lost) (sym c.deref.ensures) ∙ c.if-deref.false in
    let frames = subst (λ end. GathersFrames end before.value piece places (Err fault) n.fed n.count n.places n.end n.gathering) c.deref_mut.ensures.value
    (subst (λ gathering. GathersFrames c.deref_mut.result.now gathering piece places (Err fault) n.fed n.count n.places n.end n.gathering) c.deref_mut-2.ensures.value c.in-Err.ensures) in
    let batch = subst (λ s. GathersBatch old before.value piece places s n.fed n.count final n.end n.gathering) (sym c.finish-in-Err.ensures.status)
    (batch_fails old before.value piece places fault n.fed n.count n.places final n.end n.gathering well frames c.finish-in-Err.ensures.whole) in
    let after = with_value before n.gathering in
    let new = record kept { end = with_value kept.end n.end; gathering = Some after } in
    let leaves = gathers_kept kept before piece places status n.fed n.count final new after c.in-Some.is refl batch in
    ((refl, λ _. tt, leaves), record { answers = record { new = new; leaves = leaves }; after = tt })

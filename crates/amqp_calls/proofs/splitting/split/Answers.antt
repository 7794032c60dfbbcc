use Rattle.std.proofs.Common.{◌≡◌, ◌≤◌, ◌-◌, [], ◌⊎◌, Some, length, drop, inl, inr, refl, ap, ◌∙◌, arith, rules, tests}
use Rattle.std.proofs.lemmas.List.{length-drop, nil_from_length, take_rest}
use Rattle.amqp_calls.specs.SplitPieces.Ends.{given, waits as waited, faults}
use Rattle.amqp_calls.proofs.SplitFrames.{fault_shown, gives_frame, one_place_more, waits}
use Rattle.amqp_calls.proofs.splitting.split.Goals.{then-loop-count-test+else-not-is_empty, else-loop-count-test}
use Rattle.amqp_calls.proofs.splitting.split.Goals as goal

pub loop-count-preserved : goal.loop-count-preserved
loop-count-preserved c =
    let rest = c.loop-count.rest.now in
    let told = c.fed_frame.ensures in
    let inv = c.loop-count.invariant in
    let taken = c.in-Ok.advanced.taken in
    let step = gives_frame c.loop-count.splitter rest c.in-Ok.advanced c.in-Piece.frame _ c.fed_frame.result c.in-Ok.ensures (c.in-Some.is ∙ ap Some c.in-Piece.is) told.0 told.1 in
    let less : length (drop taken rest) ≤ length c.args.piece.now = omega (arith, length-drop taken rest, c.loop-count.invariant.0) in (
      rw (take_rest rest taken) less,
      step.2,
      inv.2,
      rw (take_rest rest taken) (one_place_more c.args.splitter.now c.args.piece.now c.args.frames.now c.loop-count.frames c.loop-count.count c.loop-count.splitter _ rest
          taken c.fed_frame.result inv.3 c.loop-count-test.true step.0 step.1 told.0),
    )

pub returns-in_default : goal.returns-in_default
returns-in_default c =
    let inv = c.loop-count.invariant in
    let shown = waits c.loop-count.splitter c.loop-count.rest.now c.in-Ok.advanced c.advance.new.self c.in-Ok.ensures c.in_default.is in
    record {
      left = c.loop-count.splitter;
      rest = c.loop-count.rest.now;
      gives = inv.3.gives;
      room = length c.loop-count.frames - c.loop-count.count;
      places_are = omega (arith, c.loop-count.invariant.3.within, c.loop-count.invariant.3.as_many);
      others = inv.3.others;
      ends = waited refl shown.0 refl shown.1;
      not_cut = inv.2;
    }

pub returns-in-Err : goal.returns-in-Err
returns-in-Err c =
    let inv = c.loop-count.invariant in
    let shown = fault_shown c.loop-count.splitter c.loop-count.rest.now c.in-Err.fault _ c.fault_status.result
    (record { taken = length c.args.piece.now - length c.loop-count.rest.now; count = c.loop-count.count; at = c.in-Err.fault.at; cut = c.loop-count.out.cut })
    c.in-Err.ensures refl c.fault_status.ensures.1 in
    record {
      left = c.loop-count.splitter;
      rest = c.loop-count.rest.now;
      gives = inv.3.gives;
      room = length c.loop-count.frames - c.loop-count.count;
      places_are = omega (arith, inv.3.within, inv.3.as_many);
      others = inv.3.others;
      ends = faults c.fault_status.ensures.0 shown.0 (omega (arith, inv.0)) shown.1;
      not_cut = inv.2;
    }

pub returns : goal.returns
returns c =
    let inv = c.loop-count.invariant in
    let none : (c.loop-count.rest.now ≡ []) ⊎ (length c.loop-count.frames - c.loop-count.count ≡ 0) =
    elim c.loop-count-test.branch [
      | then-loop-count-test+else-not-is_empty w ↦ inl (nil_from_length _ (search (rules, tests, w.is_empty.ensures, w.if-not-is_empty.false)))
      | else-loop-count-test w ↦ inr (omega (arith, w.loop-count-test.false))
    ] in
    record {
      left = c.loop-count.splitter;
      rest = c.loop-count.rest.now;
      gives = inv.3.gives;
      room = length c.loop-count.frames - c.loop-count.count;
      places_are = omega (arith, inv.3.within, inv.3.as_many);
      others = inv.3.others;
      ends = given refl none (omega (arith, inv.0)) refl;
      not_cut = inv.2;
    }

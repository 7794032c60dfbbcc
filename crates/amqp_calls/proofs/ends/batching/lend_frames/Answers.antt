use Rattle.std.proofs.Common.{◌≡◌, ◌+◌, ◌≤◌, ◌-◌, [], ◌⊎◌, length, drop, inl, inr, refl, sym, ap, ◌∙◌, arith, rules, tests}
use Rattle.std.proofs.lemmas.List.{length-drop, nil_from_length, take_rest}
use Rattle.amqp_core.specs.Stream.View.{given_in}
use Rattle.amqp_calls.proofs.LentPlaces.{lends_at, one_filled}
use Rattle.amqp_calls.proofs.ends.batching.lend_frames.Goals.{then-loop-shown-test+else-not-is_empty, else-loop-shown-test}
use Rattle.amqp_calls.proofs.ends.batching.lend_frames.Goals as goal

pub loop-shown-preserved : goal.loop-shown-preserved
loop-shown-preserved g c =
    let rest = c.loop-shown.rest.now in
    let inv = c.loop-shown.invariant in
    let step = c.in-Ok.step in
    let left = drop step.octets rest in
    let all = length c.args.piece.now in
    let new = c.advance.new.self in
    let less : length left ≤ all = omega (arith, length-drop step.octets rest, inv.0) in
    let taken_is : c.show_in.new.place.taken + length left ≡ all = omega (arith, c.show_in.ensures.1 ∙ ap (λ n. all - length n) (take_rest rest step.octets), less) in
    let at = lends_at all c.loop-shown.end rest step c.in-Some.event c.show_in.new.place new c.in-Ok.ensures.lends
    (c.in-Some.ensures.alone (given_in new) ∙ sym c.in-Some.ensures.event) c.show_in.ensures.0 taken_is in (
      rw (take_rest rest step.octets) less,
      rw (take_rest rest step.octets) (one_filled all c.args.end.now c.args.piece.now c.args.places.now c.loop-shown.places c.loop-shown.shown c.loop-shown.end rest
          c.show_in.new.place new left inv.1 c.loop-shown-test.true at),
    )

pub returns-in-None : goal.returns-in-None
returns-in-None g c =
    let rest = c.loop-shown.rest.now in
    let inv = c.loop-shown.invariant in
    let step = c.in-Ok.step in
    let left = drop step.octets rest in
    let less : length left ≤ length c.args.piece.now = omega (arith, length-drop step.octets rest, inv.0) in
    record {
      left = c.loop-shown.end;
      rest = rest;
      each = inv.1.each;
      as_many = inv.1.as_many;
      others = inv.1.others;
      stops = (
        omega (arith, c.loop-shown-test.true, inv.1.as_many),
        c.in-Ok.ensures.lends,
        sym c.in-None.ensures.event,
        rw (take_rest rest step.octets) (omega (arith, less)),
      );
    }

pub returns-in-Err : goal.returns-in-Err
returns-in-Err g c =
    let inv = c.loop-shown.invariant in
    record {
      left = c.loop-shown.end;
      rest = c.loop-shown.rest.now;
      each = inv.1.each;
      as_many = inv.1.as_many;
      others = inv.1.others;
      stops = (c.in-Err.ensures.lends, omega (arith, inv.0));
    }

pub returns : goal.returns
returns g c =
    let inv = c.loop-shown.invariant in
    let none : (c.loop-shown.rest.now ≡ []) ⊎ (c.loop-shown.shown ≡ length c.args.places.now) =
    elim c.loop-shown-test.branch [
      | then-loop-shown-test+else-not-is_empty w ↦ inl (nil_from_length _ (search (rules, tests, w.is_empty.ensures, w.if-not-is_empty.false)))
      | else-loop-shown-test w ↦ inr (omega (arith, w.loop-shown-test.false, inv.1.within, inv.1.as_many))
    ] in
    record {
      left = c.loop-shown.end;
      rest = c.loop-shown.rest.now;
      each = inv.1.each;
      as_many = inv.1.as_many;
      others = inv.1.others;
      stops = (none, omega (arith, inv.0), refl);
    }

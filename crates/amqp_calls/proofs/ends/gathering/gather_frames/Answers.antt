use Rattle.std.proofs.Common.{rules, tests, ◌≡◌, ◌≤◌, ◌-◌, [], length, take, drop, Some, Ok, inl, inr, refl, sym, subst, ◌∙◌, arith}
use Rattle.std.proofs.lemmas.List.{length-drop, nil_from_length, take_rest}
use Rattle.amqp_core.specs.Stream.EventRefView.{event_ref_view}
use Rattle.amqp_core.specs.Stream.Lends.{Lends}
use Rattle.amqp_core.specs.Stream.StepView.{came_lent}
use Rattle.amqp_core.specs.Stream.View.{given_in}
use Rattle.amqp_calls.proofs.GatheredPlaces.{one_more_is_one, one_placed, placed_after, placed_with}
use Rattle.amqp_calls.proofs.ends.gathering.gather_frames.Goals as goal

pub returns-in_default : goal.returns-in_default
returns-in_default g c =
    let rest = c.loop-count.rest.now in
    let inv = c.loop-count.invariant in
    let step = c.in-Ok.step in
    let less : length (drop step.octets rest) ≤ length c.args.piece.now = omega (arith, length-drop step.octets rest, inv.0) in
    record {
      left = c.loop-count.end;
      kept = c.loop-count.gathering;
      rest = rest;
      feds = inv.1;
      placed = inv.2;
      stops = (
        omega (arith, c.loop-count-test.true, inv.2.as_many),
        c.in-Ok.ensures.lends,
        sym c.in_default.ensures.event,
        rw (take_rest rest step.octets) (omega (arith, less)),
        refl,
      );
    }

pub returns-in_default-gather_event : goal.returns-in_default-gather_event
returns-in_default-gather_event g c =
    let rest = c.loop-count.rest.now in
    let inv = c.loop-count.invariant in
    let step = c.in-Ok.step in
    let new = c.gather_event.new in
    let less : length (drop step.octets rest) ≤ length c.args.piece.now = omega (arith, length-drop step.octets rest, inv.0) in
    record {
      left = c.loop-count.end;
      kept = c.loop-count.gathering;
      rest = rest;
      feds = inv.1;
      placed =
          placed_after (length c.args.piece.now) c.args.end.now c.args.gathering.now c.args.piece.now c.args.places.now inv.1 c.loop-count.end c.loop-count.gathering rest
          c.loop-count.count c.loop-count.places new.gathering new.count new.places inv.2 c.in_default-gather_event.ensures.stays c.in_default-gather_event.ensures.step;
      stops = inr (
        record { octets = step.octets; event = came_lent step.came (given_in c.advance.new.self) },
        c.in-Ok.ensures.lends,
        refl,
        c.in_default-gather_event.ensures.step.lost,
        rw (take_rest rest step.octets) (omega (arith, less)),
      );
    }

pub returns-then-is_empty : goal.returns-then-is_empty
returns-then-is_empty g c =
    let rest = c.loop-count.rest.now in
    let inv = c.loop-count.invariant in
    let step = c.in-Ok.step in
    let end = c.advance.new.self in
    let new = c.gather_event.new in
    let left = drop step.octets rest in
    let less : length left ≤ length c.args.piece.now = omega (arith, length-drop step.octets rest, inv.0) in
    let event_is = c.in-Some.ensures.alone (given_in end) ∙ sym c.in-Some.ensures.event in
    let lends = subst (λ event. Lends c.loop-count.end rest (Ok (record { octets = step.octets; event = event })) end) event_is c.in-Ok.ensures.lends in
    let placed = one_placed (length c.args.piece.now) c.args.end.now c.args.gathering.now c.args.piece.now c.args.places.now inv.1 c.loop-count.end c.loop-count.gathering rest
    c.loop-count.count c.loop-count.places (Some (event_ref_view c.in-Some.event)) step.octets _ end new.gathering new.count new.places inv.2
    (omega (arith, c.loop-count-test.true, inv.2.as_many)) lends c.in-Ok-gather_event.ensures.step c.in-Ok-gather_event.ensures.stays
    (rw (take_rest rest step.octets) (omega (arith, less))) in
    let none : left ≡ [] = rw (take_rest rest step.octets) at (nil_from_length (take (length rest - step.octets) left) (search (rules, tests, c.is_empty.ensures, c.if-is_empty.true))) in
    record {
      left = end;
      kept = new.gathering;
      rest = left;
      feds = _;
      placed = placed;
      stops = (inl (none, one_more_is_one inv.1 _), rw (take_rest rest step.octets) (omega (arith, less)), refl, refl);
    }

pub loop-count-preserved : goal.loop-count-preserved
loop-count-preserved g c =
    let rest = c.loop-count.rest.now in
    let inv = c.loop-count.invariant in
    let step = c.in-Ok.step in
    let end = c.advance.new.self in
    let new = c.gather_event.new in
    let left = drop step.octets rest in
    let less : length left ≤ length c.args.piece.now = omega (arith, length-drop step.octets rest, inv.0) in
    let event_is = c.in-Some.ensures.alone (given_in end) ∙ sym c.in-Some.ensures.event in
    let lends = subst (λ event. Lends c.loop-count.end rest (Ok (record { octets = step.octets; event = event })) end) event_is c.in-Ok.ensures.lends in
    let placed = one_placed (length c.args.piece.now) c.args.end.now c.args.gathering.now c.args.piece.now c.args.places.now inv.1 c.loop-count.end c.loop-count.gathering rest
    c.loop-count.count c.loop-count.places (Some (event_ref_view c.in-Some.event)) step.octets _ end new.gathering new.count new.places inv.2
    (omega (arith, c.loop-count-test.true, inv.2.as_many)) lends c.in-Ok-gather_event.ensures.step c.in-Ok-gather_event.ensures.stays
    (rw (take_rest rest step.octets) (omega (arith, less))) in
    (rw (take_rest rest step.octets) (omega (arith, less)), _, placed_with (sym (take_rest rest step.octets)) placed)

pub returns-in-Err : goal.returns-in-Err
returns-in-Err g c =
    let inv = c.loop-count.invariant in
    record {
      left = c.loop-count.end;
      kept = c.loop-count.gathering;
      rest = c.loop-count.rest.now;
      feds = inv.1;
      placed = inv.2;
      stops = inl (
        c.in-Err.fault,
        c.in-Err.ensures.lends,
        c.tell_fault.ensures.status,
        c.tell_fault.ensures.code,
        omega (arith, c.tell_fault.ensures.taken, inv.0),
        refl,
      );
    }

pub returns : goal.returns
returns g c =
    let inv = c.loop-count.invariant in
    record {
      left = c.loop-count.end;
      kept = c.loop-count.gathering;
      rest = c.loop-count.rest.now;
      feds = inv.1;
      placed = inv.2;
      stops = (inr (omega (arith, c.loop-count-test.false, inv.2.within, inv.2.as_many)), inv.0, refl, refl);
    }

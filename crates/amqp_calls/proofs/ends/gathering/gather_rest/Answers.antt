use Rattle.std.proofs.Common.{◌≡◌, refl, subst, ap, ◌∙◌}
use Rattle.std.specs.Box.{with_value}
use Rattle.amqp_core.specs.Stream.EventRefView.{event_ref_there}
use Rattle.amqp_core.specs.Stream.StepView.{came_lent}
use Rattle.amqp_core.specs.Stream.View.{given_in}
use Rattle.amqp_handle.specs.Gathered.{StaysBefore}
use Rattle.amqp_handle.specs.declared.gathering.Gathering.{Gathering}
use Rattle.amqp_calls.specs.GatheredBatches.{CompletesEach, GathersLast}
use Rattle.amqp_calls.proofs.ends.gathering.gather_rest.Goals as goal

pub returns : goal.returns
returns g c =
    let before = c.in-Some.gathering in
    let step = c.args.step in
    let taken = c.args.taken in
    let places = c.args.places.now in
    let shown = c.args.count.now in
    let l = c.gather_last-status.new in
    let status = c.gather_last-status.result in
    let gathering_is : c.deref_mut.result.now ≡ before.value = rw c.in-Some.is at c.deref_mut.ensures.value in
    let event_is = c.event.ensures ∙ ap (λ end. came_lent step.came (given_in end)) c.deref-end.ensures in
    let last = subst (λ event. GathersLast before.value event taken places shown status l.gathering l.places l.count) event_is
    (subst (λ gathering. GathersLast gathering (event_ref_there c.event.result) taken places shown status l.gathering l.places l.count) gathering_is c.gather_last-status.ensures.last) in
    let stays = subst (λ (gathering : Gathering). StaysBefore shown gathering.places.items l.gathering.places.items) gathering_is c.gather_last-status.ensures.stays in
    let parts_are = c.deref.ensures.value ∙ ap (λ (k : Gathering). k.places.items) c.deref-gathering.ensures in
    let completes = subst (λ parts. CompletesEach parts l.count l.places c.complete_each.new.places) parts_are c.complete_each.ensures in (
      (
        refl,
        λ _. tt,
        record {
          before = before;
          held = c.in-Some.is;
          after = with_value before l.gathering;
          left = rw c.in-Some.is refl;
          filled = l.places;
          last = last;
          stays = stays;
          completes = completes;
        },
      ),
      record { after = tt },
    )

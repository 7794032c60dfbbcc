use Rattle.std.proofs.Common.{Ok, Err, refl, sym, subst}
use Rattle.amqp_core.specs.Stream.Lends.{Lends}
use Rattle.amqp_core.specs.Stream.StepView.{step_seen}
use Rattle.amqp_core.specs.Stream.View.{given_in}
use Rattle.amqp_calls.proofs.ends.lending.lend.Goals as goal

pub returns-in-Ok : goal.returns-in-Ok
returns-in-Ok g c =
    let piece = c.args.piece.now in
    let step = c.in-Ok.step in
    let new = c.advance.new.self in
    let old = c.args.kept.now.end.value in
    let lent = subst (λ end. Lends end piece (step_seen (Ok step) (given_in new)) new) c.deref_mut.ensures.value c.in-Ok.ensures.lends in
    let lends = subst (λ end. Lends old piece (step_seen (Ok step) (given_in end)) new) (sym c.deref.ensures) lent in (
      (refl, λ _. tt, record { lends = lends; gathering = refl }),
      record {
        answers = record { new = new; lends = lends };
        after = tt;
      },
    )

pub returns-in-Err : goal.returns-in-Err
returns-in-Err g c =
    let new = c.advance.new.self in
    let lends = subst (λ end. Lends end c.args.piece.now (Err c.in-Err.fault) new) c.deref_mut.ensures.value c.in-Err.ensures.lends in (
      (refl, λ _. tt, record { lends = lends; gathering = refl }),
      record { answers = record { new = new; lends = lends }; after = tt },
    )

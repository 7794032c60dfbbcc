use Rattle.std.proofs.Common.{◌≡◌, Some, None, refl, subst}
use Rattle.amqp_core.specs.Faults.Blamed.{blame_view}
use Rattle.amqp_core.specs.Stream.View.{counters_of}
use Rattle.amqp_calls.specs.Blaming.ToldBlame.{blamed, faultless}
use Rattle.amqp_calls.proofs.ends.blaming.tell_blame.Goals as goal

pub returns-in-Some : goal.returns-in-Some
returns-in-Some g c =
    let blame = c.in-Some.blame.now in
    blamed blame (subst (λ end. (counters_of end).tally.blame ≡ Some (blame_view blame)) c.deref-end.ensures c.in-Some.ensures) refl
    c.told.ensures

pub returns-in-None : goal.returns-in-None
returns-in-None g c = faultless (subst (λ end. (counters_of end).tally.blame ≡ None) c.deref-end.ensures c.in-None.ensures) refl

use Rattle.std.proofs.Common.{refl, subst}
use Rattle.amqp_core.specs.Stream.Controls.{StreamControlled}
use Rattle.amqp_calls.specs.Decisions.{decision_view}
use Rattle.amqp_calls.proofs.ends.controlling.decide.Goals as goal

pub returns : goal.returns
returns g c =
    record {
      answer = c.control.result;
      controlled = subst (λ end. StreamControlled end (decision_view c.args.decision.now) c.control.result c.control.new.end) c.deref_mut.ensures.value
          c.control.ensures;
      told = c.asked.ensures;
      gathering = refl;
    }

use Rattle.std.proofs.Common.{refl, subst}
use Rattle.amqp_core.specs.Stream.Asks.{StreamAsked}
use Rattle.amqp_calls.specs.Closing.{close_view}
use Rattle.amqp_calls.proofs.ends.closing.close_kept.Goals as goal

pub returns : goal.returns
returns g c =
    record {
      answer = c.put.result;
      asked = subst (λ end. StreamAsked end (close_view c.args.close.now) c.put.result c.put.new.end) c.deref_mut.ensures.value c.put.ensures;
      told = c.asked.ensures;
      gathering = refl;
    }

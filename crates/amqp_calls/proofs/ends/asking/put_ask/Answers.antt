use Rattle.std.proofs.Common.{refl, sym, subst}
use Rattle.amqp_core.specs.Asks.View.{ask_view}
use Rattle.amqp_core.specs.Stream.Asks.{StreamAnswersNumber, StreamAsked}
use Rattle.amqp_calls.specs.EndAsks.{ToldAsked}
use Rattle.amqp_calls.proofs.ends.asking.put_ask.Goals as goal

pub returns-in-Ok : goal.returns-in-Ok
returns-in-Ok g c =
    let ask = ask_view c.args.ask.now in
    record {
      answer = c.ask.result;
      asked = subst (λ end. StreamAsked end ask c.ask.result c.ask.new.self) c.deref_mut.ensures.value c.ask.ensures.asked;
      number = subst (λ end. StreamAnswersNumber end ask c.ask.result) c.deref_mut.ensures.value c.ask.ensures.number;
      told = subst (λ answer. ToldAsked answer 0 c.unwrap_or.result) (sym c.in-Ok.is) (refl, c.unwrap_or.ensures);
      gathering = refl;
    }

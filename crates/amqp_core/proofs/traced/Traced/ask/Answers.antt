-- What holds of the ask that is lent holds of the ask.
use Rattle.std.proofs.Common.{subst}
use Rattle.amqp_model.specs.End.Asks.{Ask}
use Rattle.amqp_core.specs.Traced.Asks.{AskedTrace, TraceAnswersNumber}
use Rattle.amqp_core.proofs.traced.Traced.ask.Goals as goal

pub returns-clause-asked : goal.returns-clause-asked
returns-clause-asked g c =
    subst (λ (ask : Ask). AskedTrace c.args.self.now ask c.ask_lent.result c.ask_lent.new.self) c.lent.ensures c.ask_lent.ensures.asked

pub returns-clause-number : goal.returns-clause-number
returns-clause-number g c =
    subst (λ (ask : Ask). TraceAnswersNumber c.args.self.now ask c.ask_lent.result) c.lent.ensures c.ask_lent.ensures.number

-- What is asked is what is lent.
use Rattle.std.proofs.Common.{subst}
use Rattle.amqp_model.specs.End.Asks.{Ask}
use Rattle.amqp_core.specs.Stream.Asks.{StreamAnswersNumber, StreamAsked}
use Rattle.amqp_core.proofs.stream.StreamEnd.ask.Goals as goal

pub returns-clause-asked : goal.returns-clause-asked
returns-clause-asked g c = subst (λ (asked : Ask). StreamAsked c.args.self.now asked c.put_ask.result c.put_ask.new.self) c.lent.ensures c.put_ask.ensures.asked

pub returns-clause-number : goal.returns-clause-number
returns-clause-number g c = subst (λ (asked : Ask). StreamAnswersNumber c.args.self.now asked c.put_ask.result) c.lent.ensures c.put_ask.ensures.number

-- What holds of the ask that is lent holds of the ask.
use Rattle.std.proofs.Common.{subst}
use Rattle.amqp_model.specs.End.Asks.{Ask}
use Rattle.amqp_core.specs.End.Asks.{Asked}
use Rattle.amqp_core.proofs.end.End.ask.Goals as goal

pub returns-clause-asked : goal.returns-clause-asked
returns-clause-asked g c =
    subst (λ (asked : Ask). Asked c.args.self.now asked c.ask_lent.result c.ask_lent.new.self) c.lent.ensures c.ask_lent.ensures.asked

-- The tally counts another number.
use Rattle.std.proofs.Common.{arith}
use Rattle.amqp_text.proofs.TallyLemmas.{counts-others}
use Rattle.amqp_text.proofs.tally.Tally.is_of.Goals as goal

pub returns-else-self-from : goal.returns-else-self-from
returns-else-self-from c =
    λ events heard. counts-others c.args.self.now c.args.count c.from.result events c.from.ensures (omega arith) c.if-self-from.false heard

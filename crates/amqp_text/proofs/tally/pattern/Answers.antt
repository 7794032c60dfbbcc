use Rattle.std.proofs.Common.{arith}
use Rattle.std.proofs.lemmas.Grind.{common_steps}
use Rattle.amqp_text.proofs.TallyLemmas.{body-more}
use Rattle.amqp_text.proofs.tally.pattern.Goals as goal

pub loop-place-preserved : goal.loop-place-preserved
loop-place-preserved c = grind (arith, common_steps, body-more c.loop-place.place, c.loop-place.invariant, c.in_ok-push.ensures.items)

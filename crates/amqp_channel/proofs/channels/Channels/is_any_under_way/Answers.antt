use Rattle.std.proofs.Common.{arith}
use Rattle.amqp_channel.proofs.UnderWayLemmas.{idle_channels, idle_none_lent, one_more_idle}
use Rattle.amqp_channel.proofs.channels.Channels.is_any_under_way.Goals as goal

pub returns-then-is_under_way_at-clause-some : goal.returns-then-is_under_way_at-clause-some
returns-then-is_under_way_at-clause-some c = λ same idle. c.is_under_way_at.ensures.busy c.if-is_under_way_at.true idle

pub loop-place-preserved : goal.loop-place-preserved
loop-place-preserved c =
    one_more_idle c.args.self.now.used c.loop-place.place c.loop-place.invariant (c.is_under_way_at.ensures.idle c.if-is_under_way_at.false)

pub returns-clause-none : goal.returns-clause-none
returns-clause-none c =
    λ same. idle_channels c.args.self.now.used (λ at below. c.loop-place.invariant at (omega arith))

pub returns-clause-gathers : goal.returns-clause-gathers
returns-clause-gathers c =
    λ same. idle_none_lent c.args.self.now.used
    (idle_channels c.args.self.now.used (λ at below. c.loop-place.invariant at (omega arith)))

use Rattle.std.proofs.Common.{ℕ, ◌<◌}
use Rattle.amqp_channel.specs.Channels.Used.{IsIdleAt}
use Rattle.amqp_channel.proofs.channels.Channels.is_any_under_way.Given as goal

abbrev pub invariant-loop-place : goal.invariant-loop-place
invariant-loop-place l = (at : ℕ) → at < l.place → IsIdleAt l.self.used at

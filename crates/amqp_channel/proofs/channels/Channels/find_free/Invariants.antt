use Rattle.amqp_channel.specs.Channels.Used.{NoneFreeBelow}
use Rattle.amqp_channel.proofs.channels.Channels.find_free.Given as goal

abbrev pub invariant-loop-number : goal.invariant-loop-number
invariant-loop-number l = NoneFreeBelow l.self.used l.number

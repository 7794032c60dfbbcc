use Rattle.amqp_channel.proofs.FreeLemmas.{takes_out}
use Rattle.amqp_channel.proofs.channels.remove.Goals as goal

pub returns : goal.returns
returns c = takes_out c.args.used.now c.swap_remove.new.self c.give_back.new.used c.args.number c.swap_remove.ensures.updates c.give_back.ensures

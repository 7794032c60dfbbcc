use Rattle.amqp_channel.proofs.LentLemmas.{came_fits}
use Rattle.amqp_channel.proofs.channel.Channel.advance.Goals as goal

pub came_with-requires : goal.came_with-requires
came_with-requires c =
    let lent = c.in-LentBody-Continued-Body in
    came_fits lent.kind-0 lent.size lent.came lent.octets.now (rw (lent.is-0, lent.is-1, lent.is-2) at c.requires)

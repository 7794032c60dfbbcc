use Rattle.std.proofs.Common.{sym, ◌∙◌}
use Rattle.amqp_method.specs.MethodRefView.{lent_call}
use Rattle.amqp_core.proofs.HeartbeatLemmas.{heartbeat_there}
use Rattle.amqp_core.proofs.connection.handshake.heartbeat_in.Goals as goal

pub unreachable-requires : goal.unreachable-requires
unreachable-requires c =
    heartbeat_there (lent_call c.args.method) c.requires c.args-args.ensures.fit (sym c.short_at.ensures.found ∙ c.in-None.is)

-- What holds of the end holds of its endpoint.
use Rattle.amqp_core.specs.End.View.{config_at, endpoint_of, role_played}
use Rattle.amqp_core.proofs.KeptLemmas.{kept_sound}
use Rattle.amqp_core.proofs.QueryLemmas.{pending_is}
use Rattle.amqp_core.proofs.end.End.pending.Goals as goal

pub pending-requires : goal.pending-requires
pending-requires g c = kept_sound c.args.self.now.inner c.args.self.now.kept

pub returns-clause-history : goal.returns-clause-history
returns-clause-history g c = λ history fed written stands.
    let end = c.args.self.now in
    pending_is (role_played end) (config_at end) (endpoint_of end) history fed written c.pending.result stands c.pending.ensures.count

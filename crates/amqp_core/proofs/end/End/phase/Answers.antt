-- The phase is the one that every history counts.
use Rattle.amqp_core.specs.End.View.{config_at, endpoint_of, role_played}
use Rattle.amqp_core.proofs.QueryLemmas.{phase_is}
use Rattle.std.proofs.Common.{false}
use Rattle.amqp_core.proofs.end.End.phase.Goals as goal

pub returns-clause-history : goal.returns-clause-history
returns-clause-history g c = λ history fed written stands.
    let end = c.args.self.now in
    phase_is (role_played end) (config_at end) false (endpoint_of end).end history c.phase.result stands.stands c.phase.ensures

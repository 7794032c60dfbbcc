-- The phase is the one that every history counts.
use Rattle.std.proofs.Common.{false, sym, ap, ◌∙◌}
use Rattle.amqp_core.specs.Connection.Stages.{phase_name}
use Rattle.amqp_core.specs.Stream.View.{config_at, role_played}
use Rattle.amqp_core.proofs.QueryLemmas.{phase_is}
use Rattle.amqp_core.proofs.stream.StreamEnd.phase.Goals as goal

pub returns-clause-history : goal.returns-clause-history
returns-clause-history g c = λ history fed written s.
    let end = c.args.self.now in
    phase_is (role_played end) (config_at end) false s.gathers.end history c.phase.result s.stands.stands (c.phase.ensures ∙ ap phase_name (sym s.alike.end.phase))

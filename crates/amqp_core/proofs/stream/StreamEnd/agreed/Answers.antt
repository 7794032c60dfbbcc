-- What was agreed is what every history counts.
use Rattle.std.proofs.Common.{false, sym, ◌∙◌}
use Rattle.amqp_channel.specs.Events.EventView.{agreed_there}
use Rattle.amqp_core.specs.Stream.View.{config_at, role_played}
use Rattle.amqp_core.proofs.QueryLemmas.{agreed_is}
use Rattle.amqp_core.proofs.stream.StreamEnd.agreed.Goals as goal

pub returns-clause-history : goal.returns-clause-history
returns-clause-history g c = λ history fed written s.
    let end = c.args.self.now in
    agreed_is (role_played end) (config_at end) false s.gathers.end history (agreed_there c.agreed.result) s.stands.stands (c.agreed.ensures ∙ sym s.alike.end.agreed)

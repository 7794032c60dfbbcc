-- The order is that of every history whose output it is.
use Rattle.amqp_core.specs.End.View.{config_at, endpoint_of, role_played}
use Rattle.amqp_core.proofs.OutputLemmas.{output_in_order}
use Rattle.amqp_core.proofs.end.End.output.Goals as goal

pub returns-clause-order : goal.returns-clause-order
returns-clause-order g c =
    let end = c.args.self.now in
    let role = role_played end in
    let config = config_at end in
    output_in_order role config (endpoint_of end).output c.output_follows.ensures.rules (c.closes_are_put_last.ensures.frames role config)
    (λ failed history opening written. c.closes_are_put_last.ensures.octets role config failed history opening written (endpoint_of end).output)
    (c.owed_read_back.ensures.all role config) end.kept.writes

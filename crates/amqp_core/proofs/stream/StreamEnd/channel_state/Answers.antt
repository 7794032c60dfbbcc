-- The state of a channel is the one that every history counts.
use Rattle.std.proofs.Common.{false, sym, ◌∙◌}
use Rattle.amqp_channel.specs.Events.EventView.{state_view}
use Rattle.amqp_core.specs.Stream.View.{config_at, endpoint_of, role_played}
use Rattle.amqp_core.proofs.QueryLemmas.{state_is}
use Rattle.amqp_core.proofs.stream.StreamEnd.channel_state.Goals as goal

pub returns-clause-history : goal.returns-clause-history
returns-clause-history g c = λ history fed written s.
    let end = c.args.self.now in
    let role = role_played end in
    let config = config_at end in
    state_is role config false s.gathers.end history c.args.channel (state_view c.channel_state.result)
    (c.answers_are_of_history.ensures role config false s.gathers.end history c.args.channel) (c.states_are_of_notes.ensures.open role config s.gathers.end history)
    s.stands.stands (c.channel_state.ensures ∙ sym (c.alike_ends_ask_alike.ensures.queries s.gathers.end (endpoint_of end).end c.args.channel s.alike.end).state)

-- The state of a channel is the one that its history counts.
use Rattle.amqp_channel.specs.Events.EventView.{state_view}
use Rattle.amqp_core.specs.End.Counted.{is_failed}
use Rattle.amqp_core.specs.Traced.View.{config_at, role_played, traced_of}
use Rattle.amqp_core.proofs.QueryLemmas.{standing, state_is}
use Rattle.amqp_core.proofs.traced.Traced.channel_state.Goals as goal

pub returns-clause-history : goal.returns-clause-history
returns-clause-history g c =
    let self = c.args.self.now in
    let role = role_played self in
    let config = config_at self in
    let kept = traced_of self in
    let failed = is_failed kept.endpoint.end.phase in
    record {
      one = self.traces;
      each = λ history traced. state_is role config failed kept.endpoint.end history c.args.channel (state_view c.channel_state.result)
          (c.answers_are_of_history.ensures role config failed kept.endpoint.end history c.args.channel) (c.states_are_of_notes.ensures.open role config kept.endpoint.end history)
          (standing role config kept history traced.stands).stands c.channel_state.ensures.state;
    }

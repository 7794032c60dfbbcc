-- What callers see of the messages that wait, and of them beside the end that is to send them.
use Rattle.std.specs.Prelude.{List, map}
use Rattle.amqp_method.specs.MessageView.{message_view}
use Rattle.amqp_model.specs.End.Events.{Message}
use Rattle.amqp_channel.specs.Events.EventView.{message_of}
use Rattle.amqp_core.specs.End.View.{endpoint_of, settings_at}
use Rattle.amqp_core.specs.declared.end.End.{End}
use Rattle.amqp_core.specs.declared.roles.Role.{Ghosts}
use Rattle.amqp_turns.specs.Sends.{Standing}
use Rattle.amqp_turns.specs.declared.turns.Turns.{Turns}

-- the messages that wait, the oldest first
abbrev pub waiting_in : Turns → List Message
waiting_in turns = map (λ message. message_of (message_view message)) turns.waiting.items

abbrev pub standing : {R H : Type 0} {G : Ghosts R H} → Turns → End R H G → Standing
standing turns end =
    record {
      settings = settings_at end;
      channel = turns.channel;
      waiting = waiting_in turns;
      endpoint = endpoint_of end;
    }

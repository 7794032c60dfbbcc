-- The asks that wait on a channel, and they beside the end that is to take them.
use Rattle.std.specs.Prelude.{List, map}
use Rattle.amqp_model.specs.End.Asks.{Ask}
use Rattle.amqp_core.specs.Stream.View.{endpoint_of, settings_at}
use Rattle.amqp_core.specs.declared.roles.Role.{Ghosts}
use Rattle.amqp_core.specs.declared.stream.StreamEnd.{StreamEnd}
use Rattle.example_proxy.specs.Advancing.{Standing}
use Rattle.example_loop.specs.AskingView.{asking_view}
use Rattle.example_proxy.specs.declared.asking.Channel.{Channel}

-- the asks that wait, the oldest first
abbrev pub waiting_in : Channel → List Ask
waiting_in channel = map asking_view channel.waiting.items

abbrev pub standing : {R H : Type 0} {G : Ghosts R H} → Channel → StreamEnd R H G → Standing
standing channel end =
    record { settings = settings_at end; waiting = waiting_in channel; endpoint = endpoint_of end }

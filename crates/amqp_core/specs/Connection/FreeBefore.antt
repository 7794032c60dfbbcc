-- Until the handshake is over no channel is in use.
use Rattle.std.specs.Prelude.{◌≡◌, true, ℕ}
use Rattle.amqp_model.specs.End.Asks.{is_free}
use Rattle.amqp_channel.specs.Channels.ChannelsView.{channels_view}
use Rattle.amqp_channel.specs.declared.channels.Channels.{Channels}
use Rattle.amqp_core.specs.Connection.Handshakes.{is_in_handshake}
use Rattle.amqp_core.specs.Connection.Stages.{phase_at}
use Rattle.amqp_core.specs.declared.stage.Stage.{Stage}

abbrev pub FreeBefore : Stage → Channels → Type 0
FreeBefore stage channels =
    is_in_handshake (phase_at stage) ≡ true → (number : ℕ) → is_free (channels_view channels number) ≡ true

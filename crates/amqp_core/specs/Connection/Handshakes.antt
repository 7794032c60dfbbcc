-- What a stage of the handshake awaits, in the words of the model.
use Rattle.std.specs.Prelude.{Bool, true, false, ◌&&◌, nat_lt, nat_le, ℕ}
use Rattle.amqp_method.specs.declared.kinds.Kind.TheVariants as kinds
use Rattle.amqp_model.specs.End.Channels.{Phase, Handshake, HandshakeStep, AwaitsStart, AwaitsStartOk, AwaitsTune}
use Rattle.amqp_model.specs.End.Channels.{AwaitsTuneOk, AwaitsOpen, AwaitsOpenOk}
use Rattle.amqp_model.specs.Wire.Notes.{Role, Client, Server}
use Rattle.amqp_model.specs.End.FrameVerdict.{is_awaited}
use Rattle.amqp_model.specs.Wire.Methods.{MethodKind}
use Rattle.amqp_model.specs.History.Negotiation.{FRAME_MIN}
use Rattle.amqp_core.specs.Connection.Stages.{phase_at}
use Rattle.amqp_core.specs.declared.stage.Stage.{Stage}

abbrev pub awaited_in : Phase → MethodKind → Bool
awaited_in (Handshake step) kind = is_awaited step kind
awaited_in phase kind = false

abbrev pub awaits_at : Stage → MethodKind → Bool
awaits_at stage kind = awaited_in (phase_at stage) kind

-- a tune or a tune-ok, the third argument of which is a heartbeat
abbrev pub SaysHeartbeat : MethodKind → Type 0
SaysHeartbeat kinds.ConnectionTune = Unit {0}
SaysHeartbeat kinds.ConnectionTuneOk = Unit {0}
SaysHeartbeat kind = ⊥

abbrev pub is_in_handshake : Phase → Bool
is_in_handshake (Handshake step) = true
is_in_handshake phase = false

-- what a server takes of a tune-ok: some channel and no more than its own, and a frame of 4096 octets up to its own
abbrev pub within : (channel_most frame_most channel_max frame_max : ℕ) → Bool
within channel_most frame_most channel_max frame_max =
    nat_lt 0 channel_max && nat_le channel_max channel_most && nat_le FRAME_MIN frame_max && nat_le frame_max frame_most

-- the role takes the method that the step awaits
abbrev pub answers_at : Role → HandshakeStep → Bool
answers_at Client AwaitsStart = true
answers_at Client AwaitsTune = true
answers_at Client AwaitsOpenOk = true
answers_at Server AwaitsStartOk = true
answers_at Server AwaitsTuneOk = true
answers_at Server AwaitsOpen = true
answers_at role step = false

abbrev pub answered_in : Role → Phase → Bool
answered_in role (Handshake step) = answers_at role step
answered_in role phase = false

-- Where a connection stands, in the words of the model.
use Rattle.std.specs.Prelude.{Bool, true, false, Option, Some, None}
use Rattle.amqp_model.specs.End.Channels as model
use Rattle.amqp_channel.specs.Events.EventView.{agreed_view, agreed_there}
use Rattle.amqp_core.specs.declared.stage.Phase.{Phase}
use Rattle.amqp_core.specs.declared.stage.Phase.TheVariants as name
use Rattle.amqp_core.specs.declared.stage.Stage.{Stage}
use Rattle.amqp_core.specs.declared.stage.Stage.TheVariants as code

abbrev pub phase_at : Stage → model.Phase
phase_at code.AwaitsProtocolHeader = model.Handshake model.AwaitsProtocolHeader
phase_at code.AwaitsStart = model.Handshake model.AwaitsStart
phase_at code.HoldsStart = model.Handshake model.HoldsStart
phase_at code.AwaitsStartOk = model.Handshake model.AwaitsStartOk
phase_at code.HoldsLogin = model.Handshake model.HoldsLogin
phase_at code.AwaitsTune = model.Handshake model.AwaitsTune
phase_at code.AwaitsTuneOk = model.Handshake model.AwaitsTuneOk
phase_at (code.AwaitsOpen agreed) = model.Handshake model.AwaitsOpen
phase_at (code.HoldsOpen agreed) = model.Handshake model.HoldsOpen
phase_at (code.AwaitsOpenOk agreed) = model.Handshake model.AwaitsOpenOk
phase_at (code.Running agreed) = model.Running
phase_at (code.Closing agreed) = model.Phase.Closing
phase_at (code.Closed agreed) = model.Closed
phase_at (code.Failed agreed) = model.Failed

abbrev pub agreed_at : Stage → Option model.Agreed
agreed_at (code.AwaitsOpen agreed) = Some (agreed_view agreed)
agreed_at (code.HoldsOpen agreed) = Some (agreed_view agreed)
agreed_at (code.AwaitsOpenOk agreed) = Some (agreed_view agreed)
agreed_at (code.Running agreed) = Some (agreed_view agreed)
agreed_at (code.Closing agreed) = agreed_there agreed
agreed_at (code.Closed agreed) = agreed_there agreed
agreed_at (code.Failed agreed) = agreed_there agreed
agreed_at stage = None

-- the phase as an application is told of it
abbrev pub phase_name : model.Phase → Phase
phase_name (model.Handshake step) = name.Handshake
phase_name model.Running = name.Running
phase_name model.Phase.Closing = name.Closing
phase_name model.Closed = name.Closed
phase_name model.Failed = name.Failed

-- the end has put connection.close, and goes on
abbrev pub leaves : model.Phase → Bool
leaves model.Phase.Closing = true
leaves phase = false

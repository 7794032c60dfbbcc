-- What an application is told, in the words of the model: a message, an event, the state of a channel.
-- Read before: `Closes`, and the model's `End.Events`.
use Rattle.std.specs.Prelude.{ℕ, List, Option, Some, None}
use Rattle.amqp_method.specs.MessageView.{message_view}
use Rattle.amqp_method.specs.Messages.{Letter}
use Rattle.amqp_model.specs.End.Channels as channels
use Rattle.amqp_model.specs.End.Events as model
use Rattle.amqp_model.specs.End.Events.{Message, Plain, Whole}
use Rattle.amqp_model.specs.History.States.{State}
use Rattle.amqp_model.specs.Wire.Methods.{Method, Properties}
use Rattle.amqp_channel.specs.Events.Closes.{reason_view}
use Rattle.amqp_channel.specs.declared.events.Agreed.{Agreed}
use Rattle.amqp_channel.specs.declared.events.Event.{Event}
use Rattle.amqp_channel.specs.declared.events.Event.TheVariants.{AnswerAsked, LoginAsked, OpenAsked, Negotiated, Opened, Told, Flow, FlowOk, ChannelClosed, ConnectionClosed, Discarded, Blocked, Unblocked, Quiet}
use Rattle.amqp_channel.specs.declared.events.Reason.{Reason}
use Rattle.amqp_channel.specs.declared.states.ChannelState.{ChannelState}
use Rattle.amqp_channel.specs.declared.states.ChannelState.TheVariants as state

-- a method alone, or with its properties and its body
abbrev pub message_by : Method → Option Properties → List ℕ → Message
message_by method None body = Plain method
message_by method (Some properties) body = Whole (record { method = method; properties = properties; body = body })

-- a letter is a method alone, or a whole content
abbrev pub message_of : Letter → Message
message_of letter = message_by letter.call letter.properties letter.body

-- what was agreed, and whether anything was
abbrev pub agreed_view : Agreed → channels.Agreed
agreed_view agreed =
    record { channel_max = agreed.channel_max; frame_max = agreed.frame_max; heartbeat = agreed.heartbeat }

abbrev pub agreed_there : Option Agreed → Option channels.Agreed
agreed_there None = None
agreed_there (Some agreed) = Some (agreed_view agreed)

-- a reason, if there is one
abbrev pub reason_there : Option Reason → Option model.Reason
reason_there None = None
reason_there (Some reason) = Some (reason_view reason)

-- an event of the code
abbrev pub event_view : Event → model.Event
event_view AnswerAsked = model.AnswerAsked
event_view LoginAsked = model.LoginAsked
event_view OpenAsked = model.OpenAsked
event_view (Negotiated agreed) = model.Negotiated (agreed_view agreed)
event_view (Opened channel) = model.Opened channel
event_view (Told channel message) = model.Told channel (message_of (message_view message))
event_view (Flow channel active) = model.Flow channel active
event_view (FlowOk channel active) = model.FlowOk channel active
event_view (ChannelClosed channel reason) = model.ChannelClosed channel (reason_there reason)
event_view (ConnectionClosed reason) = model.ConnectionClosed (reason_there reason)
event_view (Discarded channel) = model.Discarded channel
event_view (Blocked reason) = model.Blocked reason
event_view Unblocked = model.Unblocked
event_view Quiet = model.Quiet

-- an event, if there is one
abbrev pub event_there : Option Event → Option model.Event
event_there None = None
event_there (Some event) = Some (event_view event)

-- the state of a channel
abbrev pub state_view : ChannelState → State
state_view state.Free = State.Free
state_view state.Opening = State.Opening
state_view state.Open = State.Open
state_view state.Closing = State.Closing

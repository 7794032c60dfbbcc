-- The text of an event: a line, and two more for the header and the body of a content. It is this project's own, and no
-- section says it. Read before: the texts of messages (`Texts` of `amqp_method`).
use Rattle.std.specs.Prelude.{ℕ, List, ◌++◌, Bool, Option, Some, None, codes}
use Rattle.std.specs.Fmt.{decimal}
use Rattle.amqp_value.specs.Text.{quoted}
use Rattle.amqp_method.specs.MessageView.{message_view}
use Rattle.amqp_method.specs.Texts.{bit_text, text_of_message}
use Rattle.amqp_channel.specs.declared.events.Event.{Event}
use Rattle.amqp_channel.specs.declared.events.Event.TheVariants.{AnswerAsked, LoginAsked, OpenAsked, Negotiated, Opened, Told, Flow, FlowOk, ChannelClosed, ConnectionClosed, Discarded, Blocked, Unblocked, Quiet}
use Rattle.amqp_channel.specs.declared.events.Reason.{Reason}
use Rattle.amqp_channel.specs.declared.side.Side.{Side}
use Rattle.amqp_channel.specs.declared.side.Side.TheVariants.{Client, Server}
use Rattle.amqp_channel.specs.declared.states.ChannelState.{ChannelState}
use Rattle.amqp_channel.specs.declared.states.ChannelState.TheVariants as state

-- a word and a channel
abbrev pub channel_text : (word : List ℕ) → (channel : ℕ) → List ℕ
channel_text word channel = word ++ (codes " " ++ decimal channel)

-- with 1 where contents are wanted, and 0 where they are not
abbrev pub flow_text : (word : List ℕ) → (channel : ℕ) → (active : Bool) → List ℕ
flow_text word channel active = channel_text word channel ++ (codes " " ++ bit_text active)

-- the code and the quoted text of a close
abbrev pub reason_text : Reason → List ℕ
reason_text reason = decimal reason.code ++ (codes " " ++ quoted reason.text)

-- the other end's reason, or that this end closed
abbrev pub closer_text : Option Reason → List ℕ
closer_text None = codes "by-us"
closer_text (Some reason) = reason_text reason

-- the line of an event
abbrev pub event_text : Event → List ℕ
event_text AnswerAsked = codes "answer-asked"
event_text LoginAsked = codes "login-asked"
event_text OpenAsked = codes "open-asked"
event_text (Negotiated agreed) =
    codes "negotiated " ++ (decimal agreed.channel_max ++ (codes " " ++ decimal agreed.frame_max))
event_text (Opened channel) = channel_text (codes "opened") channel
event_text (Told channel message) =
    channel_text (codes "told") channel ++ (codes " " ++ text_of_message (message_view message))
event_text (Flow channel active) = flow_text (codes "flow") channel active
event_text (FlowOk channel active) = flow_text (codes "flow-ok") channel active
event_text (ChannelClosed channel reason) =
    channel_text (codes "channel-closed") channel ++ (codes " " ++ closer_text reason)
event_text (ConnectionClosed reason) = codes "connection-closed " ++ closer_text reason
event_text (Discarded channel) = channel_text (codes "discarded") channel
event_text (Blocked reason) = codes "blocked " ++ quoted reason
event_text Unblocked = codes "unblocked"
event_text Quiet = codes "quiet"

-- a side in one word
abbrev pub side_text : Side → List ℕ
side_text Client = codes "client"
side_text Server = codes "server"

-- the state of a channel in one word
abbrev pub state_text : ChannelState → List ℕ
state_text state.Free = codes "free"
state_text state.Opening = codes "opening"
state_text state.Open = codes "open"
state_text state.Closing = codes "closing"

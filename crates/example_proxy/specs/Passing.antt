-- What an event of one side asks of the other, where the event's channel has another number.
use Rattle.std.specs.Prelude.{ℕ, Option, Some, None, codes}
use Rattle.amqp_model.specs.End.Asks.{Ask, Send, Flow, CloseChannel, Close, Blocked, Unblocked}
use Rattle.amqp_model.specs.End.Closes.{no_cause}
use Rattle.amqp_model.specs.End.Events as events
use Rattle.amqp_model.specs.End.Events.{Plain, Whole}
use Rattle.amqp_model.specs.Lent.Alike.{LentEvent, WithoutContent, Begins, Heads, Part, Other}
use Rattle.amqp_model.specs.Wire.Contents.{Content}
use Rattle.amqp_model.specs.Wire.Methods.{Method, MethodKind}
use Rattle.example_loop.specs.Gathering.{begun, left, whole_of, with_part, with_properties}
use Rattle.example_loop.specs.AskingView.{cause_by}

-- a content that is whole is sent on the partner
abbrev pub sent : (partner : ℕ) → Option Content → Option Ask
sent partner (Some content) = Some (Send partner (Whole content))
sent partner None = None

-- the content that is coming on a channel, after an event of the channel
abbrev pub after : Option Content → LentEvent → Option Content
after content (Begins number method) = begun method
after content (Heads number size properties whole) = left whole (with_properties properties content)
after content (Part number octets whole) = left whole (with_part octets content)
after content event = content

abbrev pub method_alone : (partner : ℕ) → Method → Option Ask
method_alone partner method = Some (Send partner (Plain method))

-- What an event asks: a method is sent, a content once it is whole; a flow is asked for. A channel or connection that
-- the other end closed is closed with its code and its text, for the method that its close is about. A channel on which
-- a content was refused is closed too.
abbrev pub asked : (partner : ℕ) (about : Option MethodKind) → Option Content → LentEvent → Option Ask
asked partner about content (WithoutContent number method) = method_alone partner method
asked partner about content (Heads number size properties whole) =
    sent partner (whole_of whole (with_properties properties content))
asked partner about content (Part number octets whole) = sent partner (whole_of whole (with_part octets content))
asked partner about content (Other (events.Flow number active)) = Some (Flow partner active)
asked partner about content (Other (events.ChannelClosed number (Some reason))) =
    Some (CloseChannel partner reason.code reason.text (cause_by about))
asked partner about content (Other (events.Discarded number)) = Some
    (CloseChannel partner 311 (codes "CONTENT_TOO_LARGE") no_cause)
asked partner about content (Other (events.ConnectionClosed (Some reason))) =
    Some (Close reason.code reason.text (cause_by about))
asked partner about content (Other (events.Blocked reason)) = Some (Blocked reason)
asked partner about content (Other events.Unblocked) = Some Unblocked
asked partner about content event = None

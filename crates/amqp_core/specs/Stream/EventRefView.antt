-- The events that lend, in the words of the model, and what a step tells: the event that it makes of what a frame says.
use Rattle.std.specs.Prelude.{Bool, true, false, cond, ◌||◌, ℕ, Option, Some, None}
use Rattle.amqp_method.specs.HeaderRefView.{lent_header}
use Rattle.amqp_method.specs.MethodRefView.{lent_call}
use Rattle.amqp_method.specs.declared.kinds.Kind.TheVariants as kinds
use Rattle.amqp_model.specs.End.Events as events
use Rattle.amqp_model.specs.End.Events.{reason_in}
use Rattle.amqp_model.specs.Lent.Alike.{LentEvent, WithoutContent, Begins, Heads, Part, Other, part_lent}
use Rattle.amqp_model.specs.Wire.Methods.{Method, octets_at, same_kind}
use Rattle.amqp_model.specs.Wire.Readings.{Reading, Calls}
use Rattle.amqp_channel.specs.Events.EventView.{agreed_view}
use Rattle.amqp_channel.specs.declared.verdict.Told.{Told}
use Rattle.amqp_channel.specs.declared.verdict.Told.TheVariants as told
use Rattle.amqp_core.specs.declared.event_ref.EventRef.{EventRef}
use Rattle.amqp_core.specs.declared.event_ref.EventRef.TheVariants as code
use Rattle.amqp_core.specs.declared.event_ref.ReasonRef.{ReasonRef}
use Rattle.amqp_core.specs.declared.step.Report.{Report}
use Rattle.amqp_core.specs.declared.step.Report.TheVariants as report
use Rattle.amqp_core.specs.declared.verdict.Notice.{Notice}
use Rattle.amqp_core.specs.declared.verdict.Notice.TheVariants as notice

abbrev pub reason_ref_view : ReasonRef → events.Reason
reason_ref_view reason = record { code = reason.code; text = reason.text.now }

-- the reason of a close, if it has one
abbrev pub reason_ref_there : Option ReasonRef → Option events.Reason
reason_ref_there None = None
reason_ref_there (Some reason) = Some (reason_ref_view reason)

abbrev pub event_ref_view : EventRef → LentEvent
event_ref_view code.AnswerAsked = Other events.AnswerAsked
event_ref_view code.LoginAsked = Other events.LoginAsked
event_ref_view code.OpenAsked = Other events.OpenAsked
event_ref_view (code.Negotiated agreed) = Other (events.Negotiated (agreed_view agreed))
event_ref_view (code.Opened channel) = Other (events.Opened channel)
event_ref_view (code.Method channel method) = WithoutContent channel (lent_call method)
event_ref_view (code.Begins channel method) = Begins channel (lent_call method)
event_ref_view (code.Heads channel header whole) =
    Heads channel (lent_header header).body_size (lent_header header).properties whole
event_ref_view (code.Part channel octets whole) = Part channel octets.now whole
event_ref_view (code.Flow channel active) = Other (events.Flow channel active)
event_ref_view (code.FlowOk channel active) = Other (events.FlowOk channel active)
event_ref_view (code.ChannelClosed channel reason) = Other (events.ChannelClosed channel (reason_ref_there reason))
event_ref_view (code.ConnectionClosed reason) = Other (events.ConnectionClosed (reason_ref_there reason))
event_ref_view (code.Discarded channel) = Other (events.Discarded channel)
event_ref_view (code.Blocked reason) = Other (events.Blocked reason.now)
event_ref_view code.Unblocked = Other events.Unblocked
event_ref_view code.Quiet = Other events.Quiet

abbrev pub event_ref_there : Option EventRef → Option LentEvent
event_ref_there None = None
event_ref_there (Some event) = Some (event_ref_view event)

-- What is told of a frame.

abbrev pub is_close_kind : Method → Bool
is_close_kind method = same_kind method.kind kinds.ChannelClose || same_kind method.kind kinds.ConnectionClose

-- a method without content
abbrev pub method_lent : (number : ℕ) → Reading → Option LentEvent
method_lent number (Calls method) = Some (WithoutContent number method)
method_lent number reading = None

-- a close of the channel by the other end, and one of the connection
abbrev pub channel_close_lent : (number : ℕ) → Reading → Option LentEvent
channel_close_lent number (Calls method) =
    cond (is_close_kind method) (Some (Other (events.ChannelClosed number (Some (reason_in method))))) None
channel_close_lent number reading = None

abbrev pub close_lent : Reading → Option LentEvent
close_lent (Calls method) =
    cond (is_close_kind method) (Some (Other (events.ConnectionClosed (Some (reason_in method))))) None
close_lent reading = None

abbrev pub blocked_lent : Reading → Option LentEvent
blocked_lent (Calls method) =
    cond (same_kind method.kind kinds.ConnectionBlocked) (Some (Other (events.Blocked (octets_at 0 method)))) None
blocked_lent reading = None

-- what is told of a frame of a channel that says this
abbrev pub channel_lent : (number : ℕ) → Reading → Told → Option LentEvent
channel_lent number reading told.Method = method_lent number reading
channel_lent number reading told.Begun = part_lent number reading false
channel_lent number reading told.Headed = part_lent number reading false
channel_lent number reading told.Continued = part_lent number reading false
channel_lent number reading told.Completed = part_lent number reading true
channel_lent number reading told.Opened = Some (Other (events.Opened number))
channel_lent number reading (told.Flow active) = Some (Other (events.Flow number active))
channel_lent number reading (told.FlowOk active) = Some (Other (events.FlowOk number active))
channel_lent number reading told.ClosedByPeer = channel_close_lent number reading
channel_lent number reading told.ClosedByUs = Some (Other (events.ChannelClosed number None))
channel_lent number reading told.Discarded = Some (Other (events.Discarded number))
channel_lent number reading told.Quiet = Some (Other events.Quiet)

-- what is told of the connection
abbrev pub notice_lent : (number : ℕ) → Reading → Notice → Option LentEvent
notice_lent number reading notice.Quiet = Some (Other events.Quiet)
notice_lent number reading notice.Discarded = Some (Other (events.Discarded number))
notice_lent number reading notice.AnswerAsked = Some (Other events.AnswerAsked)
notice_lent number reading notice.LoginAsked = Some (Other events.LoginAsked)
notice_lent number reading notice.OpenAsked = Some (Other events.OpenAsked)
notice_lent number reading (notice.Negotiated agreed) = Some (Other (events.Negotiated (agreed_view agreed)))
notice_lent number reading notice.ClosedByPeer = close_lent reading
notice_lent number reading notice.ClosedByUs = Some (Other (events.ConnectionClosed None))
notice_lent number reading notice.Blocked = blocked_lent reading
notice_lent number reading notice.Unblocked = Some (Other events.Unblocked)

-- the event of a frame on this channel that says this
abbrev pub report_lent : (number : ℕ) → Reading → Report → Option LentEvent
report_lent number reading (report.OnChannel said) = channel_lent number reading said
report_lent number reading (report.OfConnection said) = notice_lent number reading said

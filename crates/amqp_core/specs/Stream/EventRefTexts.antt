-- The text of an event that lends: one line, with the words of the events that own. A part of a content has the word
-- `whole` at its end where the content is whole with it.
use Rattle.std.specs.Prelude.{ℕ, List, [], ◌++◌, Bool, true, false, Option, Some, None, codes}
use Rattle.std.specs.Fmt.{decimal}
use Rattle.amqp_value.specs.Text.{hexadecimal, quoted}
use Rattle.amqp_method.specs.HeaderRefView.{lent_header}
use Rattle.amqp_method.specs.MethodRefView.{lent_call}
use Rattle.amqp_method.specs.Texts.{text_of_header, text_of_method}
use Rattle.amqp_channel.specs.Events.EventTexts.{channel_text, flow_text}
use Rattle.amqp_core.specs.declared.event_ref.EventRef.{EventRef}
use Rattle.amqp_core.specs.declared.event_ref.EventRef.TheVariants as code
use Rattle.amqp_core.specs.declared.event_ref.ReasonRef.{ReasonRef}

abbrev pub whole_text : Bool → List ℕ
whole_text true = codes " whole"
whole_text false = []

-- the code and the quoted text of a close
abbrev pub lent_reason_text : ReasonRef → List ℕ
lent_reason_text reason = decimal reason.code ++ (codes " " ++ quoted reason.text.now)

-- the other end's reason, or that this end closed
abbrev pub lent_closer_text : Option ReasonRef → List ℕ
lent_closer_text None = codes "by-us"
lent_closer_text (Some reason) = lent_reason_text reason

abbrev pub event_ref_text : EventRef → List ℕ
event_ref_text code.AnswerAsked = codes "answer-asked"
event_ref_text code.LoginAsked = codes "login-asked"
event_ref_text code.OpenAsked = codes "open-asked"
event_ref_text (code.Negotiated agreed) =
    codes "negotiated " ++ (decimal agreed.channel_max ++ (codes " " ++ decimal agreed.frame_max))
event_ref_text (code.Opened channel) = channel_text (codes "opened") channel
event_ref_text (code.Method channel method) = channel_text (codes "told") channel ++ (codes " "
    ++ text_of_method (lent_call method))
event_ref_text (code.Begins channel method) =
    channel_text (codes "begins") channel ++ (codes " " ++ text_of_method (lent_call method))
event_ref_text (code.Heads channel header whole) =
    channel_text (codes "heads") channel ++ (codes " " ++ (text_of_header (lent_header header) ++ whole_text whole))
event_ref_text (code.Part channel octets whole) =
    channel_text (codes "part") channel ++ (codes " " ++ (hexadecimal octets.now ++ whole_text whole))
event_ref_text (code.Flow channel active) = flow_text (codes "flow") channel active
event_ref_text (code.FlowOk channel active) = flow_text (codes "flow-ok") channel active
event_ref_text (code.ChannelClosed channel reason) =
    channel_text (codes "channel-closed") channel ++ (codes " " ++ lent_closer_text reason)
event_ref_text (code.ConnectionClosed reason) = codes "connection-closed " ++ lent_closer_text reason
event_ref_text (code.Discarded channel) = channel_text (codes "discarded") channel
event_ref_text (code.Blocked reason) = codes "blocked " ++ quoted reason.now
event_ref_text code.Unblocked = codes "unblocked"
event_ref_text code.Quiet = codes "quiet"

-- The parts of an event, as the event that they make, in the words of the model. The code makes the event of them only
-- where it is answered. Read before: `EventView`.
use Rattle.std.specs.Prelude.{Option, Some, None}
use Rattle.amqp_method.specs.MethodView.{method_view}
use Rattle.amqp_model.specs.End.Events as model
use Rattle.amqp_model.specs.Wire.Methods.{Method}
use Rattle.amqp_channel.specs.Contents.ContentView.{content_view}
use Rattle.amqp_channel.specs.Events.EventView.{agreed_view, reason_there}
use Rattle.amqp_channel.specs.declared.parts.EventParts.{EventParts}
use Rattle.amqp_channel.specs.declared.parts.EventParts.TheVariants as parts
use Rattle.amqp_channel.specs.declared.parts.PlainMethod.{PlainMethod}

-- a method that no content follows
abbrev pub plain_view : PlainMethod → Method
plain_view plain = method_view plain.method

-- the event that the parts make
abbrev pub parts_view : EventParts → model.Event
parts_view parts.AnswerAsked = model.AnswerAsked
parts_view parts.LoginAsked = model.LoginAsked
parts_view parts.OpenAsked = model.OpenAsked
parts_view (parts.Negotiated agreed) = model.Negotiated (agreed_view agreed)
parts_view (parts.Opened channel) = model.Opened channel
parts_view (parts.Method channel plain) = model.Told channel (model.Plain (plain_view plain))
parts_view (parts.Content channel content) = model.Told channel (model.Whole (content_view content.value))
parts_view (parts.Flow channel active) = model.Flow channel active
parts_view (parts.FlowOk channel active) = model.FlowOk channel active
parts_view (parts.ChannelClosed reason channel) = model.ChannelClosed channel (reason_there reason)
parts_view (parts.ConnectionClosed reason) = model.ConnectionClosed (reason_there reason)
parts_view (parts.Discarded channel) = model.Discarded channel
parts_view (parts.Blocked reason) = model.Blocked reason
parts_view parts.Unblocked = model.Unblocked
parts_view parts.Quiet = model.Quiet

-- the event, if there is one
abbrev pub parts_there : Option EventParts → Option model.Event
parts_there None = None
parts_there (Some parts) = Some (parts_view parts)

-- The codes and the reasons of closes, in the words of the model: `amqp0-9-1.xml`, the constants, channel.close and
-- connection.close. Read before: the model's `End.Closes`.
use Rattle.amqp_method.specs.declared.kinds.Kind.TheVariants as kinds
use Rattle.amqp_model.specs.End.Closes as model
use Rattle.amqp_model.specs.End.Events as events
use Rattle.amqp_model.specs.Wire.Methods.{MethodKind}
use Rattle.amqp_channel.specs.declared.codes.CloseCode.{CloseCode}
use Rattle.amqp_channel.specs.declared.codes.CloseCode.TheVariants.{ContentTooLarge, FrameError, SyntaxError, CommandInvalid, ChannelError, UnexpectedFrame, ResourceError, NotImplemented}
use Rattle.amqp_channel.specs.declared.events.Reason.{Reason}

-- the code of a close
abbrev pub code_view : CloseCode → model.CloseCode
code_view ContentTooLarge = model.ContentTooLarge
code_view FrameError = model.FrameError
code_view SyntaxError = model.SyntaxError
code_view CommandInvalid = model.CommandInvalid
code_view ChannelError = model.ChannelError
code_view UnexpectedFrame = model.UnexpectedFrame
code_view ResourceError = model.ResourceError
code_view NotImplemented = model.NotImplemented

-- the code and the text of a close
abbrev pub reason_view : Reason → events.Reason
reason_view reason = record { code = reason.code; text = reason.text }

-- a close of a channel or of the connection
abbrev pub IsClose : MethodKind → Type 0
IsClose kinds.ChannelClose = Unit {0}
IsClose kinds.ConnectionClose = Unit {0}
IsClose kind = ⊥

-- The closes that an end puts of itself, and the replies to open, flow and close. `amqp0-9-1.xml`: the constants with
-- reply codes, connection.close and channel.close. Which fault earns which code is this profile's choice, and that
-- the class and the method are 0 in a close that an end puts for a fault.
use Rattle.std.specs.Prelude.{Bool, ℕ, List, [], ◌∷◌, codes, Option, Some}
use Rattle.amqp_frame.specs.declared.frames.FrameKind.{FrameKind}
use Rattle.amqp_method.specs.declared.kinds.Kind.TheVariants as kinds
use Rattle.amqp_model.specs.Wire.Frame.{Frame}
use Rattle.amqp_model.specs.Wire.Notes.{Kind, OpenOk, CloseOk, FlowOk}
use Rattle.amqp_method.specs.Arguments.{bit, short, short_string}
use Rattle.amqp_model.specs.Wire.Methods.{MethodKind, Method, ReadsBack, class_of, id_of, plain_method}

pub data CloseCode : Type 0 where
  ContentTooLarge FrameError SyntaxError CommandInvalid ChannelError UnexpectedFrame ResourceError : CloseCode
  NotImplemented : CloseCode

abbrev pub number_of : CloseCode → ℕ
number_of ContentTooLarge = 311
number_of FrameError = 501
number_of SyntaxError = 502
number_of CommandInvalid = 503
number_of ChannelError = 504
number_of UnexpectedFrame = 505
number_of ResourceError = 506
number_of NotImplemented = 540

abbrev pub text_of : CloseCode → List ℕ
text_of ContentTooLarge = codes "content-too-large"
text_of FrameError = codes "frame-error"
text_of SyntaxError = codes "syntax-error"
text_of CommandInvalid = codes "command-invalid"
text_of ChannelError = codes "channel-error"
text_of UnexpectedFrame = codes "unexpected-frame"
text_of ResourceError = codes "resource-error"
text_of NotImplemented = codes "not-implemented"

-- The class and the method that a close is about, both 0 where it is about none.
pub record Cause : Type 0 where
  pub class_id : ℕ
  pub method_id : ℕ

abbrev pub no_cause : Cause
no_cause = record { class_id = 0; method_id = 0 }

-- a method of this kind is the cause
abbrev pub cause_of : MethodKind → Cause
cause_of kind = record { class_id = class_of kind; method_id = id_of kind }

-- a close of the connection or of a channel with a code, a text and a cause
abbrev pub close_for : MethodKind → (code : ℕ) (text : List ℕ) → Cause → Method
close_for kind code text cause =
    record {
      kind = kind;
      args = short code ∷ short_string text ∷ short cause.class_id
          ∷ short cause.method_id ∷ [];
    }

-- a close that is about no method
abbrev pub close_as : MethodKind → (code : ℕ) (text : List ℕ) → Method
close_as kind code text = close_for kind code text no_cause

abbrev pub without_arguments : MethodKind → Method
without_arguments kind = record { kind = kind; args = [] }

abbrev pub flow_as : MethodKind → Bool → Method
flow_as kind active = record { kind = kind; args = bit active ∷ [] }

-- a method that is to be put on a channel
pub record Owed : Type 0 where
  pub channel : ℕ
  pub method : Method

-- what is written of these methods reads as they are
abbrev pub AllReadBack : List Owed → Type 0
AllReadBack [] = Unit {0}
AllReadBack (owed ∷ later) = ReadsBack owed.method × AllReadBack later

abbrev pub connection_close : CloseCode → Owed
connection_close code = record { channel = 0; method = close_as kinds.ConnectionClose (number_of code) (text_of code) }

abbrev pub connection_close_ok : Owed
connection_close_ok = record { channel = 0; method = without_arguments kinds.ConnectionCloseOk }

abbrev pub channel_close : ℕ → CloseCode → Owed
channel_close channel code =
    record { channel = channel; method = close_as kinds.ChannelClose (number_of code) (text_of code) }

-- the methods that answer open, close and flow
abbrev pub reply_to : Option Kind → List Method
reply_to (Some OpenOk) = without_arguments kinds.ChannelOpenOk ∷ []
reply_to (Some CloseOk) = without_arguments kinds.ChannelCloseOk ∷ []
reply_to (Some (FlowOk active)) = flow_as kinds.ChannelFlowOk active ∷ []
reply_to other = []

-- the frame of a method, plainly encoded
abbrev pub method_frame : (channel : ℕ) → Method → Frame
method_frame channel method = record { kind = FrameKind.Method; channel = channel; payload = plain_method method }

abbrev pub frame_of : Owed → Frame
frame_of owed = method_frame owed.channel owed.method

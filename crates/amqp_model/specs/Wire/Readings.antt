-- What a frame says, once its payload is read: AMQP 0-9-1 specification, section 4.2.
use Rattle.std.specs.Prelude.{Bool, true, false, ℕ, List, [], ◌∷◌, Option, Some, None}
use Rattle.amqp_frame.specs.declared.frames.FrameKind.{FrameKind}
use Rattle.amqp_frame.specs.declared.frames.FrameKind.TheVariants.{Method, Header, Body, Heartbeat}
use Rattle.amqp_method.specs.declared.kinds.Kind.TheVariants as kinds
use Rattle.amqp_model.specs.Wire.Frame.{Frame}
use Rattle.amqp_model.specs.Wire.Notes.{Kind, Open, OpenOk, Close, CloseOk, Flow, FlowOk, Other}
use Rattle.amqp_model.specs.Wire.Methods as methods
use Rattle.amqp_model.specs.Wire.Methods.{MethodKind, Properties, MethodRead, Reads, NoSuchMethod, DoesNotParse}
use Rattle.amqp_model.specs.Wire.Methods.{method_at, header_at, same_kind, bit_at}
use Rattle.amqp_model.specs.Wire.Contents.{Payload, Unread}

-- a method, one that there isn't, or one that doesn't parse; a content header with its body's size, or one that
-- doesn't parse; a part of a body; a heartbeat, which is to be empty
pub data Reading : Type 0 where
  Calls : methods.Method → Reading
  UnknownMethod MalformedMethod : Reading
  HeaderOf : (size : ℕ) → Properties → Reading
  MalformedHeader : Reading
  BodyOf : (octets : List ℕ) → Reading
  Beat : (empty : Bool) → Reading

abbrev pub method_reading : MethodRead → Reading
method_reading (Reads method) = Calls method
method_reading NoSuchMethod = UnknownMethod
method_reading DoesNotParse = MalformedMethod

abbrev pub header_reading : Option methods.Header → Reading
header_reading (Some header) = HeaderOf header.body_size header.properties
header_reading None = MalformedHeader

abbrev pub is_empty : List ℕ → Bool
is_empty [] = true
is_empty (octet ∷ later) = false

abbrev reading_by : FrameKind → List ℕ → Reading
reading_by Method payload = method_reading (method_at payload)
reading_by Header payload = header_reading (header_at payload)
reading_by Body payload = BodyOf payload
reading_by Heartbeat payload = Beat (is_empty payload)

abbrev pub reading : Frame → Reading
reading frame = reading_by frame.kind frame.payload

-- the frame calls this method
abbrev pub is_call : MethodKind → Reading → Bool
is_call kind (Calls method) = same_kind method.kind kind
is_call kind reading = false

-- what a method is to its channel
abbrev pub kind_of_method : MethodKind → (active : Bool) → Kind
kind_of_method kinds.ChannelOpen active = Open
kind_of_method kinds.ChannelOpenOk active = OpenOk
kind_of_method kinds.ChannelClose active = Close
kind_of_method kinds.ChannelCloseOk active = CloseOk
kind_of_method kinds.ChannelFlow active = Flow active
kind_of_method kinds.ChannelFlowOk active = FlowOk active
kind_of_method kinds.BasicPublish active = Other true
kind_of_method kinds.BasicReturn active = Other true
kind_of_method kinds.BasicDeliver active = Other true
kind_of_method kind active = Other false

-- what a frame is to its channel; what is not a method of the class channel is an other
abbrev pub kind_of : Reading → Kind
kind_of (Calls method) = kind_of_method method.kind (bit_at 0 method)
kind_of reading = Other false

-- what a frame is to the contents of its channel
abbrev pub payload_of : Reading → Payload
payload_of (Calls method) = Payload.Calls method
payload_of (HeaderOf size properties) = Payload.Header size properties
payload_of (BodyOf octets) = Payload.Body octets
payload_of reading = Unread

-- What an end reports of a frame that it takes, and how it goes on.
use Rattle.std.specs.Prelude.{Bool, ℕ, List, Option}
use Rattle.amqp_model.specs.Wire.Methods.{Method, number_at, octets_at}
use Rattle.amqp_model.specs.Wire.Contents.{Content}
use Rattle.amqp_model.specs.End.Channels.{Agreed}
use Rattle.amqp_model.specs.End.Closes.{CloseCode, Owed}

-- a method without content, or a whole content
pub data Message : Type 0 where
  Plain : Method → Message
  Whole : Content → Message

abbrev pub method_of : Message → Method
method_of (Plain method) = method
method_of (Whole content) = content.method

-- the code and the text of a close
pub record Reason : Type 0 where
  pub code : ℕ
  pub text : List ℕ

abbrev pub reason_in : Method → Reason
reason_in method = record { code = number_at 0 method; text = octets_at 1 method }

-- In the handshake an application that decides is told what it is asked: the answer to start, to a login, to an open.
pub data Event : Type 0 where
  AnswerAsked LoginAsked OpenAsked : Event
  Negotiated : Agreed → Event
  Opened : (channel : ℕ) → Event
  Told : (channel : ℕ) → Message → Event
  Flow FlowOk : (channel : ℕ) (active : Bool) → Event
  ChannelClosed : (channel : ℕ) → Option Reason → Event
  ConnectionClosed : Option Reason → Event
  Discarded : (channel : ℕ) → Event
  Blocked : (reason : List ℕ) → Event
  Unblocked Quiet : Event

-- the channel that an event is about, or 0 where it is about the connection
abbrev pub event_channel : Event → ℕ
event_channel (Opened channel) = channel
event_channel (Told channel message) = channel
event_channel (Flow channel active) = channel
event_channel (FlowOk channel active) = channel
event_channel (ChannelClosed channel reason) = channel
event_channel (Discarded channel) = channel
event_channel event = 0

-- the other end breaks the protocol, which closes the connection with a code; a type octet that there isn't, a wrong
-- end octet or a tune-ok out of range, to which there is no answer; another protocol header; and that the connection
-- was closed, or had failed, before
pub data Fault : Type 0 where
  Peer : CloseCode → Fault
  Fatal WrongProtocolHeader AlreadyClosed AlreadyFailed : Fault

-- the end goes on, with an event or none and the methods that it owes; it refuses a content at its header, which
-- costs the channel; or it finds fault
pub data FrameVerdict : Type 0 where
  Proceeds : Option Event → List Owed → FrameVerdict
  RefusesContent : FrameVerdict
  Faults : Fault → FrameVerdict

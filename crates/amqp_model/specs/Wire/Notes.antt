-- What one end of a connection writes down of one channel above 0: a note for each frame that it put or took there.
use Rattle.std.specs.Prelude.{Bool, true, false}
use Rattle.amqp_model.specs.Wire.Frame.{Frame}

-- the two ends of a connection. Only the client opens channels: AMQP 0-9-1 specification, section 2.2.5
pub data Role : Type 0 where
  Client Server : Role

abbrev pub other_end : Role → Role
other_end Client = Server
other_end Server = Client

abbrev pub is_client : Role → Bool
is_client Client = true
is_client Server = false

abbrev pub is_server : Role → Bool
is_server Client = false
is_server Server = true

-- What a frame is to its channel: one of the six methods of the class channel (`amqp0-9-1.xml`, class 20), flow and
-- flow-ok with their bit `active`, or any other frame. Of the others it matters only whether a frame is the method
-- frame of a content that a paused end may not begin: publish, return or deliver. A flow does not affect the
-- contents of get-ok (`amqp0-9-1.xml`, channel.flow).
pub data Kind : Type 0 where
  Open OpenOk Close CloseOk : Kind
  Flow FlowOk : (active : Bool) → Kind
  Other : (begins_content : Bool) → Kind

-- an end put or took a frame on the channel, or it put connection.close, which is noted on every channel
pub data Note : Type 0 where
  Put Took : Kind → Frame → Note
  Leaving : Note

-- the method frame of a content other than get-ok
abbrev pub is_content : Kind → Bool
is_content (Other begins_content) = begins_content
is_content _ = false

-- a frame that an application sends or is told of: all but those that open and close the channel
abbrev pub is_message : Kind → Bool
is_message (Flow active) = true
is_message (FlowOk active) = true
is_message (Other begins_content) = true
is_message _ = false

-- What an end keeps: its phase, what was agreed, and of each channel a record, in which data stands only where the
-- channel is Open.
use Rattle.std.specs.Prelude.{Bool, false, ℕ, List, [], Option}
use Rattle.amqp_model.specs.History.States.{State}
use Rattle.amqp_model.specs.Wire.Methods.{MethodKind}
use Rattle.amqp_model.specs.Wire.Gathering.{Gathering, Nothing}

-- the content under way; whether the other end paused this one; whether this end's flow is unanswered; the requests
-- without a reply, the oldest first
pub record Life : Type 0 where
  pub content : Gathering
  pub paused : Bool
  pub awaits : Bool
  pub requests : List MethodKind

pub data Channel : Type 0 where
  Free Opening Closing : Channel
  Open : Life → Channel

-- a life begins with nothing under way, not paused, no flow unanswered and no request
abbrev pub new_life : Life
new_life = record { content = Nothing; paused = false; awaits = false; requests = [] }

-- what `channel_state` answers
abbrev pub state_of : Channel → State
state_of Free = State.Free
state_of Opening = State.Opening
state_of Closing = State.Closing
state_of (Open life) = State.Open

-- What an end in the handshake awaits: the protocol header or a method of the class connection; or, where its
-- application decides, the answer to start, to start-ok or to open.
pub data HandshakeStep : Type 0 where
  AwaitsProtocolHeader AwaitsStart AwaitsStartOk AwaitsTune AwaitsTuneOk AwaitsOpen AwaitsOpenOk : HandshakeStep
  HoldsStart HoldsLogin HoldsOpen : HandshakeStep

pub data Phase : Type 0 where
  Handshake : HandshakeStep → Phase
  Running Closing Closed Failed : Phase

-- what tune-ok settles: the greatest channel number; the size of a frame, which counts all of its octets; and the
-- heartbeat in seconds, of which 0 is none
pub record Agreed : Type 0 where
  pub channel_max : ℕ
  pub frame_max : ℕ
  pub heartbeat : ℕ

-- what an end keeps: the phase of its connection, what was agreed, and a record of each channel
pub record End : Type 0 where
  pub phase : Phase
  pub agreed : Option Agreed
  pub channels : ℕ → Channel

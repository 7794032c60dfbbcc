-- What an end of a pair puts: AMQP 0-9-1 specification, sections 2.3.5.2, 4.2.3, 4.2.4 and 4.2.7. The methods and who
-- sends them are those of `amqp0-9-1.xml`. That no frame of channel 0 is longer than 4096 octets is this profile's
-- own.
use Rattle.std.specs.Prelude.{◌≡◌, ◌≢◌, ◌≤◌, ◌==◌, true, ℕ, List}
use Rattle.std.specs.List.{AllByRecursion}
use Rattle.amqp_frame.specs.Frame.{frame_length}
use Rattle.amqp_model.specs.Wire.Frame.{Frame}
use Rattle.amqp_model.specs.Wire.Notes.{Role, Client, Server, is_client, other_end}
use Rattle.amqp_model.specs.Wire.Methods.{Method, Properties, class_of, sends}
use Rattle.amqp_model.specs.Wire.Readings.{Reading, Calls, HeaderOf, BodyOf, Beat, reading}
use Rattle.amqp_model.specs.History.Histories.{History}
use Rattle.amqp_model.specs.End.Channels.{Agreed}
use Rattle.amqp_model.specs.History.Negotiation.{Config, FRAME_MIN}
use Rattle.amqp_model.specs.Stream.Octets.{frames_put}
use Rattle.amqp_model.specs.Pair.Pairs.{ComesNext}
use Rattle.amqp_model.specs.Pair.Agreement.{PairWrites, smaller_limits}

-- What the frame says: a method that its sender may send, of class 10, connection, on channel 0 and nowhere else;
-- above channel 0, a content header or a part of a body; or, on channel 0, an empty heartbeat. Each parses.
pub data SaysWell (role : Role) (channel : ℕ) : Reading → Type 0 where
  calls :
      (method : Method) → sends (is_client role) method.kind ≡ true
      → (class_of method.kind == 10) ≡ (channel == 0) → SaysWell role channel (Calls method)
  heads : (size : ℕ) (properties : Properties) → channel ≢ 0 → SaysWell role channel (HeaderOf size properties)
  fills : (octets : List ℕ) → channel ≢ 0 → SaysWell role channel (BodyOf octets)
  beats : channel ≡ 0 → SaysWell role channel (Beat true)

-- a frame of channel 0 has at most 4096 octets; any other is of a channel up to the agreed maximum, and of at most the
-- agreed size
pub record IsWellPut (role : Role) (limits : Agreed) (frame : Frame) : Type 0 where
  pub says : SaysWell role frame.channel (reading frame)
  pub at_zero : frame.channel ≡ 0 → frame_length frame ≤ FRAME_MIN
  pub numbered : frame.channel ≤ limits.channel_max
  pub within : frame_length frame ≤ limits.frame_max

-- Each frame that an end of a pair puts is well put.
abbrev pub PutsWell : Type 0
PutsWell =
    (role : Role) (client_config : Config Client) (server_config : Config Server) (mine theirs : History)
    → PairWrites role client_config server_config mine theirs
    → AllByRecursion (λ frame. IsWellPut role (smaller_limits client_config server_config) frame) (frames_put mine)

-- Each frame that comes next to an end of a pair was well put by the other.
abbrev pub NextIsWellPut : Type 0
NextIsWellPut =
    (role : Role) (client_config : Config Client) (server_config : Config Server) (mine theirs : History)
    (frame : Frame)
    → PairWrites role client_config server_config mine theirs → ComesNext theirs mine frame
    → IsWellPut (other_end role) (smaller_limits client_config server_config) frame

-- The two ends of a connection agree on channel 0: what they settle, and that each takes what the other puts there.
-- AMQP 0-9-1 specification, sections 2.2.4 and 4.2.2, and `amqp0-9-1.xml`, connection.tune, tune-ok, close and
-- close-ok.
use Rattle.std.specs.Prelude.{◌≡◌, ◌≢◌, ◌⊎◌, true, false, min, ℕ, suc, [], Some, None}
use Rattle.amqp_model.specs.Wire.Frame.{Frame}
use Rattle.amqp_model.specs.Wire.Notes.{Role, Client, Server}
use Rattle.amqp_model.specs.Output.Arrangement.{on}
use Rattle.amqp_model.specs.History.Histories.{History}
use Rattle.amqp_model.specs.End.Channels.{HandshakeStep, Phase, Handshake, Running, Closed, Agreed, End}
use Rattle.amqp_model.specs.History.Negotiation.{Config}
use Rattle.amqp_model.specs.End.EndVerdict.{end_verdict, goes_on, takes_frames}
use Rattle.amqp_model.specs.End.LawfulHistories.{end_of}
use Rattle.amqp_model.specs.Laws.EndLaws.{is_over}
use Rattle.amqp_model.specs.End.Fitting.{ConfigWrites}
use Rattle.amqp_model.specs.Stream.Octets.{frames_put, frames_taken}
use Rattle.amqp_model.specs.Pair.Pairs.{ComesNext, PairOf, config_of}

-- two ends that are set up so that they can write, after any steps of the two
pub record PairWrites (role : Role) (client_config : Config Client) (server_config : Config Server)
    (mine theirs : History) : Type 0 where
  pub client_writes : ConfigWrites client_config
  pub server_writes : ConfigWrites server_config
  pub pair : PairOf role client_config server_config mine theirs

-- what the end in this role keeps, by its history
abbrev pub end_in : (role : Role) → Config Client → Config Server → History → End
end_in role client_config server_config history = end_of (config_of role client_config server_config) history

-- of two limits the smaller, on channels and on the size of a frame, and of two heartbeats
abbrev pub smaller_limits : Config Client → Config Server → Agreed
smaller_limits client_config server_config =
    record {
      channel_max = min client_config.channel_max server_config.channel_max;
      frame_max = min client_config.frame_max server_config.frame_max;
      heartbeat = min client_config.heartbeat server_config.heartbeat;
    }

-- Whatever an end has agreed to is the smaller of the two ends' limits, so both agree to the same.
abbrev pub AgreesOnSmaller : Type 0
AgreesOnSmaller =
    (role : Role) (client_config : Config Client) (server_config : Config Server) (mine theirs : History)
    (agreed : Agreed)
    → PairWrites role client_config server_config mine theirs
    → (end_in role client_config server_config mine).agreed ≡ Some agreed
    → agreed ≡ smaller_limits client_config server_config

-- A login was refused: the server is gated, the connection closes or is closed, nothing was agreed, and neither end
-- has put a frame on a channel above 0.
pub record LoginWasRefused (role : Role) (client_config : Config Client) (server_config : Config Server)
    (mine theirs : History) : Type 0 where
  pub gated : server_config.gated ≡ true
  pub over : is_over (end_in role client_config server_config mine).phase ≡ true
  pub none : (end_in role client_config server_config mine).agreed ≡ None
  pub mine_put : (n : ℕ) → on (suc n) (frames_put mine) ≡ []
  pub theirs_put : (n : ℕ) → on (suc n) (frames_put theirs) ≡ []

-- An end that is past its handshake has agreed to the smaller limits, unless a login was refused.
abbrev pub AgreesPastHandshake : Type 0
AgreesPastHandshake =
    (role : Role) (client_config : Config Client) (server_config : Config Server) (mine theirs : History)
    → PairWrites role client_config server_config mine theirs
    → ((step : HandshakeStep) → (end_in role client_config server_config mine).phase ≢ Handshake step)
    → ((end_in role client_config server_config mine).agreed ≡ Some (smaller_limits client_config server_config))
    ⊎ LoginWasRefused role client_config server_config mine theirs

-- A Running end has agreed to the smaller limits.
abbrev pub AgreesRunning : Type 0
AgreesRunning =
    (role : Role) (client_config : Config Client) (server_config : Config Server) (mine theirs : History)
    → PairWrites role client_config server_config mine theirs
    → (end_in role client_config server_config mine).phase ≡ Running
    → (end_in role client_config server_config mine).agreed ≡ Some (smaller_limits client_config server_config)

-- Where the server is not gated, each end that is past its handshake has agreed to the smaller limits.
abbrev pub AgreesUngated : Type 0
AgreesUngated =
    (role : Role) (client_config : Config Client) (server_config : Config Server) (mine theirs : History)
    → PairWrites role client_config server_config mine theirs → server_config.gated ≡ false
    → ((step : HandshakeStep) → (end_in role client_config server_config mine).phase ≢ Handshake step)
    → (end_in role client_config server_config mine).agreed ≡ Some (smaller_limits client_config server_config)

-- the end takes frames, and goes on with this one
pub record EndGoesOn (role : Role) (client_config : Config Client) (server_config : Config Server) (mine : History)
    (frame : Frame) : Type 0 where
  pub in_phase : takes_frames (end_in role client_config server_config mine).phase ≡ true
  pub goes :
      goes_on (end_verdict (config_of role client_config server_config)
      (end_in role client_config server_config mine) frame) ≡ true

-- an end goes on with whatever comes next on channel 0
abbrev pub GoesOnAtZero : Type 0
GoesOnAtZero =
    (role : Role) (client_config : Config Client) (server_config : Config Server) (mine theirs : History)
    (frame : Frame)
    → PairWrites role client_config server_config mine theirs → ComesNext theirs mine frame → frame.channel ≡ 0
    → EndGoesOn role client_config server_config mine frame

-- where a frame of another channel comes next, the end is Running, or has put connection.close
abbrev pub RunsWhereNextIsAbove : Type 0
RunsWhereNextIsAbove =
    (role : Role) (client_config : Config Client) (server_config : Config Server) (mine theirs : History)
    (frame : Frame)
    → PairWrites role client_config server_config mine theirs → ComesNext theirs mine frame → frame.channel ≢ 0
    → ((end_in role client_config server_config mine).phase ≡ Running)
    ⊎ ((end_in role client_config server_config mine).phase ≡ Phase.Closing)

-- an end that is closed has taken all that the other put, on every channel
abbrev pub ClosedHasTakenAll : Type 0
ClosedHasTakenAll =
    (role : Role) (client_config : Config Client) (server_config : Config Server) (mine theirs : History)
    (channel : ℕ)
    → PairWrites role client_config server_config mine theirs
    → (end_in role client_config server_config mine).phase ≡ Closed
    → on channel (frames_put theirs) ≡ on channel (frames_taken mine)

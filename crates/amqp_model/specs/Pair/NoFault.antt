-- Neither of two whole ends finds fault with the other.
use Rattle.std.specs.Prelude.{◌≡◌, ◌<◌, true, ℕ, suc, List, length}
use Rattle.amqp_model.specs.Wire.Frame.{Frame}
use Rattle.amqp_model.specs.Wire.Notes.{Role, Client, Server}
use Rattle.amqp_model.specs.Wire.Methods.{MethodKind, Method, is_request, is_reply}
use Rattle.amqp_model.specs.Wire.Readings.{Calls, reading}
use Rattle.amqp_model.specs.History.Histories.{History}
use Rattle.amqp_model.specs.End.Channels.{Life, Open, Running}
use Rattle.amqp_model.specs.History.Negotiation.{Config}
use Rattle.amqp_model.specs.End.FrameVerdict.{MOST_REQUESTS, answers_first}
use Rattle.amqp_model.specs.End.EndVerdict.{CanTake, end_verdict, goes_on}
use Rattle.amqp_model.specs.Pair.Pairs.{ComesNext, config_of}
use Rattle.amqp_model.specs.Pair.Agreement.{PairWrites, end_in}

-- a client takes a reply to the request that waits, a server a request where it keeps fewer than it may
abbrev pub IsMatched : Role → List MethodKind → Method → Type 0
IsMatched Client requests method = is_reply method.kind ≡ true → answers_first method.kind requests ≡ true
IsMatched Server requests method = is_request method ≡ true → length requests < MOST_REQUESTS

-- a method that comes next to a Running end, on a channel that it has Open, is matched with the requests that it keeps
abbrev pub NextIsMatched : Role → Config Client → Config Server → (mine theirs : History) → Frame → Type 0
NextIsMatched role client_config server_config mine theirs frame =
    PairWrites role client_config server_config mine theirs → ComesNext theirs mine frame
    → (end_in role client_config server_config mine).phase ≡ Running
    → (n : ℕ) (life : Life) (method : Method) → frame.channel ≡ suc n → reading frame ≡ Calls method
    → (end_in role client_config server_config mine).channels (suc n) ≡ Open life
    → IsMatched role life.requests method

-- A method that comes next to a Running end is matched with the requests that it keeps.
abbrev pub EveryNextIsMatched : Type 0
EveryNextIsMatched =
    (role : Role) (client_config : Config Client) (server_config : Config Server) (mine theirs : History)
    (frame : Frame)
    → NextIsMatched role client_config server_config mine theirs frame

-- an end takes the frame, and goes on with it
pub record TakesWithoutFault (role : Role) (client_config : Config Client) (server_config : Config Server)
    (mine : History) (frame : Frame) : Type 0 where
  pub can : CanTake (end_in role client_config server_config mine) frame
  pub goes :
      goes_on (end_verdict (config_of role client_config server_config)
      (end_in role client_config server_config mine) frame) ≡ true

-- so it does with whatever comes next
abbrev pub TakesWhatComesNext : Role → Config Client → Config Server
    → (mine theirs : History) → Frame → Type 0
TakesWhatComesNext role client_config server_config mine theirs frame =
    PairWrites role client_config server_config mine theirs → ComesNext theirs mine frame
    → TakesWithoutFault role client_config server_config mine frame

-- An end of a pair takes whatever frame comes next without a fault.
abbrev pub EveryEndTakesWhatComesNext : Type 0
EveryEndTakesWhatComesNext =
    (role : Role) (client_config : Config Client) (server_config : Config Server) (mine theirs : History)
    (frame : Frame)
    → TakesWhatComesNext role client_config server_config mine theirs frame

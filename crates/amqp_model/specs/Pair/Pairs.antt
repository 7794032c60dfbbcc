-- Two ends of a connection: each does what its verdicts and its application's asks make of it, in any interleaving.
-- On each channel an end takes the frames of the other in the order in which that put them. Of frames of different
-- channels nothing is said, but that a close of the connection comes after all of the channels above 0.
use Rattle.std.specs.Prelude.{◌≡◌, true, false, ℕ, suc, List, [], ◌∷◌, ◌++◌, Option, Some, None}
use Rattle.amqp_model.specs.Wire.Frame.{Frame}
use Rattle.amqp_model.specs.Wire.Notes.{Role, Client, Server}
use Rattle.amqp_model.specs.Pair.Runs.{Run}
use Rattle.amqp_model.specs.Output.Arrangement.{is_leaving, on}
use Rattle.amqp_model.specs.History.Histories.{History}
use Rattle.amqp_model.specs.History.Negotiation.{Config}
use Rattle.amqp_model.specs.End.ReadingBack.{WritesReadBack}
use Rattle.amqp_model.specs.End.LawfulHistories.{Goes, Lawful}
use Rattle.amqp_model.specs.Laws.EndLaws.{notes_on}
use Rattle.amqp_model.specs.Stream.Octets.{frames_taken, frames_put}

-- The frame is the next on its channel that the other end put and this one has not taken. A connection.close or
-- close-ok comes where all was taken that the other put on the channels above 0.
pub record ComesNext (theirs mine : History) (frame : Frame) : Type 0 where
  pub later : List Frame
  pub next : on frame.channel (frames_put theirs) ≡ on frame.channel (frames_taken mine) ++ frame ∷ later
  pub at_leaving : is_leaving frame ≡ true → (n : ℕ)
      → on (suc n) (frames_put theirs) ≡ on (suc n) (frames_taken mine)

abbrev pub AllComeNext : (theirs mine : History) → Option Frame → Type 0
AllComeNext theirs mine None = Unit {0}
AllComeNext theirs mine (Some frame) = ComesNext theirs mine frame

-- The histories of the client and of the server after any steps of the two, each of which takes a frame only where that
-- comes next. An end that has failed, or is heard no more, just does no more steps.
pub data Pair (client_config : Config Client) (server_config : Config Server) : (client server : History)
    → Type 0 where
  both_begin : Pair client_config server_config [] []
  client_goes : {client server after : History} {taken : Option Frame}
      → Pair client_config server_config client server → AllComeNext server client taken
      → Goes Client client_config client taken false after
      → Pair client_config server_config after server
  server_goes : {client server after : History} {taken : Option Frame}
      → Pair client_config server_config client server → AllComeNext client server taken
      → Goes Server server_config server taken false after
      → Pair client_config server_config client after

-- the same, as one of the two ends sees it
abbrev pub PairOf : Role → Config Client → Config Server → (mine theirs : History) → Type 0
PairOf Client client_config server_config mine theirs = Pair client_config server_config mine theirs
PairOf Server client_config server_config mine theirs = Pair client_config server_config theirs mine

-- and each of the two writes what reads back
pub record PairAt (role : Role) (client_config : Config Client) (server_config : Config Server)
    (mine theirs : History) : Type 0 where
  pub client_writes : WritesReadBack Client client_config
  pub server_writes : WritesReadBack Server server_config
  pub pair : PairOf role client_config server_config mine theirs

-- the configuration of the end in this role
abbrev pub config_of : (role : Role) → Config Client → Config Server → Config role
config_of Client client_config server_config = client_config
config_of Server client_config server_config = server_config

-- two new ends are a pair
abbrev pub NewEndsPair : Role → Config Client → Config Server → Type 0
NewEndsPair role client_config server_config = PairOf role client_config server_config [] []

-- Two new ends are a pair.
abbrev pub AllNewEndsPair : Type 0
AllNewEndsPair =
    (role : Role) (client_config : Config Client) (server_config : Config Server)
    → NewEndsPair role client_config server_config

-- A pair stays one with each step of an end, where a frame that it takes comes next.
abbrev pub StepStaysPair : Type 0
StepStaysPair =
    (role : Role) (client_config : Config Client) (server_config : Config Server) (mine theirs : History)
    (taken : Option Frame) (after : History)
    → PairOf role client_config server_config mine theirs → AllComeNext theirs mine taken
    → Goes role (config_of role client_config server_config) mine taken false after
    → PairOf role client_config server_config after theirs

-- the two histories are lawful
abbrev pub BothLawful : Type 0
BothLawful =
    (client_config : Config Client) (server_config : Config Server) (client server : History)
    → Pair client_config server_config client server
    → Lawful Client client_config false client × Lawful Server server_config false server

-- on each channel above 0 the two histories are a run in the sense of the lives of a channel
abbrev pub RunsOnEach : Type 0
RunsOnEach =
    (client_config : Config Client) (server_config : Config Server) (client server : History)
    → WritesReadBack Client client_config → WritesReadBack Server server_config
    → Pair client_config server_config client server
    → (n : ℕ) → Run (notes_on (suc n) client) (notes_on (suc n) server)

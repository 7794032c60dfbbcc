-- Two endpoints of one connection, as whoever joins them keeps them: what each was fed is what the other wrote.
use Rattle.std.specs.Prelude.{◌≡◌, ◌≢◌, true, false, List, [], ◌++◌, ℕ, All}
use Rattle.amqp_model.specs.Wire.Frame.{Frame}
use Rattle.amqp_model.specs.Wire.Notes.{Role, Client, Server, other_end}
use Rattle.amqp_model.specs.End.Channels.{End}
use Rattle.amqp_model.specs.History.Histories.{History}
use Rattle.amqp_model.specs.End.LawfulHistories.{then_put}
use Rattle.amqp_model.specs.End.Machine.{StandsFor}
use Rattle.amqp_model.specs.History.Negotiation.{Config}
use Rattle.amqp_model.specs.End.Events.{Fault}
use Rattle.amqp_model.specs.End.Asks.{Ask, is_made, Puts, ask_verdict}
use Rattle.amqp_model.specs.Output.Outputs.{output_octets}
use Rattle.amqp_model.specs.End.Fitting.{ConfigWrites}
use Rattle.amqp_model.specs.End.ReadingBack.{AskReadsBack}
use Rattle.amqp_model.specs.Pair.Pairs.{config_of}
use Rattle.amqp_model.specs.Stream.Endpoint.{Endpoint, Feeding, Found, new_endpoint, after_feed, after_ask, after_wrote}
use Rattle.amqp_model.specs.Laws.OctetLaws.{IsOctet, EndpointStandsFor}
use Rattle.amqp_model.specs.Pair.Agreement.{PairWrites}

-- Each of the two stands for its history, the histories are those of a pair, and what each was fed is what the other
-- wrote. An end that is dropped is fed and asked no more; what it has put may still be written.
pub record StandTogether (role : Role) (client_config : Config Client) (server_config : Config Server)
    (mine theirs : Endpoint) : Type 0 where
  pub my_history : History
  pub their_history : History
  pub my_fed : List ℕ
  pub my_written : List ℕ
  pub their_fed : List ℕ
  pub their_written : List ℕ
  pub pair : PairWrites role client_config server_config my_history their_history
  pub mine_stands :
      EndpointStandsFor role (config_of role client_config server_config) mine my_history my_fed my_written
  pub theirs_stands :
      EndpointStandsFor (other_end role) (config_of (other_end role) client_config server_config) theirs their_history
      their_fed their_written
  pub to_mine : my_fed ≡ their_written
  pub to_theirs : their_fed ≡ my_written

-- Two new ends stand together.
abbrev pub NewStandTogether : Type 0
NewStandTogether =
    (role : Role) (client_config : Config Client) (server_config : Config Server)
    → ConfigWrites client_config → ConfigWrites server_config
    → StandTogether role client_config server_config (new_endpoint role) (new_endpoint (other_end role))

-- Two ends that stand together do so seen from the other end.
abbrev pub StandTogetherTurned : Type 0
StandTogetherTurned =
    (role : Role) (client_config : Config Client) (server_config : Config Server) (mine theirs : Endpoint)
    → StandTogether role client_config server_config mine theirs
    → StandTogether (other_end role) client_config server_config theirs mine

-- The first octets of the other's output are fed to the end, and the other has written those that it took: no fault is
-- found, and the two stand together still.
pub record CarriesOn (role : Role) (client_config : Config Client) (server_config : Config Server) (theirs : Endpoint)
    (new : Feeding) : Type 0 where
  pub none : (fault : Fault) → new.outcome ≢ Found fault
  pub together : StandTogether role client_config server_config new.endpoint (after_wrote new.taken theirs)

-- Two ends that stand together do so still where the first octets of the one's output are fed to the other, and no
-- fault is found.
abbrev pub CarryStandsTogether : Type 0
CarryStandsTogether =
    (role : Role) (client_config : Config Client) (server_config : Config Server) (mine theirs : Endpoint)
    (piece rest : List ℕ)
    → StandTogether role client_config server_config mine theirs → output_octets theirs.output ≡ piece ++ rest
    → piece ≢ []
    → All IsOctet piece
    → CarriesOn role client_config server_config theirs
    (after_feed role (config_of role client_config server_config) mine piece)

-- Two ends that stand together do so still where one of them accepts an ask.
abbrev pub AskStandsTogether : Type 0
AskStandsTogether =
    (role : Role) (client_config : Config Client) (server_config : Config Server) (mine theirs : Endpoint) (ask : Ask)
    (frames : List Frame)
    → StandTogether role client_config server_config mine theirs → AskReadsBack ask → is_made ask ≡ true
    → ask_verdict role mine.end ask ≡ Puts frames
    → StandTogether role client_config server_config
    (after_ask role (config_of role client_config server_config) mine ask) theirs

-- The same of the histories themselves.
abbrev pub AskedStaysPair : Role → Config Client → Config Server → (mine theirs : History)
    → End → Ask → List Frame → Type 0
AskedStaysPair role client_config server_config mine theirs end ask frames =
    PairWrites role client_config server_config mine theirs
    → StandsFor role (config_of role client_config server_config) false end mine
    → AskReadsBack ask → is_made ask ≡ true → ask_verdict role end ask ≡ Puts frames
    → PairWrites role client_config server_config (then_put frames mine) theirs

-- After the frames of an accepted ask two histories are a pair still.
abbrev pub EveryAskStaysPair : Type 0
EveryAskStaysPair =
    (role : Role) (client_config : Config Client) (server_config : Config Server) (mine theirs : History) (end : End)
    (ask : Ask) (frames : List Frame)
    → AskedStaysPair role client_config server_config mine theirs end ask frames

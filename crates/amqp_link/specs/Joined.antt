-- Two sides of a connection, with the histories that they are traces of.
use Rattle.std.specs.Prelude.{◌≡◌, false}
use Rattle.amqp_model.specs.Pair.Agreement.{PairWrites}
use Rattle.amqp_model.specs.Output.Departures.{IsOutputOf}
use Rattle.amqp_model.specs.History.Histories.{History}
use Rattle.amqp_model.specs.End.LawfulHistories.{Lawful}
use Rattle.amqp_model.specs.History.Negotiation.{Config}
use Rattle.amqp_model.specs.Wire.Notes.{Role, Client, Server, other_end}
use Rattle.amqp_model.specs.Laws.OctetLaws.{EndpointStandsFor}
use Rattle.amqp_model.specs.Stream.Octets.{frames_put, opening_written}
use Rattle.amqp_model.specs.Pair.Pairs.{config_of}
use Rattle.amqp_core.specs.Traced.Tracing.{IsTraceOf}
use Rattle.amqp_link.specs.Seats.{Seated}

-- One side with its history, in which there is no fault: it is the trace of it, what it wrote and has to write are the
-- octets of the frames put in it, and, unless it was dropped, it stands for it.
pub record StandsAt (role : Role) (config : Config role) (seated : Seated) (history : History) : Type 0 where
  pub lawful : Lawful role config false history
  pub trace : IsTraceOf role config seated.kept history
  pub output : IsOutputOf (opening_written role) (frames_put history) seated.kept.written seated.kept.endpoint.output
  pub stands : seated.dropped ≡ false
      → EndpointStandsFor role config seated.kept.endpoint history seated.kept.fed seated.kept.written

-- Their histories are those of a pair, and each was fed what the other wrote.
pub record AreJoined (role : Role) (client_config : Config Client) (server_config : Config Server)
    (mine theirs : Seated) : Type 0 where
  pub my_history : History
  pub their_history : History
  pub pair : PairWrites role client_config server_config my_history their_history
  pub mine_stands : StandsAt role (config_of role client_config server_config) mine my_history
  pub theirs_stands : StandsAt (other_end role) (config_of
      (other_end role) client_config server_config) theirs their_history
  pub to_mine : mine.kept.fed ≡ theirs.kept.written
  pub to_theirs : theirs.kept.fed ≡ mine.kept.written

-- So they are, each set up with the configuration of its role.
pub record IsJoinedTo (role : Role) (mine theirs : Seated) : Type 0 where
  pub client_config : Config Client
  pub server_config : Config Server
  pub mine_is : mine.set_up ≡ (role, config_of role client_config server_config)
  pub theirs_is : theirs.set_up ≡ (other_end role, config_of (other_end role) client_config server_config)
  pub joined : AreJoined role client_config server_config mine theirs

-- The laws by which two sides that are joined stay so as octets are carried.
use Rattle.std.specs.Prelude.{false, ℕ, List}
use Rattle.amqp_model.specs.Laws.ArrangementLaws.{OutputAfterWrite, WriteLeaves}
use Rattle.amqp_model.specs.Laws.CarryingLaws.{OpeningsMeet}
use Rattle.amqp_model.specs.End.Channels.{End}
use Rattle.amqp_model.specs.Laws.EndLaws.{StandingHasNotFailed}
use Rattle.amqp_model.specs.Stream.Endpoint.{Endpoint}
use Rattle.amqp_model.specs.Laws.FittingLaws.{AllReadsBack}
use Rattle.amqp_model.specs.History.Histories.{History}
use Rattle.amqp_model.specs.Laws.LeavingLaws.{OctetsArePutAs}
use Rattle.amqp_model.specs.History.Negotiation.{Config}
use Rattle.amqp_model.specs.Wire.Notes.{Role, Client, Server, other_end}
use Rattle.amqp_model.specs.Laws.OctetLaws.{FeedTakesWithin, WroteFollows}
use Rattle.amqp_model.specs.Pair.OctetsInFlight.{FeedStaysPair, FindsNoFaultWithOctets, GrownStaysPair}
use Rattle.amqp_model.specs.Output.Outputs.{Output}
use Rattle.amqp_model.specs.Pair.Pairs.{config_of}
use Rattle.amqp_core.specs.Traced.Tracing.{Kept, StandsUnlessFailed}

-- for the reader in this role
pub record JoinLaws (role : Role) (client_config : Config Client) (server_config : Config Server) : Type 0 where
  pub none : (mine theirs : History) (endpoint : Endpoint) (fed written piece later : List ℕ)
      → FindsNoFaultWithOctets role client_config server_config mine theirs endpoint fed written piece later
  pub feeds : (mine theirs : History) (endpoint : Endpoint) (fed written piece later : List ℕ)
      → FeedStaysPair role client_config server_config mine theirs endpoint fed written piece later
  pub grown : (mine theirs : History) (endpoint : Endpoint) (fed written piece later : List ℕ) (after : History)
      → GrownStaysPair role client_config server_config mine theirs endpoint fed written piece later after
  pub put_as : (history : History) (opening written : List ℕ) (output : Output)
      → OctetsArePutAs (other_end role) (config_of
      (other_end role) client_config server_config) false history opening written output
  pub reads_back : AllReadsBack (other_end role) (config_of (other_end role) client_config server_config)
  pub openings : OpeningsMeet role
  pub stand : (kept : Kept) (history : History) → StandsUnlessFailed role
      (config_of role client_config server_config) kept history
  pub not_yet : (end : End) (history : History) → StandingHasNotFailed role
      (config_of role client_config server_config) end history
  pub wrote : (endpoint : Endpoint) (history : History) (fed written : List ℕ) (n : ℕ)
      → WroteFollows (other_end role) (config_of
      (other_end role) client_config server_config) endpoint history fed written n
  pub output : OutputAfterWrite
  pub leaves : WriteLeaves
  pub within : (endpoint : Endpoint) (piece : List ℕ) → FeedTakesWithin role
      (config_of role client_config server_config) endpoint piece

-- for either
abbrev pub BothJoinLaws : Type 0
BothJoinLaws = (role : Role) (client_config : Config Client) (server_config : Config Server)
    → JoinLaws role client_config server_config

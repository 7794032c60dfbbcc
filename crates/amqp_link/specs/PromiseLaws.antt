-- The laws by which joined ends keep what they promise.
use Rattle.std.specs.Prelude.{false, ℕ, suc, List}
use Rattle.amqp_model.specs.End.Channels.{End}
use Rattle.amqp_model.specs.Laws.CarryingLaws.{OpeningsMeet}
use Rattle.amqp_model.specs.Laws.EndLaws.{StandingHasNotFailed}
use Rattle.amqp_model.specs.Laws.ContentLaws.{ItemsAreEncoded}
use Rattle.amqp_model.specs.Wire.Contents.{Payload}
use Rattle.amqp_model.specs.Pair.EndsAgree.{LivesAgree, NoContentFromPaused}
use Rattle.amqp_model.specs.Laws.FittingLaws.{AllReadsBack}
use Rattle.amqp_model.specs.History.Histories.{History}
use Rattle.amqp_model.specs.Wire.Items.{Item}
use Rattle.amqp_model.specs.Pair.InTurn.{AsksOneAtATime, PairAnswersInTurn}
use Rattle.amqp_model.specs.Laws.LeavingLaws.{OctetsArePutAs}
use Rattle.amqp_model.specs.History.Negotiation.{Config}
use Rattle.amqp_model.specs.Wire.Notes.{Role, Client, Server}
use Rattle.amqp_model.specs.Pair.OctetsInFlight.{ItemsSentAreActedOnOrWaiting, NothingWaitsForClosed, OctetsInFlightAreFrames}
use Rattle.amqp_model.specs.Output.Outputs.{Output}
use Rattle.amqp_model.specs.Pair.Pairs.{PairAt}
use Rattle.amqp_model.specs.Laws.SentLaws.{ActsOnPrefixOfItems, AllItemsActedOnAtClose, AllItemsActedOnOfEnded, NoItemsBeforeFirstLife, NothingOfChannel0, SaysWhatIsSent, TellsWhatIsActedOn}

-- of every two ends
pub record PromiseLaws (role : Role) (client_config : Config Client) (server_config : Config Server) : Type 0 where
  pub prefix : (mine theirs : History) (n : ℕ) → PairAt role client_config server_config mine theirs
      → ActsOnPrefixOfItems role (suc n) mine theirs
  pub lives : (mine theirs : History) (n : ℕ) → LivesAgree role client_config server_config mine theirs n
  pub closed : (mine theirs : History) (n : ℕ) → PairAt role client_config server_config mine theirs
      → AllItemsActedOnAtClose role (suc n) mine theirs
  pub ended : (mine theirs : History) (n : ℕ) → PairAt role client_config server_config mine theirs
      → AllItemsActedOnOfEnded role (suc n) mine theirs
  pub frames : (limit : ℕ) (mine theirs : History) (put fed unfinished rest : List ℕ)
      → OctetsInFlightAreFrames role limit mine theirs put fed unfinished rest
  pub items : (mine theirs : History) (unfinished rest : List ℕ) (n : ℕ)
      → ItemsSentAreActedOnOrWaiting role client_config server_config mine theirs unfinished rest n
  pub pause : (mine theirs : History) (n : ℕ) → NoContentFromPaused role client_config server_config mine theirs n
  pub waits : (mine theirs : History) (limit : ℕ) (put fed unfinished rest : List ℕ)
      → NothingWaitsForClosed role client_config server_config mine theirs limit put fed unfinished rest
  pub openings : OpeningsMeet role
  pub before_first : (mine theirs : History) (n : ℕ) → PairAt role client_config server_config mine theirs
      → NoItemsBeforeFirstLife role (suc n) mine

-- of every end
pub record EndPromiseLaws (role : Role) (config : Config role) : Type 0 where
  pub told : (n : ℕ) (history : History) → TellsWhatIsActedOn role config (suc n) history
  pub said : (n : ℕ) (history : History) → SaysWhatIsSent role (suc n) history
  pub channel_0 : (history : History) → NothingOfChannel0 role config history
  pub put_as : (history : History) (opening written : List ℕ) (output : Output)
      → OctetsArePutAs role config false history opening written output
  pub reads_back : AllReadsBack role config
  pub not_yet : (end : End) (history : History) → StandingHasNotFailed role config end history

-- all of them
pub record AllPromiseLaws : Type 0 where
  pub encoded : (taken : List Payload) (items : List Item) → ItemsAreEncoded taken items
  pub pairs : (role : Role) (client_config : Config Client) (server_config : Config Server)
      → PromiseLaws role client_config server_config
  pub ends : (role : Role) (config : Config role) → EndPromiseLaws role config
  pub in_turn : PairAnswersInTurn
  pub one_at_a_time : AsksOneAtATime

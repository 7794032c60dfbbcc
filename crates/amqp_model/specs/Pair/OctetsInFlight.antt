-- Two whole ends over octets: neither finds fault with the octets of the other, nothing waits for an end that is
-- closed, and what is in flight is frames. AMQP 0-9-1 specification, section 2.3.4, "Delimiting Frames".
use Rattle.std.specs.Prelude.{◌≡◌, ◌≢◌, true, ℕ, suc, List, [], ◌++◌, map, take, All}
use Rattle.amqp_frame.specs.Splitting.{stream, AllFit}
use Rattle.amqp_model.specs.Wire.Frame.{Frame}
use Rattle.amqp_model.specs.Wire.Notes.{Role, Client, Server, other_end}
use Rattle.amqp_model.specs.Pair.Carried.{message_frames, acted}
use Rattle.amqp_model.specs.Laws.LifeLaws.{IsLive}
use Rattle.amqp_model.specs.Output.Arrangement.{on}
use Rattle.amqp_model.specs.Output.Departures.{PutAs}
use Rattle.amqp_model.specs.History.Histories.{History}
use Rattle.amqp_model.specs.End.Channels.{Closed}
use Rattle.amqp_model.specs.History.Negotiation.{Config}
use Rattle.amqp_model.specs.End.Events.{Fault}
use Rattle.amqp_model.specs.Laws.EndLaws.{notes_on}
use Rattle.amqp_model.specs.Stream.Octets.{frames_taken, frames_put, opening_read, has_opened}
use Rattle.amqp_model.specs.Pair.Pairs.{PairOf, config_of}
use Rattle.amqp_model.specs.Pair.Sent.{items_in, items_sent, life_on}
use Rattle.amqp_model.specs.Stream.Endpoint.{Endpoint, Feeding, Found, after_feed}
use Rattle.amqp_model.specs.Stream.Grown.{Grows}
use Rattle.amqp_model.specs.Laws.OctetLaws.{IsOctet, EndpointStandsFor}
use Rattle.amqp_model.specs.Laws.CarryingLaws.{as_carried, Carries}
use Rattle.amqp_model.specs.Pair.Agreement.{PairWrites, end_in}

-- An end of a pair, which stands for its history, is fed the next octets of what the other put: all that was put is
-- what it was fed before, then this piece, then more.
pub record IsFedNext (role : Role) (client_config : Config Client) (server_config : Config Server)
    (mine theirs : History) (endpoint : Endpoint) (fed written piece later : List ℕ) : Type 0 where
  pub pair : PairWrites role client_config server_config mine theirs
  pub stands : EndpointStandsFor role (config_of role client_config server_config) endpoint mine fed written
  pub put_as : PutAs (opening_read role) (fed ++ (piece ++ later)) (frames_put theirs)
  pub are_octets : All IsOctet piece
  pub some : piece ≢ []

-- it finds no fault
abbrev pub FindsNoFaultWithOctets :
    Role → Config Client → Config Server → (mine theirs : History) → Endpoint
    → (fed written piece later : List ℕ) → Type 0
FindsNoFaultWithOctets role client_config server_config mine theirs endpoint fed written piece later =
    IsFedNext role client_config server_config mine theirs endpoint fed written piece later
    → (fault : Fault)
    → (after_feed role (config_of role client_config server_config) endpoint piece).outcome ≢ Found fault

-- An end that is fed the next octets of the other finds no fault.
abbrev pub NoFaultWithNextOctets : Type 0
NoFaultWithNextOctets =
    (role : Role) (client_config : Config Client) (server_config : Config Server) (mine theirs : History)
    (endpoint : Endpoint) (fed written piece later : List ℕ)
    → FindsNoFaultWithOctets role client_config server_config mine theirs endpoint fed written piece later

-- What it keeps then stands for a history that is a pair with the other's again, with the octets that it took.
pub record FeedsOn (role : Role) (client_config : Config Client) (server_config : Config Server) (theirs : History)
    (fed written piece : List ℕ) (new : Feeding) : Type 0 where
  pub after : History
  pub pair : PairOf role client_config server_config after theirs
  pub stands :
      EndpointStandsFor role (config_of role client_config server_config) new.endpoint after
      (fed ++ take new.taken piece) written

abbrev pub FeedStaysPair :
    Role → Config Client → Config Server → (mine theirs : History) → Endpoint
    → (fed written piece later : List ℕ) → Type 0
FeedStaysPair role client_config server_config mine theirs endpoint fed written piece later =
    IsFedNext role client_config server_config mine theirs endpoint fed written piece later
    → FeedsOn role client_config server_config theirs fed written piece
    (after_feed role (config_of role client_config server_config) endpoint piece)

-- What an end keeps after the next octets of the other stands for a history that is a pair with the other's.
abbrev pub EveryFeedStaysPair : Type 0
EveryFeedStaysPair =
    (role : Role) (client_config : Config Client) (server_config : Config Server) (mine theirs : History)
    (endpoint : Endpoint) (fed written piece later : List ℕ)
    → FeedStaysPair role client_config server_config mine theirs endpoint fed written piece later

-- and whatever history follows by what came of the piece, it is a pair with the other's
abbrev pub GrownStaysPair :
    Role → Config Client → Config Server → (mine theirs : History) → Endpoint
    → (fed written piece later : List ℕ) → (after : History) → Type 0
GrownStaysPair role client_config server_config mine theirs endpoint fed written piece later after =
    IsFedNext role client_config server_config mine theirs endpoint fed written piece later
    → Grows role (config_of role client_config server_config) endpoint piece
    (after_feed role (config_of role client_config server_config) endpoint piece) mine after
    → PairWrites role client_config server_config after theirs

-- Whatever history follows by the next octets of the other is a pair with the other's.
abbrev pub EveryGrownStaysPair : Type 0
EveryGrownStaysPair =
    (role : Role) (client_config : Config Client) (server_config : Config Server) (mine theirs : History)
    (endpoint : Endpoint) (fed written piece later : List ℕ) (after : History)
    → GrownStaysPair role client_config server_config mine theirs endpoint fed written piece later after

-- no octet waits for an end that is closed: it has none unfinished, and was fed all that the other put
abbrev pub NothingWaitsForClosed :
    Role → Config Client → Config Server → (mine theirs : History) → (limit : ℕ)
    → (put fed unfinished rest : List ℕ) → Type 0
NothingWaitsForClosed role client_config server_config mine theirs limit put fed unfinished rest =
    PairWrites role client_config server_config mine theirs → Carries role limit mine theirs put fed unfinished rest
    → (end_in role client_config server_config mine).phase ≡ Closed → (unfinished ≡ []) × (rest ≡ [])

-- No octet waits for an end that is closed.
abbrev pub NothingWaitsForAnyClosed : Type 0
NothingWaitsForAnyClosed =
    (role : Role) (client_config : Config Client) (server_config : Config Server) (mine theirs : History) (limit : ℕ)
    (put fed unfinished rest : List ℕ)
    → NothingWaitsForClosed role client_config server_config mine theirs limit put fed unfinished rest

-- The octets not yet taken as frames are those of frames that wait, and on each channel these are what the other put
-- after what the end took.
pub record InFlight (mine theirs : History) (unfinished rest : List ℕ) : Type 0 where
  pub waiting : List Frame
  pub fit : AllFit waiting
  pub octets_are : unfinished ++ rest ≡ stream waiting
  pub each_channel :
      (channel : ℕ) → on channel (frames_put theirs) ≡ on channel (frames_taken mine) ++ on channel waiting

-- so it is once the end has read what stands before the frames
abbrev pub OctetsInFlightAreFrames : Role → (limit : ℕ) → (mine theirs : History)
    → (put fed unfinished rest : List ℕ) → Type 0
OctetsInFlightAreFrames role limit mine theirs put fed unfinished rest =
    Carries role limit mine theirs put fed unfinished rest → has_opened role mine ≡ true
    → InFlight mine theirs unfinished rest

-- The octets in flight are those of whole frames, which are in flight on their channels.
abbrev pub AllOctetsInFlightAreFrames : Type 0
AllOctetsInFlightAreFrames =
    (role : Role) (limit : ℕ) (mine theirs : History) (put fed unfinished rest : List ℕ)
    → OctetsInFlightAreFrames role limit mine theirs put fed unfinished rest

-- the items that the other sent in the life of a live end are those that the frames acted on and then the messages
-- among the waiting frames encode, read one after the other
abbrev pub ItemsSentAreActedOnOrWaiting :
    Role → Config Client → Config Server → (mine theirs : History)
    → (unfinished rest : List ℕ) → (n : ℕ) → Type 0
ItemsSentAreActedOnOrWaiting role client_config server_config mine theirs unfinished rest n =
    PairWrites role client_config server_config mine theirs → (flight : InFlight mine theirs unfinished rest)
    → IsLive role (notes_on (suc n) mine)
    → items_sent (other_end role) (suc n) (life_on role (suc n) mine) theirs
    ≡ items_in (acted role (life_on role (suc n) mine) (notes_on (suc n) mine)
    ++ message_frames (map as_carried (on (suc n) flight.waiting)))

-- The items sent in the life of a live end are those acted on and then those that wait.
abbrev pub AllItemsAreActedOnOrWaiting : Type 0
AllItemsAreActedOnOrWaiting =
    (role : Role) (client_config : Config Client) (server_config : Config Server) (mine theirs : History)
    (unfinished rest : List ℕ) (n : ℕ)
    → ItemsSentAreActedOnOrWaiting role client_config server_config mine theirs unfinished rest n

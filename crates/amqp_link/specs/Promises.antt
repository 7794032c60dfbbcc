-- What the two ends of a connection keep to each other, by the histories that they are the traces of: what was put and
-- taken at either, in which no fault was found.
use Rattle.std.specs.Prelude.{◌≡◌, ◌≢◌, ◌≤◌, true, false, ℕ, suc, List, [], ◌∷◌, ◌++◌, length, map}
use Rattle.amqp_model.specs.Output.Arrangement.{on}
use Rattle.amqp_model.specs.Pair.Carried.{acted, message_frames, sent}
use Rattle.amqp_model.specs.Laws.CarryingLaws.{as_carried}
use Rattle.amqp_model.specs.End.Channels.{Closed, Failed}
use Rattle.amqp_model.specs.Laws.EndLaws.{notes_on}
use Rattle.amqp_model.specs.Wire.Frame.{Frame}
use Rattle.amqp_model.specs.History.Histories.{History, Took}
use Rattle.amqp_model.specs.Pair.InTurn.{AllInTurn, replies_at, requests_at}
use Rattle.amqp_model.specs.Laws.LifeLaws.{IsLive, SidesAgree}
use Rattle.amqp_model.specs.History.Negotiation.{Config}
use Rattle.amqp_model.specs.Wire.Notes.{Role, Client, Server, is_content, other_end}
use Rattle.amqp_model.specs.Stream.Octets.{has_opened}
use Rattle.amqp_model.specs.Pair.OctetsInFlight.{InFlight}
use Rattle.amqp_model.specs.Wire.Readings.{kind_of, reading}
use Rattle.amqp_model.specs.Pair.Sent.{items_acted, items_in, items_of, items_sent, life_on}
use Rattle.amqp_model.specs.Laws.SentLaws.{ActsOnPrefixOfItems, AllItemsActedOnAtClose, AllItemsActedOnOfEnded}
use Rattle.amqp_model.specs.Pair.Sentences.{PausesOther}
use Rattle.amqp_link.specs.Encoded.{AreItemsOf}
use Rattle.amqp_link.specs.Joined.{StandsAt}
use Rattle.amqp_link.specs.SeatSteps.{to_write}
use Rattle.amqp_link.specs.Seats.{Seated}

-- the frames acted on in the life that goes on, and then the messages among those that are in flight
abbrev pub acted_and_waiting : Role → (mine : History) → (n : ℕ) → (waiting : List Frame) → List Frame
acted_and_waiting role mine n waiting =
    acted role (life_on role (suc n) mine) (notes_on (suc n) mine)
    ++ message_frames (map as_carried (on (suc n) waiting))

-- The octets that the reader has taken of an unfinished frame, and those that wait for it, are those of whole frames;
-- and what the writer sent in the life is what the frames acted on, followed by these, encode.
pub record OnItsWay (role : Role) (reader writer : Seated) (mine theirs : History) (n : ℕ) : Type 0 where
  pub flight : InFlight mine theirs reader.kept.endpoint.unfinished (to_write writer)
  pub sent : items_sent (other_end role) (suc n) (life_on role (suc n) mine) theirs
      ≡ items_in (acted_and_waiting role mine n flight.waiting)
  pub sent_encoded : AreItemsOf (acted_and_waiting role mine n flight.waiting)
      (items_of (suc n) (life_on role (suc n) mine) writer.kept.said)

-- no content but get-ok is taken while the end has paused the other
abbrev pub TakesNoneWhilePaused : Role → (mine : History) → (n : ℕ) → Type 0
TakesNoneWhilePaused role mine n =
    (later before : History) (frame : Frame) → mine ≡ later ++ Took frame ∷ before → frame.channel ≡ suc n
    → is_content (kind_of (reading frame)) ≡ true
    → PausesOther role (notes_on (suc n) before) → ⊥

-- On a channel above 0, in one direction.
pub record KeepsOn (role : Role) (reader writer : Seated) (mine theirs : History) (n : ℕ) : Type 0 where
  -- what either has written down of a life is what it acted on or sent in it
  pub acted_is : (life : ℕ) → items_of (suc n) life reader.kept.told ≡ items_acted role (suc n) life mine
  pub sent_is : (life : ℕ) → items_of (suc n) life writer.kept.said ≡ items_sent (other_end role) (suc n) life theirs
  -- and these are exactly the items that the frames acted on, and those sent, encode
  pub acted_encoded : (life : ℕ)
      → AreItemsOf (acted role life (notes_on (suc n) mine)) (items_of (suc n) life reader.kept.told)
  pub sent_encoded : (life : ℕ)
      → AreItemsOf (sent (other_end role) life (notes_on (suc n) theirs)) (items_of (suc n) life writer.kept.said)
  -- before the first life nothing is acted on, and nothing sent
  pub before_first : (items_of (suc n) 0 reader.kept.told ≡ []) × (items_of (suc n) 0 writer.kept.said ≡ [])
  -- in each life the former is a prefix of the latter
  pub prefix : ActsOnPrefixOfItems role (suc n) mine theirs
  -- each frame is taken in the life in which it was put
  pub lives : SidesAgree role (notes_on (suc n) mine) (notes_on (suc n) theirs)
  -- all was acted on of a life that the other's close ended, of the channel or of the connection
  pub closed : AllItemsActedOnAtClose role (suc n) mine theirs
  pub connection_closed : AllItemsActedOnOfEnded role (suc n) mine theirs
  -- and of one that goes on, the rest is in flight
  pub on_its_way : reader.dropped ≡ false → has_opened role mine ≡ true → IsLive role (notes_on (suc n) mine)
      → OnItsWay role reader writer mine theirs n
  pub paused : TakesNoneWhilePaused role mine n

-- A reader that wasn't dropped has not failed; and where it is closed, nothing waits for it.
pub record StaysWhole (reader writer : Seated) : Type 0 where
  pub not_failed : reader.dropped ≡ false → reader.kept.endpoint.end.phase ≢ Failed
  pub nothing_waits : reader.dropped ≡ false → reader.kept.endpoint.end.phase ≡ Closed
      → (reader.kept.endpoint.unfinished ≡ []) × (to_write writer ≡ [])

-- Of both, in both directions.
pub record Promises (client_config : Config Client) (server_config : Config Server)
    (client server : Seated) : Type 0 where
  pub client_history : History
  pub server_history : History
  -- the ends are the traces of these, and no fault was found in them
  pub client_stands : StandsAt Client client_config client client_history
  pub server_stands : StandsAt Server server_config server server_history
  pub to_client : (n : ℕ) → KeepsOn Client client server client_history server_history n
  pub to_server : (n : ℕ) → KeepsOn Server server client server_history client_history n
  pub client_whole : StaysWhole client server
  pub server_whole : StaysWhole server client
  -- the n-th reply answers the n-th request, and one request at most has no reply yet
  pub in_turn : (n life : ℕ) → AllInTurn (suc n) life client_history server_history
  pub one_at_a_time : (n life : ℕ) → length (requests_at Client (suc n) life client_history) ≤ suc
      (length (replies_at Client (suc n) life client_history))

-- What holds of the items that two ends send each other and act on: the statements that the public laws carry.
use Rattle.std.specs.Prelude.{◌≡◌, true, false, ℕ, suc, List, [], ◌∷◌, ◌++◌}
use Rattle.amqp_model.specs.Wire.Notes.{Role, Client, Server, other_end}
use Rattle.amqp_model.specs.Pair.Carried.{Carried, message_frames, put_by, taken_by, acted}
use Rattle.amqp_model.specs.Output.Prefixes.{IsPrefixOf}
use Rattle.amqp_model.specs.Laws.LifeLaws.{IsLive, EndedByPeer}
use Rattle.amqp_model.specs.History.Histories.{Took, History, closes_connection}
use Rattle.amqp_model.specs.History.Negotiation.{Config}
use Rattle.amqp_model.specs.End.EndVerdict.{goes_on, end_verdict}
use Rattle.amqp_model.specs.End.LawfulHistories.{then_taken, Lawful}
use Rattle.amqp_model.specs.End.StateFromHistory.{end_from}
use Rattle.amqp_model.specs.Wire.Frame.{Frame}
use Rattle.amqp_model.specs.Laws.EndLaws.{notes_on}
use Rattle.amqp_model.specs.Output.Arrangement.{is_leaving}
use Rattle.amqp_model.specs.Pair.Pairs.{ComesNext, PairAt}
use Rattle.amqp_model.specs.Pair.Sent.{items_in, items_sent, items_acted, life_on, told, said, items_of}

-- a law of both ends of every pair of ends, on each channel above 0
abbrev OnEachPair : (Role → (channel : ℕ) → (mine theirs : History) → Type 0) → Type 0
OnEachPair Law =
    (role : Role) (client_config : Config Client) (server_config : Config Server) (mine theirs : History) (n : ℕ)
    → PairAt role client_config server_config mine theirs → Law role (suc n) mine theirs

-- in each life, the items that an end acted on are a prefix of those that the other sent
abbrev pub ActsOnPrefixOfItems : Role → (channel : ℕ) → (mine theirs : History) → Type 0
ActsOnPrefixOfItems role channel mine theirs =
    (life : ℕ) → IsPrefixOf (items_acted role channel life mine) (items_sent (other_end role) channel life theirs)

-- In each life, the items that an end acted on are a prefix of those that the other sent.
abbrev pub EveryEndActsOnPrefixOfItems : Type 0
EveryEndActsOnPrefixOfItems = OnEachPair ActsOnPrefixOfItems

-- all the items that the other sent in a life that its close ended were acted on
abbrev pub AllItemsActedOnAtClose : Role → (channel : ℕ) → (mine theirs : History) → Type 0
AllItemsActedOnAtClose role channel mine theirs =
    (life : ℕ) → EndedByPeer role life (notes_on channel mine)
    → items_acted role channel life mine ≡ items_sent (other_end role) channel life theirs

-- All items sent in a life that the other's close ended were acted on.
abbrev pub AllItemsActedOnAtEveryClose : Type 0
AllItemsActedOnAtEveryClose = OnEachPair AllItemsActedOnAtClose

-- all the items that the other sent in the life of a live end were acted on, where the other's connection.close comes
-- next
abbrev pub AllItemsActedOnAtConnectionClose : Role → (channel : ℕ) → (mine theirs : History) → Type 0
AllItemsActedOnAtConnectionClose role channel mine theirs =
    (frame : Frame)
    → IsLive role (notes_on channel mine)
    → ComesNext theirs mine frame → is_leaving frame ≡ true
    → items_acted role channel (life_on role channel mine) mine
    ≡ items_sent (other_end role) channel (life_on role channel mine) theirs

-- All items sent in the life of a live end were acted on, where the other's connection.close comes next.
abbrev pub AllItemsActedOnAtEveryConnectionClose : Type 0
AllItemsActedOnAtEveryConnectionClose = OnEachPair AllItemsActedOnAtConnectionClose

-- the end took the other's connection.close in this life of the channel, before it put a close of the channel or the
-- connection
pub record EndedByConnectionClose (role : Role) (channel life : ℕ) (history : History) : Type 0 where
  pub later : History
  pub frame : Frame
  pub before : History
  pub history_is : history ≡ later ++ Took frame ∷ before
  pub closes : closes_connection frame ≡ true
  pub live : IsLive role (notes_on channel before)
  pub life_is : life_on role channel before ≡ life

-- all the items that the other sent in such a life were acted on
abbrev pub AllItemsActedOnOfEnded : Role → (channel : ℕ) → (mine theirs : History) → Type 0
AllItemsActedOnOfEnded role channel mine theirs =
    (life : ℕ) → EndedByConnectionClose role channel life mine
    → items_acted role channel life mine ≡ items_sent (other_end role) channel life theirs

-- All items sent in a life that the other's connection.close ended were acted on.
abbrev pub AllItemsActedOnOfEveryEnded : Type 0
AllItemsActedOnOfEveryEnded = OnEachPair AllItemsActedOnOfEnded

-- the items that the other sent in the life of a live end are those that the frames acted on and then the messages on
-- their way encode, read one after the other
abbrev pub ItemsSentAreActedOnOrInFlight : Role → (channel : ℕ) → (mine theirs : History) → Type 0
ItemsSentAreActedOnOrInFlight role channel mine theirs =
    (rest : List Carried)
    → IsLive role (notes_on channel mine)
    → put_by (notes_on channel theirs) ≡ taken_by (notes_on channel mine) ++ rest
    → items_sent (other_end role) channel (life_on role channel mine) theirs
    ≡ items_in (acted role (life_on role channel mine) (notes_on channel mine) ++ message_frames rest)

-- The items sent in the life of a live end are those that the frames acted on, and then the messages in flight,
-- encode.
abbrev pub AllItemsSentAreActedOnOrInFlight : Type 0
AllItemsSentAreActedOnOrInFlight = OnEachPair ItemsSentAreActedOnOrInFlight

-- the end sent nothing, and acted on nothing, before the first life of a channel
abbrev pub NoItemsBeforeFirstLife : Role → (channel : ℕ) → History → Type 0
NoItemsBeforeFirstLife role channel history =
    (items_sent role channel 0 history ≡ []) × (items_acted role channel 0 history ≡ [])

-- An end sent nothing, and acted on nothing, before the first life of a channel.
abbrev pub NoItemsBeforeAnyFirstLife : Type 0
NoItemsBeforeAnyFirstLife = OnEachPair (λ role channel mine theirs. NoItemsBeforeFirstLife role channel mine)

-- the items that an end that has not failed told of a channel and a life are those that it acted on in it
abbrev pub TellsWhatIsActedOn : (role : Role) → Config role → (channel : ℕ) → History → Type 0
TellsWhatIsActedOn role config channel history =
    Lawful role config false history → (life : ℕ)
    → items_of channel life (told role config history) ≡ items_acted role channel life history

-- What an end told of a channel and a life is what it acted on there.
abbrev pub EveryEndTellsWhatItActsOn : Type 0
EveryEndTellsWhatItActsOn =
    (role : Role) (config : Config role) (n : ℕ) (history : History)
    → TellsWhatIsActedOn role config (suc n) history

-- a frame that the end finds fault with tells nothing
abbrev pub FaultTellsNothing : Type 0
FaultTellsNothing =
    (role : Role) (config : Config role) (history : History) (frame : Frame)
    → goes_on (end_verdict config (end_from role config false history) frame) ≡ false
    → told role config (then_taken config (end_from role config false history) frame history)
    ≡ told role config history

-- the items said on a channel in a life are those that the end sent in it
abbrev pub SaysWhatIsSent : Role → (channel : ℕ) → History → Type 0
SaysWhatIsSent role channel history =
    (life : ℕ) → items_of channel life (said role history) ≡ items_sent role channel life history

-- What an end said on a channel in a life is what it sent there.
abbrev pub EveryEndSaysWhatItSends : Type 0
EveryEndSaysWhatItSends = (role : Role) (n : ℕ) (history : History) → SaysWhatIsSent role (suc n) history

-- nothing is told or said of channel 0
abbrev pub NothingOfChannel0 : (role : Role) → Config role → History → Type 0
NothingOfChannel0 role config history =
    (life : ℕ) → (items_of 0 life (told role config history) ≡ []) × (items_of 0 life (said role history) ≡ [])

-- Nothing is told or said of channel 0.
abbrev pub NothingIsOfChannel0 : Type 0
NothingIsOfChannel0 = (role : Role) (config : Config role) (history : History) → NothingOfChannel0 role config history

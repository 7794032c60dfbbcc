-- The contents that `loop` publishes, and what a server was told of them.
use Rattle.std.specs.Prelude.{◌≡◌, ◌+◌, ◌%◌, ◌^◌, ◌<◌, ℕ, List, [], ◌∷◌, ◌++◌, map, Bool, true, false, Some, IsSome, codes}
use Rattle.std.specs.Fmt.{decimal}
use Rattle.std.specs.List.{range_with_len}
use Rattle.amqp_method.specs.Arguments.{Call}
use Rattle.amqp_method.specs.MessageView.{message_view}
use Rattle.amqp_method.specs.Messages.{Letter}
use Rattle.amqp_method.specs.Places.{argument_at, found, short_string_of}
use Rattle.amqp_method.specs.declared.kinds.Kind.TheVariants.{BasicPublish}
use Rattle.amqp_channel.specs.declared.events.Event.{Event}
use Rattle.amqp_channel.specs.declared.events.Event.TheVariants.{AnswerAsked, LoginAsked, OpenAsked, Negotiated, Opened, Told, Flow, FlowOk, ChannelClosed, ConnectionClosed, Discarded, Blocked, Unblocked, Quiet}
use Rattle.amqp_text.specs.declared.tally.Load.{Load}
use Rattle.amqp_text.specs.declared.tally.Tally.{Tally}

-- a body of this size: the octet at each place is the place modulo 256
abbrev pub body_of : ℕ → List ℕ
body_of size = map (λ place. place % 256) (range_with_len 0 size)

-- the argument at this place is this short string
abbrev pub HasText : ℕ → Call → List ℕ → Type 0
HasText place call text = found short_string_of (argument_at place call.args) ≡ Some text

-- a content with this body follows the method
pub record HasBody (body : List ℕ) (letter : Letter) : Type 0 where
  pub content : IsSome letter.properties
  pub same : letter.body ≡ body

-- the message publishes this body to the exchange without a name, under the key `loop`
pub record Publishes (body : List ℕ) (letter : Letter) : Type 0 where
  pub kind : letter.call.kind ≡ BasicPublish
  pub exchange : HasText 0 letter.call []
  pub key : HasText 1 letter.call (codes "loop")
  pub content : HasBody body letter

-- of these events, newest first, exactly so many tell a content with this body, and none tells another message
abbrev pub AreExactly : (body : List ℕ) → (count : ℕ) → List Event → Type 0
AreExactly body count [] = count ≡ 0
AreExactly body count (Told channel message ∷ events) = Publishes body (message_view message)
    × ((fewer : ℕ) × (count ≡ fewer + 1) × AreExactly body fewer events)
AreExactly body count (AnswerAsked ∷ events) = AreExactly body count events
AreExactly body count (LoginAsked ∷ events) = AreExactly body count events
AreExactly body count (OpenAsked ∷ events) = AreExactly body count events
AreExactly body count (Negotiated agreed ∷ events) = AreExactly body count events
AreExactly body count (Opened channel ∷ events) = AreExactly body count events
AreExactly body count (Flow channel active ∷ events) = AreExactly body count events
AreExactly body count (FlowOk channel active ∷ events) = AreExactly body count events
AreExactly body count (ChannelClosed channel reason ∷ events) = AreExactly body count events
AreExactly body count (ConnectionClosed reason ∷ events) = AreExactly body count events
AreExactly body count (Discarded channel ∷ events) = AreExactly body count events
AreExactly body count (Blocked reason ∷ events) = AreExactly body count events
AreExactly body count (Unblocked ∷ events) = AreExactly body count events
AreExactly body count (Quiet ∷ events) = AreExactly body count events

-- how many contents a tally can count
abbrev pub Countable : ℕ → Type 0
Countable count = count < 2 ^ 64

-- The tally has heard these events, newest first.
pub record Heard (tally : Tally) (events : List Event) : Type 0 where
  -- nothing else came: the events tell as many contents with its body as it counts, and no other message
  pub only : tally.others ≡ false → AreExactly tally.body.items tally.contents events
  -- something else came: they are no such contents, in any number that it can count
  pub others : tally.others ≡ true → (count : ℕ) → Countable count → AreExactly tally.body.items count events → ⊥

-- the message is one content more
pub record CountsOne (old new : Tally) (letter : Letter) : Type 0 where
  pub nothing_else : old.others ≡ false
  pub publishes : Publishes old.body.items letter
  pub one_more : new.contents ≡ old.contents + 1

-- something else came before, or the message is no such content, or it is one more than can be counted
pub data HearsAnother (old : Tally) (letter : Letter) : Type 0 where
  before : old.others ≡ true → HearsAnother old letter
  other : (Publishes old.body.items letter → ⊥) → HearsAnother old letter
  too_many : old.others ≡ false → old.contents + 1 ≡ 2 ^ 64 → HearsAnother old letter

-- the line of a run's outcome
abbrev pub outcome_line : (came : Bool) → Load → List ℕ
outcome_line true load = decimal load.count ++ (codes " contents of " ++ (decimal load.size ++ codes " octets\n"))
outcome_line false load = codes "fault short\n"

-- its exit status
abbrev pub outcome_status : (came : Bool) → ℕ
outcome_status true = 0
outcome_status false = 1

-- What holds of contents, of what is gathered of them, and of items: the statements that the public laws carry.
use Rattle.std.specs.Prelude.{◌≡◌, ◌↔◌, true, false, ℕ, ◌*◌, ◌<◌, ◌≤◌, List, [], ◌∷◌}
use Rattle.std.specs.Prelude.{◌++◌, length, take, drop, reverse, All, Some, slice_get}
use Rattle.amqp_model.specs.Output.Prefixes.{IsPrefixOf}
use Rattle.std.specs.Option.{option_to_list}
use Rattle.amqp_frame.specs.Frame.{Frame, frame_length}
use Rattle.amqp_frame.specs.declared.frames.FrameKind.TheVariants.{Body as BodyKind}
use Rattle.amqp_model.specs.Wire.Methods.{Method, Properties, sort_of, carries_content}
use Rattle.amqp_model.specs.Wire.Contents.{Payload, Calls, Header, Body, Content, IsContent, pieces, cut, UnderWay}
use Rattle.amqp_model.specs.Wire.Contents.{EndsContent, body_octets, due, IsDue}
use Rattle.amqp_model.specs.Wire.Gathering.{Gathering, Nothing, BodyDue, Misfit, PastSize, Completes, Keeps, Breaks}
use Rattle.amqp_model.specs.Wire.Gathering.{step, gathering, kept, Gathers, DoesNotFit}
use Rattle.amqp_model.specs.Wire.Items.{Item, WholeContent, EndsItem, Encodes, item_of, item_ended, items_taken, items}

-- payloads are the content of at most one message
abbrev pub IsAtMostOneContent : Type 0
IsAtMostOneContent =
    (payloads : List Payload)
    → (one other : Content) → IsContent one payloads → IsContent other payloads → one ≡ other

-- payloads that are a content are no prefix of another
abbrev pub NoContentAtStart : Type 0
NoContentAtStart =
    (payloads : List Payload)
    → (one other : Content) (next : Payload) (later : List Payload) → IsContent one payloads
    → IsContent other (payloads ++ next ∷ later) → ⊥

-- the frame of a body part
abbrev body_frame : (channel : ℕ) → (octets : List ℕ) → Frame
body_frame channel octets = record { kind = BodyKind; channel = channel; payload = octets }

-- a body part's frame is no longer than this, on any channel
abbrev pub BodyFits : (max : ℕ) → Payload → Type 0
BodyFits max (Body octets) = (channel : ℕ) → frame_length (body_frame channel octets) ≤ max
BodyFits max _ = Unit {0}

-- what is written of a content is that content, where its method carries one and a frame has room for a body
abbrev pub CutIsContent : Type 0
CutIsContent =
    (max : ℕ) (content : Content) → 8 < max → carries_content content.method ≡ true
    → IsContent content (cut max content)

-- no frame of a body part is longer than it may be
abbrev pub CutFits : Type 0
CutFits = (max : ℕ) (content : Content) → 8 < max → All (BodyFits max) (cut max content)

-- no payloads of the content whose body parts fit are fewer
abbrev pub CutIsShortest : Type 0
CutIsShortest =
    (max : ℕ) (content : Content) (payloads : List Payload) → 8 < max → IsContent content payloads
    → All (BodyFits max) payloads
    → length (cut max content) ≤ length payloads

-- the body part at a place holds the octets from there on that fit
abbrev pub PartsInPlace : Type 0
PartsInPlace =
    (room : ℕ) (octets : List ℕ) (place : ℕ) → place < length (pieces room octets)
    → slice_get (pieces room octets) place ≡ Some (take room (drop (place * room) octets))

-- the lengths of the body parts
abbrev pub body_lengths : List Payload → List ℕ
body_lengths [] = []
body_lengths (Body octets ∷ later) = length octets ∷ body_lengths later
body_lengths (_ ∷ later) = body_lengths later

-- a body of this length is written in parts of these lengths
abbrev pub CutsTo : (max body_length : ℕ) → List ℕ → Type 0
CutsTo max body_length lengths =
    (content : Content) → length content.body ≡ body_length → body_lengths (cut max content) ≡ lengths

-- In frames of 4096 octets a body of 4089 octets has two parts.
abbrev pub OneMoreMakesTwoParts : Type 0
OneMoreMakesTwoParts = CutsTo 4096 4089 (4088 ∷ 1 ∷ [])

-- A body of 4088 octets is one part.
abbrev pub FullBodyIsOnePart : Type 0
FullBodyIsOnePart = CutsTo 4096 4088 (4088 ∷ [])

-- A body of no octets has no part.
abbrev pub NoBodyIsNoPart : Type 0
NoBodyIsNoPart = CutsTo 4096 0 []

-- payloads taken leave at most one content under way
abbrev pub OneUnderWay : Type 0
OneUnderWay =
    (taken : List Payload)
    → (since others : List Payload) → UnderWay taken since → UnderWay taken others → since ≡ others

-- whatever goes on with what is under way goes on with what is due
abbrev pub GoesOnAsDue : Type 0
GoesOnAsDue =
    (taken since : List Payload)
    → (content : Content) (next : Payload) (later : List Payload) → UnderWay taken since
    → IsContent content (reverse since ++ next ∷ later)
    → IsDue (due since) next

-- the machine keeps what is under way: a state says it all, and it is the state for it
abbrev pub KeepsUnderWay : Type 0
KeepsUnderWay =
    (taken : List Payload) (state : Gathering)
    → (gathering taken ≡ state) ↔ Gathers taken state

-- the octets kept are those of the body parts since the content's method
abbrev pub KeepsItsOctets : Type 0
KeepsItsOctets =
    (taken since : List Payload)
    → UnderWay taken since → kept (gathering taken) ≡ body_octets since

-- where nothing is under way, what comes after is gathered as if nothing had come before
abbrev pub GathersAfresh : Type 0
GathersAfresh =
    (later before : List Payload)
    → Gathers before Nothing → gathering (later ++ before) ≡ gathering later

-- nothing is under way after a method that carries no content
abbrev pub NothingAfterMethod : Type 0
NothingAfterMethod =
    (before : List Payload) (method : Method)
    → carries_content method ≡ false → Gathers (Calls method ∷ before) Nothing

-- Nothing is under way after a content that is whole.
abbrev pub NothingAfterContent : Type 0
NothingAfterContent =
    (taken : List Payload) (content : Content)
    → EndsContent taken content → Gathers taken Nothing

-- the machine tells a content where it is whole
abbrev pub TellsWhole : Type 0
TellsWhole =
    (before : List Payload) (payload : Payload) (content : Content)
    → (step (gathering before) payload ≡ Completes content) ↔ EndsContent (payload ∷ before) content

-- the machine refuses what doesn't fit, for the reason that holds
abbrev pub TellsMisfits : Type 0
TellsMisfits =
    (before : List Payload) (payload : Payload) (misfit : Misfit)
    → (step (gathering before) payload ≡ Breaks misfit) ↔ DoesNotFit before payload misfit

-- Where the machine goes on with a payload, it does so with what is then under way.
abbrev pub StepsUnderWay : Type 0
StepsUnderWay =
    (before : List Payload) (payload : Payload) (state : Gathering)
    → step (gathering before) payload ≡ Keeps state → Gathers (payload ∷ before) state

-- the machine tells the items that payloads end
abbrev pub TellsItems : Type 0
TellsItems =
    (before : List Payload) (payload : Payload) (item : Item)
    → (item_ended (gathering before) payload ≡ Some item) ↔ EndsItem (payload ∷ before) item

-- the machine's items are those that the payloads encode
abbrev pub ItemsAreEncoded : (taken : List Payload) → List Item → Type 0
ItemsAreEncoded taken list = (items_taken taken ≡ list) ↔ Encodes taken list

-- The items that the machine tells are those that the payloads encode.
abbrev pub AllItemsAreEncoded : Type 0
AllItemsAreEncoded = (taken : List Payload) (list : List Item) → ItemsAreEncoded taken list

-- the items of a prefix are a prefix of the items
abbrev pub ItemsOfPrefix : Type 0
ItemsOfPrefix =
    (prefix whole : List Payload)
    → IsPrefixOf prefix whole → IsPrefixOf (items prefix) (items whole)

-- one more payload adds the item that it ends, if it ends one
abbrev pub OneMoreEncoded : Type 0
OneMoreEncoded =
    (prefix : List Payload) (payload : Payload)
    → items (prefix ++ payload ∷ []) ≡ items prefix ++ option_to_list
    (item_ended (gathering (reverse prefix)) payload)

-- where nothing is under way, what comes after is encoded as if nothing had come before
abbrev pub EncodedAfresh : Type 0
EncodedAfresh =
    (prefix later : List Payload)
    → Gathers (reverse prefix) Nothing → items (prefix ++ later) ≡ items prefix ++ items later

-- A method that carries no content stands by itself: what is encoded before it, the item that it is, what is encoded
-- after it. So the items of a life are those of its own payloads.
abbrev pub MethodStandsAlone : Type 0
MethodStandsAlone =
    (prefix : List Payload) (method : Method) (later : List Payload)
    → carries_content method ≡ false
    → items (prefix ++ Calls method ∷ later)
    ≡ (items prefix ++ option_to_list (item_of method (sort_of method))) ++ items later

-- a content's payloads add just that content, whatever stands before them
abbrev pub ContentEncodedAfter : Type 0
ContentEncodedAfter =
    (prefix payloads : List Payload) (content : Content)
    → IsContent content payloads → items (prefix ++ payloads) ≡ items prefix ++ WholeContent content ∷ []

-- what is under way has added nothing yet
abbrev pub UnfinishedEncodesNothing : Type 0
UnfinishedEncodesNothing =
    (taken since : List Payload)
    → (under : UnderWay taken since) → items_taken taken ≡ items_taken under.before

-- a content of these, with a method that carries one
abbrev content_of : Method → Properties → List ℕ → Content
content_of method properties body = record { method = method; properties = properties; body = body }

-- a content of no octets is whole with its header
abbrev pub IsToldAtHeader : Type 0
IsToldAtHeader =
    (method : Method) (properties : Properties) (before : List Payload) → carries_content method ≡ true
    → step (gathering (Calls method ∷ before)) (Header 0 properties) ≡ Completes (content_of method properties [])

-- the content `hi` is whole with its last part, and not with an empty one before
abbrev pub IsToldAtLastPart : Type 0
IsToldAtLastPart =
    (method : Method) (properties : Properties) (before : List Payload) → carries_content method ≡ true
    → (gathering (Body [] ∷ Body (104 ∷ []) ∷ Header 2 properties ∷ Calls method ∷ before)
    ≡ BodyDue method 2 properties (104 ∷ []))
    × (step (BodyDue method 2 properties (104 ∷ [])) (Body (105 ∷ []))
    ≡ Completes (content_of method properties (104 ∷ 105 ∷ [])))

-- a part of two octets is past the end where one is left
abbrev pub IsRefusedPastSize : Type 0
IsRefusedPastSize =
    (method : Method) (properties : Properties) (before : List Payload) → carries_content method ≡ true
    → step (gathering (Body (104 ∷ []) ∷ Header 2 properties ∷ Calls method ∷ before))
    (Body (105 ∷ 33 ∷ []))
    ≡ Breaks PastSize

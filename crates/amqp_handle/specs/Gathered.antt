-- What is gathered of the events of an end that lends, and what is told of them. Read before: these events
-- (`Lent.Alike` of `amqp_model`).
use Rattle.std.specs.Prelude.{◌≡◌, ◌≢◌, ◌<◌, ◌-◌, ◌+◌, ◌++◌, cond, min, Bool, true, false, nat_eq, ℕ, List, [], ◌∷◌}
use Rattle.std.specs.Prelude.{length, Option, Some, None, slice_get}
use Rattle.std.specs.declared.hash.FoldHasher.{FoldHasher}
use Rattle.std.specs.declared.hash.BuildHasherDefault.{BuildHasherDefault}
use Rattle.std.specs.HashMap.{get, HashMap}
use Rattle.amqp_method.specs.Encoding.{EncodesMethod}
use Rattle.amqp_method.specs.Properties.{header, EncodesHeader}
use Rattle.amqp_model.specs.End.Events as events
use Rattle.amqp_model.specs.Lent.Alike.{LentEvent, WithoutContent, Begins, Heads, Part, Other}
use Rattle.amqp_core.specs.Stream.EventRefView.{event_ref_view}
use Rattle.amqp_handle.specs.declared.gathering.Gathered.{Gathered}
use Rattle.amqp_handle.specs.declared.gathering.Gathered.TheVariants as gathered
use Rattle.amqp_handle.specs.declared.gathering.Gathering.{Gathering}
use Rattle.amqp_handle.specs.declared.gathering.Parts.{Parts}

-- the contents that stand aside, by their channels
abbrev pub Aside : Type 0
Aside = HashMap ℕ Parts (BuildHasherDefault FoldHasher)

-- the content at hand is the channel's
abbrev pub is_at_hand : (channel : ℕ) → Option ℕ → Bool
is_at_hand channel None = false
is_at_hand channel (Some number) = nat_eq number channel

-- what has come of the content on a channel, if one is coming there
abbrev pub coming : Gathering → (channel : ℕ) → Option Parts
coming gathering channel =
    cond (is_at_hand channel gathering.current) (Some gathering.at_hand) (get nat_eq gathering.aside channel)

-- the octets of that
abbrev pub method_in : Option Parts → List ℕ
method_in None = []
method_in (Some parts) = parts.method.items

abbrev pub header_in : Option Parts → List ℕ
header_in None = []
header_in (Some parts) = parts.header.items

abbrev pub body_in : Option Parts → List ℕ
body_in None = []
body_in (Some parts) = parts.body.items

-- how many octets its method and its header have, as far as that can be counted
abbrev pub more : ℕ → ℕ → ℕ
more octets count = min (octets + count) 18446744073709551615

abbrev pub head_length : Parts → ℕ
head_length parts = more (length parts.method.items) (length parts.header.items)

abbrev pub head_in : Option Parts → ℕ
head_in None = 0
head_in (Some parts) = head_length parts

-- how many octets are kept of contents that aren't whole: of methods and headers, and of bodies
pub record Counts : Type 0 where
  pub heads : ℕ
  pub bodies : ℕ

abbrev pub counts : Gathering → Counts
counts gathering = record { heads = gathering.heads; bodies = gathering.bodies }

-- less those of a content
abbrev pub without : Gathering → Option Parts → Counts
without gathering parts =
    record { heads = gathering.heads - head_in parts; bodies = gathering.bodies - length (body_in parts) }

-- ---- contents that stand aside

-- the channel's stands there, and those of others as before
pub record IsKeptAside (old : Aside) (channel : ℕ) (parts : Parts) (new : Aside) : Type 0 where
  pub here : get nat_eq new channel ≡ Some parts
  pub others : (other : ℕ) → other ≢ channel → get nat_eq new other ≡ get nat_eq old other

-- the channel's is taken from there, if it has one
pub record IsTakenAside (old : Aside) (channel : ℕ) (taken : Option Parts) (new : Aside) : Type 0 where
  pub taken_is : taken ≡ get nat_eq old channel
  pub here : get nat_eq new channel ≡ None
  pub others : (other : ℕ) → other ≢ channel → get nat_eq new other ≡ get nat_eq old other

-- none is at hand: each stands aside
pub record IsAside (old new : Gathering) : Type 0 where
  pub none : new.current ≡ None
  pub same : (channel : ℕ) → coming new channel ≡ coming old channel
  pub places : new.places ≡ old.places
  pub same_counts : counts new ≡ counts old
  pub mark : new.is_lost ≡ old.is_lost

-- the channel's is at hand, and nothing else changes
pub record IsAtHand (old : Gathering) (channel : ℕ) (new : Gathering) : Type 0 where
  pub here : new.current ≡ Some channel
  pub method : new.at_hand.method.items ≡ method_in (coming old channel)
  pub header : new.at_hand.header.items ≡ header_in (coming old channel)
  pub body : new.at_hand.body.items ≡ body_in (coming old channel)
  pub others : (other : ℕ) → other ≢ channel → coming new other ≡ coming old other
  pub places : new.places ≡ old.places
  pub same_counts : counts new ≡ counts old
  pub mark : new.is_lost ≡ old.is_lost

-- ---- the frames of a content

-- these are the octets of the content on the channel, which is at hand; those of others, the places and the mark stay
pub record Comes (old : Gathering) (channel : ℕ) (method_octets header_octets body : List ℕ)
    (kept : Counts) (new : Gathering) : Type 0 where
  pub here : new.current ≡ Some channel
  pub method : new.at_hand.method.items ≡ method_octets
  pub header : new.at_hand.header.items ≡ header_octets
  pub body_is : new.at_hand.body.items ≡ body
  pub others : (other : ℕ) → other ≢ channel → coming new other ≡ coming old other
  pub places : new.places ≡ old.places
  pub counted : counts new ≡ kept
  pub mark : new.is_lost ≡ old.is_lost

-- a method with this payload begins one, and what has come of one before is let go
abbrev pub Begun : (old : Gathering) → (channel : ℕ) → (payload : List ℕ) → (new : Gathering) → Type 0
Begun old channel payload new =
    Comes old channel payload [] [] (record (without old (coming old channel)) {
      heads = more (old.heads - head_in (coming old channel)) (length payload);
    }) new

-- its header has this payload
abbrev pub Headed : (old : Gathering) → (channel : ℕ) → (payload : List ℕ) → (new : Gathering) → Type 0
Headed old channel payload new =
    Comes old channel (method_in (coming old channel)) payload (body_in (coming old channel)) (record (counts old) {
      heads = more (old.heads - length (header_in (coming old channel))) (length payload);
    }) new

-- one more part of its body has come
abbrev pub Added : (old : Gathering) → (channel : ℕ) → (part : List ℕ) → (new : Gathering) → Type 0
Added old channel part new =
    Comes old channel (method_in (coming old channel)) (header_in (coming old channel))
    (body_in (coming old channel) ++ part) (record (counts old) { bodies = more old.bodies (length part) }) new

-- ---- the places

-- those before this one stay
abbrev pub StaysBefore : (place : ℕ) → (old new : List Parts) → Type 0
StaysBefore place old new =
    (at : ℕ) (there : Parts) → at < place → slice_get old at ≡ Some there → slice_get new at ≡ Some there

-- this one is there, and nothing but places changes
pub record MakesPlaces (old : Gathering) (place : ℕ) (new : Gathering) : Type 0 where
  pub within : place < length new.places.items
  pub rest : new ≡ record old { places = new.places }

-- the content at hand is no longer coming
pub record IsAway (old new : Gathering) : Type 0 where
  pub none : new.current ≡ None
  pub aside : new.aside ≡ old.aside
  pub counted : counts new ≡ without old (Some old.at_hand)
  pub mark : new.is_lost ≡ old.is_lost

-- it has the place
pub record PutsAway (old : Gathering) (place : ℕ) (new : Gathering) : Type 0 where
  pub there : slice_get new.places.items place ≡ Some old.at_hand
  pub away : IsAway old new

-- the octets that came of a body, or those that it has beside them, where none came
abbrev pub joined : (came : List ℕ) → (last : List ℕ) → List ℕ
joined [] last = last
joined (octet ∷ came) last = octet ∷ came

-- The last part of a body comes. What came of the content on the channel has the place, and its body is what came
-- there, or this last part.
pub record AddsLast (old : Gathering) (place channel : ℕ) (part last : List ℕ) (new : Gathering) : Type 0 where
  pub between : Gathering
  pub here : IsAtHand old channel between
  pub there : Parts
  pub found : slice_get new.places.items place ≡ Some there
  pub method : there.method ≡ between.at_hand.method
  pub header_is : there.header ≡ between.at_hand.header
  pub body : joined there.body.items last ≡ between.at_hand.body.items ++ part
  pub away : IsAway between new

-- ---- what ends

-- what has come on a channel is let go
pub record LetsGo (old : Gathering) (channel : ℕ) (new : Gathering) : Type 0 where
  pub none : coming new channel ≡ None
  pub others : (other : ℕ) → other ≢ channel → coming new other ≡ coming old other
  pub counted : counts new ≡ without old (coming old channel)
  pub places : new.places ≡ old.places
  pub mark : new.is_lost ≡ old.is_lost

-- all that has come is
pub record LetsAllGo (old new : Gathering) : Type 0 where
  pub none : (channel : ℕ) → coming new channel ≡ None
  pub counted : counts new ≡ record { heads = 0; bodies = 0 }
  pub places : new.places ≡ old.places
  pub mark : new.is_lost ≡ old.is_lost

-- the contents that an event ends are let go
abbrev pub Ends : events.Event → (old new : Gathering) → Type 0
Ends (events.ChannelClosed channel reason) old new = LetsGo old channel new
Ends (events.Discarded channel) old new = LetsGo old channel new
Ends (events.ConnectionClosed reason) old new = LetsAllGo old new
Ends event old new = new ≡ old

abbrev pub EndsWith : LentEvent → (old new : Gathering) → Type 0
EndsWith (Other event) old new = Ends event old new
EndsWith event old new = new ≡ old

-- ---- what is told

-- nothing, an event as the end lends it, or a content that is whole
pub data Told : Type 0 where
  Nothing : Told
  AsLent : LentEvent → Told
  Whole : (channel : ℕ) → (method_octets header_octets body : List ℕ) → Told

-- of an event, with what has the place
abbrev pub told_at : Gathered → Option Parts → Told
told_at gathered.Nothing there = Nothing
told_at (gathered.Event event) there = AsLent (event_ref_view event)
told_at (gathered.Whole channel last) there =
    Whole channel (method_in there) (header_in there) (joined (body_in there) last.now)

-- a content has the place
abbrev pub IsThere : Gathered → Option Parts → Type 0
IsThere gathered.Nothing there = Unit {0}
IsThere (gathered.Event event) there = Unit {0}
IsThere (gathered.Whole channel last) None = ⊥
IsThere (gathered.Whole channel last) (Some parts) = Unit {0}

-- The content on the channel is whole with this last part: it is told, with its parts one after the other, and is no
-- longer coming.
pub record Finishes (old : Gathering) (channel : ℕ) (last : List ℕ) (told : Told) (new : Gathering) : Type 0 where
  pub told_is :
      told ≡ Whole channel old.at_hand.method.items old.at_hand.header.items (old.at_hand.body.items ++ last)
  pub away : IsAway old new

-- it is, or nothing is told
abbrev pub FinishesIf : (whole : Bool) → (old : Gathering) → (channel : ℕ) → (told : Told) → (new : Gathering) → Type 0
FinishesIf true old channel told new = Finishes old channel [] told new
FinishesIf false old channel told new = (told ≡ Nothing) × (new ≡ old)

-- a part of a body comes, and the content is whole with it or isn't
abbrev pub AddsIf : (whole : Bool) → (old : Gathering) → (channel : ℕ) → (part : List ℕ) → (told : Told)
    → (new : Gathering) → Type 0
AddsIf true old channel part told new =
    (between : Gathering) × IsAtHand old channel between × Finishes between channel part told new
AddsIf false old channel part told new = (told ≡ Nothing) × Added old channel part new

-- A content is told once it is whole, with the payloads of its method and of its header as they came, and with the
-- parts of its body one after the other. Any other event is told as it is, and what it ends is let go.
abbrev pub Tells : LentEvent → (old : Gathering) → Told → (new : Gathering) → Type 0
Tells (WithoutContent channel method) old told new = (told ≡ AsLent (WithoutContent channel method)) × (new ≡ old)
Tells (Begins channel method) old told new =
    (told ≡ Nothing) × (payload : List ℕ) × EncodesMethod method payload × Begun old channel payload new
Tells (Heads channel size properties whole) old told new =
    (payload : List ℕ) × EncodesHeader (header size properties) payload × (between : Gathering)
    × Headed old channel payload between × FinishesIf whole between channel told new
Tells (Part channel octets whole) old told new = AddsIf whole old channel octets told new
Tells (Other event) old told new = (told ≡ AsLent (Other event)) × Ends event old new

-- nothing is told where there is no event
abbrev pub TellsMaybe : Option LentEvent → (old : Gathering) → Told → (new : Gathering) → Type 0
TellsMaybe None old told new = (told ≡ Nothing) × (new ≡ old)
TellsMaybe (Some event) old told new = Tells event old told new

-- this is told, with a content that is whole at the place
abbrev pub Gathers : Option LentEvent → (old : Gathering) → (place : ℕ) → Gathered → (new : Gathering) → Type 0
Gathers event old place told new = TellsMaybe event old (told_at told (slice_get new.places.items place)) new

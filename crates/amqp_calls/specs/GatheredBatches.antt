-- What a batch of feeds of an end behind a handle does that gathers contents. Read before: what one feed of an end does
-- (`Lends` of `amqp_core`), and what is told of its events (`Gathered` of `amqp_handle`).
use Rattle.std.specs.Global.{Global}
use Rattle.std.specs.Prelude.{◌≡◌, ◌≢◌, ◌+◌, ◌<◌, ◌≤◌, ◌⊎◌, ◌&&◌, cond, nat_eq, Bool, true, false, ℕ, List, [], ◌∷◌}
use Rattle.std.specs.Prelude.{◌++◌, Box, length, take, drop, Option, Some, None, Result, Ok, Err, slice_get, slice_set}
use Rattle.amqp_model.specs.Lent.Alike.{LentEvent}
use Rattle.amqp_core.specs.Stream.Lending.{LentSeen}
use Rattle.amqp_core.specs.Stream.Lends.{Lends}
use Rattle.amqp_core.specs.Stream.StepView.{came_lent, step_seen}
use Rattle.amqp_core.specs.Stream.View.{given_in}
use Rattle.amqp_core.specs.declared.faults.CoreFault.{CoreFault}
use Rattle.amqp_core.specs.declared.roles.Role.{Ghosts}
use Rattle.amqp_core.specs.declared.step.Step.{Step}
use Rattle.amqp_core.specs.declared.stream.StreamEnd.{StreamEnd}
use Rattle.amqp_core.specs.Stream.EventRefView.{event_ref_view}
use Rattle.amqp_handle.specs.Gathered.{joined, Gathers, IsThere, StaysBefore, TellsMaybe, Told, Nothing, AsLent, Whole}
use Rattle.amqp_handle.specs.declared.gathering.Gathered.{Gathered}
use Rattle.amqp_handle.specs.declared.gathering.Gathered.TheVariants as gathered
use Rattle.amqp_handle.specs.declared.gathering.Gathering.{Gathering}
use Rattle.amqp_handle.specs.declared.gathering.OutOfMemory.{OutOfMemory}
use Rattle.amqp_handle.specs.declared.gathering.Parts.{Parts}
use Rattle.amqp_handle.specs.declared.kept.Kept.{Kept}
use Rattle.amqp_calls.specs.EndNumbers.{core_status}
use Rattle.amqp_calls.specs.Feeding.{TellsCode}
use Rattle.amqp_calls.specs.LentEvents.{TellsEvent}
use Rattle.amqp_calls.specs.declared.ends.batching.EventPlace.{EventPlace}
use Rattle.amqp_calls.specs.declared.ends.events.SeenEvent.{SeenEvent}
use Rattle.amqp_calls.specs.declared.ends.feeding.FedEnd.{FedEnd}

-- ---- what is told

-- what is told of a feed, and how many octets of the piece were taken up to its end
pub record Fed : Type 0 where
  pub told : Told
  pub taken : ℕ

abbrev pub is_told : Told → Bool
is_told Nothing = false
is_told (AsLent event) = true
is_told (Whole channel method header body) = true

-- the feeds of which something is told, in their order
abbrev pub told_in : List Fed → List Fed
told_in [] = []
told_in (fed ∷ feds) = cond (is_told fed.told) (fed ∷ told_in feds) (told_in feds)

-- it is shown: an event as the end lends it, a content with its payloads and its body
abbrev pub Shows : Told → SeenEvent → Type 0
Shows Nothing out = ⊥
Shows (AsLent event) out = TellsEvent event out
Shows (Whole channel method header body) out =
    (out.kind ≡ 3) × (out.holds ≡ true) × (out.channel ≡ channel) × (out.method.now ≡ method)
    × (out.header.now ≡ header) × (out.body.now ≡ body)

abbrev pub ShowsFed : Fed → EventPlace → Type 0
ShowsFed fed place = Shows fed.told place.seen × (place.taken ≡ fed.taken)

-- each in its place
abbrev pub ShowsEach : List Fed → List EventPlace → Type 0
ShowsEach [] [] = Unit {0}
ShowsEach [] (place ∷ places) = ⊥
ShowsEach (fed ∷ feds) [] = ⊥
ShowsEach (fed ∷ feds) (place ∷ places) = ShowsFed fed place × ShowsEach feds places

-- ---- before all is fed

-- a content that is whole
abbrev pub is_whole : SeenEvent → Bool
is_whole out = nat_eq out.kind 3 && out.holds

-- Of a content that is whole the last part alone is shown. What came before it has a place of the gathering.
abbrev pub HalfShows : Told → Option Parts → SeenEvent → Type 0
HalfShows Nothing there out = ⊥
HalfShows (AsLent event) there out = TellsEvent event out
HalfShows (Whole channel method header body) None out = ⊥
HalfShows (Whole channel method header body) (Some parts) out =
    (out.kind ≡ 3) × (out.holds ≡ true) × (out.channel ≡ channel) × (parts.method.items ≡ method)
    × (parts.header.items ≡ header) × (joined parts.body.items out.body.now ≡ body)

abbrev pub HalfShowsFed : Fed → Option Parts → EventPlace → Type 0
HalfShowsFed fed there place = HalfShows fed.told there place.seen × (place.taken ≡ fed.taken)

-- each in its place, with the gathering's place of the same number
abbrev pub HalfShowsEach : (parts : List Parts) → (at : ℕ) → List Fed → List EventPlace → Type 0
HalfShowsEach parts at [] [] = Unit {0}
HalfShowsEach parts at [] (place ∷ places) = ⊥
HalfShowsEach parts at (fed ∷ feds) [] = ⊥
HalfShowsEach parts at (fed ∷ feds) (place ∷ places) =
    HalfShowsFed fed (slice_get parts at) place × HalfShowsEach parts (at + 1) feds places

-- what is answered of an event, as it is shown first
abbrev pub ShowsAt : Gathered → (taken : ℕ) → (old : EventPlace) → Bool → (new : EventPlace) → Type 0
ShowsAt gathered.Nothing taken old shown new = (shown ≡ false) × (new ≡ old)
ShowsAt (gathered.Event event) taken old shown new =
    (shown ≡ true) × TellsEvent (event_ref_view event) new.seen × (new.taken ≡ taken)
ShowsAt (gathered.Whole channel last) taken old shown new =
    (shown ≡ true) × (new.seen.kind ≡ 3) × (new.seen.holds ≡ true) × (new.seen.channel ≡ channel)
    × (new.seen.body.now ≡ last.now) × (new.taken ≡ taken)

-- what came before the last part is shown
pub record ShowsWhole (parts : Parts) (old new : SeenEvent) : Type 0 where
  pub kind : new.kind ≡ old.kind
  pub holds : new.holds ≡ old.holds
  pub channel : new.channel ≡ old.channel
  pub method : new.method.now ≡ parts.method.items
  pub header : new.header.now ≡ parts.header.items
  pub body : new.body.now ≡ joined parts.body.items old.body.now

abbrev pub ShowsIf : (whole : Bool) → Parts → (old new : SeenEvent) → Type 0
ShowsIf true parts old new = ShowsWhole parts old new
ShowsIf false parts old new = new ≡ old

-- of a content that is whole; any other event stays
abbrev pub Completes : Parts → (old new : SeenEvent) → Type 0
Completes parts old new = ShowsIf (is_whole old) parts old new

-- with what has the gathering's place, if that place is there
abbrev pub CompletesAt : Option Parts → (old new : EventPlace) → Type 0
CompletesAt None old new = new ≡ old
CompletesAt (Some parts) old new = Completes parts old.seen new.seen × (new.taken ≡ old.taken)

abbrev pub CompletesAll : (parts : List Parts) → (at : ℕ) → (old new : List EventPlace) → Type 0
CompletesAll parts at [] [] = Unit {0}
CompletesAll parts at [] (after ∷ new) = ⊥
CompletesAll parts at (before ∷ old) [] = ⊥
CompletesAll parts at (before ∷ old) (after ∷ new) =
    CompletesAt (slice_get parts at) before after × CompletesAll parts (at + 1) old new

-- in the first places; the others stay
pub record CompletesEach (parts : List Parts) (count : ℕ) (old new : List EventPlace) : Type 0 where
  pub each : CompletesAll parts 0 (take count old) (take count new)
  pub as_many : length new ≡ length old
  pub others : drop count new ≡ drop count old

-- ---- what is fed

-- What a feed of these octets tells is gathered. It leaves the end so, what is gathered of it, and these octets. Up to
-- there so many of all octets of the piece were taken.
pub record GathersAt {R H : Type 0} {G : Ghosts R H} (all : ℕ) (old : StreamEnd R H G) (before : Gathering)
    (octets : List ℕ) (fed : Fed) (new : StreamEnd R H G) (after : Gathering) (rest : List ℕ) : Type 0 where
  pub event : Option LentEvent
  pub taken : ℕ
  pub lends : Lends old octets (Ok (record { octets = taken; event = event })) new
  pub tells : TellsMaybe event before fed.told after
  pub rest_is : rest ≡ drop taken octets
  pub taken_is : fed.taken + length rest ≡ all

-- one feed after the other, each of the octets that those before it left
abbrev pub GathersEach : {R H : Type 0} {G : Ghosts R H} → (all : ℕ) → StreamEnd R H G → Gathering → List ℕ → List Fed
    → (new : StreamEnd R H G) → (after : Gathering) → (rest : List ℕ) → Type 0
GathersEach all old before octets [] new after rest = (new ≡ old) × (after ≡ before) × (rest ≡ octets)
GathersEach {R} {H} {G} all old before octets (fed ∷ feds) new after rest =
    (next : StreamEnd R H G) × (between : Gathering) × (left : List ℕ)
    × GathersAt all old before octets fed next between left × GathersEach all next between left feds new after rest

-- the next place has what is told of an event, if something is, with a content in the gathering's place of that number
pub record GathersNext (before : Gathering) (event : Option LentEvent) (taken : ℕ) (places : List EventPlace)
    (shown : ℕ) (after : Gathering) (now : List EventPlace) (count : ℕ) : Type 0 where
  pub told : Gathered
  pub tells : Gathers event before shown told after
  pub content : IsThere told (slice_get after.places.items shown)
  pub is_shown : Bool
  pub there : EventPlace
  pub found : slice_get places shown ≡ Some there
  pub place : EventPlace
  pub shows : ShowsAt told taken there is_shown place
  pub now_is : now ≡ slice_set places shown place
  pub count_is : count ≡ cond is_shown (shown + 1) shown

-- or memory is refused, and nothing is told from there on
pub record Refuses (places : List EventPlace) (shown : ℕ) (after : Gathering) (now : List EventPlace) (count : ℕ) :
    Type 0 where
  pub lost : after.is_lost ≡ true
  pub same : now ≡ places
  pub count_is : count ≡ shown

abbrev pub GathersStep : (before : Gathering) → (event : LentEvent) → (taken : ℕ) → (places : List EventPlace)
    → (shown : ℕ) → Result Unit OutOfMemory → (after : Gathering) → (now : List EventPlace) → (count : ℕ) → Type 0
GathersStep before event taken places shown (Ok done) after now count =
    GathersNext before (Some event) taken places shown after now count
GathersStep before event taken places shown (Err fault) after now count = Refuses places shown after now count

abbrev pub GathersLast : (before : Gathering) → (event : Option LentEvent) → (taken : ℕ) → (places : List EventPlace)
    → (shown : ℕ) → (status : ℕ) → (after : Gathering) → (now : List EventPlace) → (count : ℕ) → Type 0
GathersLast before event taken places shown status after now count =
    ((status ≡ 0) × GathersNext before event taken places shown after now count)
    ⊎ ((status ≡ 403) × Refuses places shown after now count)

-- ---- the frames that lie in a piece

-- the octets show a fault, or memory is refused for what came of them
abbrev pub GathersFault : {R H : Type 0} {G : Ghosts R H} → (all : ℕ) → (left : StreamEnd R H G) → (kept : Gathering)
    → (rest : List ℕ) → (status : ℕ) → FedEnd → (new : StreamEnd R H G) → (after : Gathering) → Type 0
GathersFault all left kept rest status fed new after =
    ((fault : CoreFault) × Lends left rest (Err fault) new × (status ≡ core_status fault) × TellsCode fault fed.code
    × (fed.taken + length rest ≡ all) × (after ≡ kept))
    ⊎ ((seen : LentSeen) × Lends left rest (Ok seen) new × (status ≡ 403) × (after.is_lost ≡ true)
    × (fed.taken + length (drop seen.octets rest) ≡ all))

-- Why no more is fed to an end that those before left so, with these octets: what is answered then, and what the end
-- and the gathering are. No octet is left after a feed, or no place; or the end took a step, whose event, if it has
-- one, doesn't lie in the piece; or something went wrong.
abbrev pub StopsGathering : {R H : Type 0} {G : Ghosts R H} → (all : ℕ) → (left : StreamEnd R H G) → (kept : Gathering)
    → (rest : List ℕ) → List Fed → (count room : ℕ) → Result (Option Step) ℕ → FedEnd → (new : StreamEnd R H G)
    → (after : Gathering) → Type 0
StopsGathering all left kept rest feds count room (Ok None) fed new after =
    (((rest ≡ []) × (feds ≢ [])) ⊎ (count ≡ room)) × (fed.taken + length rest ≡ all) × (new ≡ left) × (after ≡ kept)
StopsGathering all left kept rest feds count room (Ok (Some step)) fed new after =
    (count < room) × Lends left rest (step_seen (Ok step) (given_in new)) new × (came_lent step.came None ≡ None)
    × (fed.taken + length (drop step.octets rest) ≡ all) × (after ≡ kept)
StopsGathering all left kept rest feds count room (Err status) fed new after =
    GathersFault all left kept rest status fed new after

-- The first places have what is told of the feeds, with what has the gathering's places; the other places stay.
pub record Placed {R H : Type 0} {G : Ghosts R H} (all : ℕ) (old : StreamEnd R H G) (before : Gathering)
    (piece : List ℕ) (places : List EventPlace) (feds : List Fed) (left : StreamEnd R H G) (kept : Gathering)
    (rest : List ℕ) (parts : List Parts) (count : ℕ) (now : List EventPlace) : Type 0 where
  pub within : count ≤ length places
  pub as_many : length now ≡ length places
  pub others : drop count now ≡ drop count places
  pub each : GathersEach all old before piece feds left kept rest
  pub shows : HalfShowsEach parts 0 (told_in feds) (take count now)

pub record GathersFrames {R H : Type 0} {G : Ghosts R H} (old : StreamEnd R H G) (before : Gathering)
    (piece : List ℕ) (places : List EventPlace) (answer : Result (Option Step) ℕ) (fed : FedEnd) (count : ℕ)
    (now : List EventPlace) (new : StreamEnd R H G) (after : Gathering) : Type 0 where
  -- what these left, of the end, of what is gathered, and of the piece
  pub left : StreamEnd R H G
  pub kept : Gathering
  pub rest : List ℕ
  pub feds : List Fed
  pub placed : Placed (length piece) old before piece places feds left kept rest after.places.items count now
  pub stops : StopsGathering (length piece) left kept rest feds count (length places) answer fed new after

-- each content is shown whole
abbrev pub Finishes : Option (Box Gathering Global) → (count : ℕ) → (old new : List EventPlace) → Type 0
Finishes None count old new = Unit {0}
Finishes (Some gathering) count old new = CompletesEach gathering.value.places.items count old new

-- What a step tells whose event doesn't lie in the piece has the next place, and each content is shown whole. Of what a
-- handle holds the gathering alone changes.
pub record GathersRest {R H : Type 0} {G : Ghosts R H} (old : Kept (StreamEnd R H G)) (step : Step) (taken : ℕ)
    (places : List EventPlace) (shown status count : ℕ) (now : List EventPlace) (new : Kept (StreamEnd R H G)) :
    Type 0 where
  pub before : Box Gathering Global
  pub held : old.gathering ≡ Some before
  pub after : Box Gathering Global
  pub left : new ≡ record old { gathering = Some after }
  pub filled : List EventPlace
  pub last :
      GathersLast before.value (came_lent step.came (given_in old.end.value)) taken places shown status after.value
      filled count
  pub stays : StaysBefore shown before.value.places.items after.value.places.items
  pub completes : CompletesEach after.value.places.items count filled now

-- ---- the batch

-- Why the batch is over, with the feed of the last frame, if that doesn't lie in the piece.
pub data BatchStops {R H : Type 0} {G : Ghosts R H} (old : StreamEnd R H G) (before : Gathering) (all : ℕ)
    (left : StreamEnd R H G) (kept : Gathering) (rest : List ℕ) (feds last : List Fed) (count room status : ℕ)
    (fed : FedEnd) (new : StreamEnd R H G) (after : Gathering) : Type 0 where
  -- no octet is left after a feed, or no place
  over :
      status ≡ 0 → last ≡ [] → ((rest ≡ []) × (feds ≢ [])) ⊎ (count ≡ room) → fed.taken + length rest ≡ all
      → new ≡ left → after ≡ kept
      → BatchStops old before all left kept rest feds last count room status fed new after
  -- a frame doesn't lie in the piece, or none was finished
  apart :
      status ≡ 0 → (step : Step) → came_lent step.came None ≡ None
      → Lends left rest (step_seen (Ok step) (given_in new)) new → (told : Told)
      → last ≡ record { told = told; taken = fed.taken } ∷ []
      → TellsMaybe (came_lent step.came (given_in new)) kept told after
      → fed.taken + length (drop step.octets rest) ≡ all
      → BatchStops old before all left kept rest feds last count room status fed new after
  -- something went wrong
  fails :
      last ≡ [] → GathersFault all left kept rest status fed new after
      → BatchStops old before all left kept rest feds last count room status fed new after
  -- memory was refused for what came before: the end isn't fed
  lost :
      status ≡ 404 → before.is_lost ≡ true → feds ≡ [] → last ≡ [] → fed.taken ≡ 0 → new ≡ old → after ≡ before
      → BatchStops old before all left kept rest feds last count room status fed new after

-- What is told of a piece is shown, one feed after the other: each event as the end lends it, and each content once it
-- is whole. The end is left so, and so is what is gathered of it.
pub record GathersBatch {R H : Type 0} {G : Ghosts R H} (old : StreamEnd R H G) (before : Gathering) (piece : List ℕ)
    (places : List EventPlace) (status : ℕ) (fed : FedEnd) (count : ℕ) (now : List EventPlace)
    (new : StreamEnd R H G) (after : Gathering) : Type 0 where
  -- what the frames in the piece left, of the end, of what is gathered, and of the piece
  pub left : StreamEnd R H G
  pub kept : Gathering
  pub rest : List ℕ
  pub feds : List Fed
  pub last : List Fed
  pub each : GathersEach (length piece) old before piece feds left kept rest
  pub stops : BatchStops old before (length piece) left kept rest feds last count (length places) status fed new after
  -- after memory was refused nothing is told
  pub after_loss : before.is_lost ≡ true → (status ≡ 404) × (count ≡ 0)
  pub shows : ShowsEach (told_in (feds ++ last)) (take count now)
  pub as_many : length now ≡ length places
  pub others : drop count now ≡ drop count places

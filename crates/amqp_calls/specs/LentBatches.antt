-- What a batch of feeds of an end behind a handle does whose events lend. Read before: what one such feed does
-- (`LentEvents`).
use Rattle.std.specs.Prelude.{◌≡◌, ◌+◌, ◌<◌, ℕ, List, [], ◌∷◌, length, take, drop, Option, Some, None, Result, Ok, Err}
use Rattle.std.specs.Prelude.{slice_set, ◌⊎◌}
use Rattle.amqp_frame.specs.Frame.{Frame}
use Rattle.amqp_model.specs.Lent.Alike.{LentEvent}
use Rattle.amqp_core.specs.Stream.Lends.{Lends}
use Rattle.amqp_core.specs.Stream.StepView.{came_lent, step_seen}
use Rattle.amqp_core.specs.Stream.View.{given_in}
use Rattle.amqp_core.specs.declared.faults.CoreFault.{CoreFault}
use Rattle.amqp_core.specs.declared.roles.Role.{Ghosts}
use Rattle.amqp_core.specs.declared.step.Step.{Step}
use Rattle.amqp_core.specs.declared.stream.StreamEnd.{StreamEnd}
use Rattle.amqp_handle.specs.declared.kept.Kept.{Kept}
use Rattle.amqp_calls.specs.EndNumbers.{core_status}
use Rattle.amqp_calls.specs.Feeding.{TellsCode}
use Rattle.amqp_calls.specs.LentEvents.{TellsEvent}
use Rattle.amqp_calls.specs.declared.ends.batching.EventPlace.{EventPlace}
use Rattle.amqp_calls.specs.declared.ends.feeding.FedEnd.{FedEnd}
use Rattle.amqp_calls.specs.declared.ends.lending.Lent.{Lent}

-- The event in a place is what a feed of these octets tells, which leaves the end so, and these octets. Up to there so
-- many of all octets of the piece were taken.
pub record LendsAt {R H : Type 0} {G : Ghosts R H} (all : ℕ) (old : StreamEnd R H G) (octets : List ℕ)
    (place : EventPlace) (new : StreamEnd R H G) (rest : List ℕ) : Type 0 where
  pub event : LentEvent
  pub taken : ℕ
  pub lends : Lends old octets (Ok (record { octets = taken; event = Some event })) new
  pub rest_is : rest ≡ drop taken octets
  pub shown : TellsEvent event place.seen
  pub taken_is : place.taken + length rest ≡ all

-- The events in these places are what one feed after the other tells, each of the octets that those before it left. In
-- the end they leave the end so, and these octets.
abbrev pub LendsEach : {R H : Type 0} {G : Ghosts R H} → (all : ℕ) → StreamEnd R H G → List ℕ → List EventPlace
    → (new : StreamEnd R H G) → (rest : List ℕ) → Type 0
LendsEach all old octets [] new rest = (new ≡ old) × (rest ≡ octets)
LendsEach {R} {H} {G} all old octets (place ∷ places) new rest =
    (next : StreamEnd R H G) × (left : List ℕ) × LendsAt all old octets place next left
    × LendsEach all next left places new rest

-- ---- the frames that lie in a piece

-- Why no more events are shown, by an end that those before left so, with these octets: what is answered then, and what
-- the end is. No octet is left, or no place; or the end took a step, whose event, if it has one, doesn't lie in the
-- piece; or the octets show a fault.
abbrev pub StopsWith : {R H : Type 0} {G : Ghosts R H} → (all : ℕ) → (left : StreamEnd R H G) → (rest : List ℕ)
    → (count room : ℕ) → Result (Option Step) CoreFault → (taken : ℕ) → (new : StreamEnd R H G) → Type 0
StopsWith all left rest count room (Ok None) taken new =
    ((rest ≡ []) ⊎ (count ≡ room)) × (taken + length rest ≡ all) × (new ≡ left)
StopsWith all left rest count room (Ok (Some step)) taken new =
    (count < room) × Lends left rest (step_seen (Ok step) (given_in new)) new × (came_lent step.came None ≡ None)
    × (taken + length (drop step.octets rest) ≡ all)
StopsWith all left rest count room (Err fault) taken new =
    Lends left rest (Err fault) new × (taken + length rest ≡ all)

-- So many events of the frames in a piece stand in the first places, and the other places stay. Then this is answered.
pub record LendsFrames {R H : Type 0} {G : Ghosts R H} (old : StreamEnd R H G) (piece : List ℕ)
    (places : List EventPlace) (answer : Result (Option Step) CoreFault) (taken count : ℕ) (now : List EventPlace)
    (new : StreamEnd R H G) : Type 0 where
  -- what these left, of the end and of the piece
  pub left : StreamEnd R H G
  pub rest : List ℕ
  pub each : LendsEach (length piece) old piece (take count now) left rest
  pub as_many : length now ≡ length places
  pub others : drop count now ≡ drop count places
  pub stops : StopsWith (length piece) left rest count (length places) answer taken new

-- the event of a frame that doesn't lie in the piece, if there is one, has the next place
abbrev pub ShowsLast : Option LentEvent → (shown taken : ℕ) → (places : List EventPlace) → (count : ℕ)
    → (now : List EventPlace) → Type 0
ShowsLast None shown taken places count now = (count ≡ shown) × (now ≡ places)
ShowsLast (Some event) shown taken places count now =
    (count ≡ shown + 1) × (place : EventPlace) × (now ≡ slice_set places shown place)
    × TellsEvent event place.seen × (place.taken ≡ taken)

-- ---- what comes of the end

-- the step that is answered
abbrev pub step_of : {R H : Type 0} {G : Ghosts R H} → Result (Option (Lent R H G)) CoreFault
    → Result (Option Step) CoreFault
step_of (Ok None) = Ok None
step_of (Ok (Some lent)) = Ok (Some lent.step)
step_of (Err fault) = Err fault

-- the event is lent by this end
abbrev pub IsLentBy : {R H : Type 0} {G : Ghosts R H} → Result (Option (Lent R H G)) CoreFault → StreamEnd R H G
    → Type 0
IsLentBy (Ok None) new = Unit {0}
IsLentBy (Ok (Some lent)) new = given_in lent.end.now ≡ given_in new
IsLentBy (Err fault) new = Unit {0}

-- the end is fed with a piece, and this is answered
pub record LendsRest {R H : Type 0} {G : Ghosts R H} (old : StreamEnd R H G) (piece : List ℕ)
    (places : List EventPlace) (answer : Result (Option (Lent R H G)) CoreFault) (taken count : ℕ)
    (now : List EventPlace) (new : StreamEnd R H G) : Type 0 where
  pub frames : LendsFrames old piece places (step_of answer) taken count now new
  pub lent : IsLentBy answer new

-- and the places of what it told stay
pub record RestKept {R H : Type 0} {G : Ghosts R H} (old : Kept (StreamEnd R H G)) (piece : List ℕ)
    (places : List EventPlace) (answer : Result (Option (Lent R H G)) CoreFault) (taken count : ℕ)
    (now : List EventPlace) (new : Kept (StreamEnd R H G)) : Type 0 where
  pub lends : LendsRest old.end.value piece places answer taken count now new.end.value
  pub gathering : new.gathering ≡ old.gathering

pub record RestAnswer {R H : Type 0} {G : Ghosts R H} (old : StreamEnd R H G) (piece : List ℕ)
    (places : List EventPlace) (answer : Result (Option (Lent R H G)) CoreFault) (taken count : ℕ)
    (now : List EventPlace) : Type 0 where
  -- the end that is left
  pub new : StreamEnd R H G
  pub lends : LendsRest old piece places answer taken count now new

-- there is a place for the event of a step
abbrev pub HasRoom : {R H : Type 0} {G : Ghosts R H} → Result (Option (Lent R H G)) CoreFault → (count room : ℕ)
    → Type 0
HasRoom (Ok None) count room = Unit {0}
HasRoom (Ok (Some lent)) count room = count < room
HasRoom (Err fault) count room = Unit {0}

-- what came after the frames in the piece is told, of which there were so many
abbrev pub TellsStop : Result (Option Step) CoreFault → Option Frame → (taken shown : ℕ) → (places : List EventPlace)
    → ℕ → FedEnd → (count : ℕ) → (now : List EventPlace) → Type 0
TellsStop (Ok None) given taken shown places status fed count now =
    (status ≡ 0) × (fed.taken ≡ taken) × (count ≡ shown) × (now ≡ places)
TellsStop (Ok (Some step)) given taken shown places status fed count now =
    (status ≡ 0) × (fed.taken ≡ taken) × ShowsLast (came_lent step.came given) shown taken places count now
TellsStop (Err fault) given taken shown places status fed count now =
    (status ≡ core_status fault) × TellsCode fault fed.code × (fed.taken ≡ taken) × (count ≡ shown) × (now ≡ places)

-- the frame in the buffer of the end that lends its event
abbrev given_by : {R H : Type 0} {G : Ghosts R H} → Result (Option (Lent R H G)) CoreFault → Option Frame
given_by (Ok None) = None
given_by (Ok (Some lent)) = given_in lent.end.now
given_by (Err fault) = None

abbrev pub TellsRest : {R H : Type 0} {G : Ghosts R H} → Result (Option (Lent R H G)) CoreFault → (taken shown : ℕ)
    → (places : List EventPlace) → ℕ → FedEnd → (count : ℕ) → (now : List EventPlace) → Type 0
TellsRest answer taken shown places status fed count now =
    TellsStop (step_of answer) (given_by answer) taken shown places status fed count now

-- ---- the batch

-- The events of a piece are shown, and how many octets of it were taken. The end is left so.
pub record LendsBatch {R H : Type 0} {G : Ghosts R H} (old : StreamEnd R H G) (piece : List ℕ)
    (places : List EventPlace) (status : ℕ) (fed : FedEnd) (count : ℕ) (now : List EventPlace)
    (new : StreamEnd R H G) : Type 0 where
  -- So many octets are taken, and so many events are of frames in the piece; the places once these stand there.
  pub taken : ℕ
  pub shown : ℕ
  pub filled : List EventPlace
  -- what came after these
  pub answer : Result (Option Step) CoreFault
  pub frames : LendsFrames old piece places answer taken shown filled new
  pub told : TellsStop answer (given_in new) taken shown filled status fed count now

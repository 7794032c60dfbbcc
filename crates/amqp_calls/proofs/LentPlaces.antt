-- Events that an end tells one after the other, each in its place.
use Rattle.std.proofs.Common.{◌≡◌, ℕ, ◌+◌, ◌<◌, ◌≤◌, List, [], ◌∷◌, ◌++◌, length, take, drop, slice_set, Option, Some, None, Result, Ok, Err, refl, subst, ◌∙◌, arith}
use Rattle.std.proofs.lemmas.List.{drop-set-lt, length-set, take_more_set}
use Rattle.amqp_core.specs.Stream.EventRefView.{event_ref_view}
use Rattle.amqp_core.specs.Stream.Lends.{Lends}
use Rattle.amqp_core.specs.Stream.StepView.{came_lent, step_seen}
use Rattle.amqp_core.specs.Stream.View.{given_in}
use Rattle.amqp_core.specs.declared.event_ref.EventRef.{EventRef}
use Rattle.amqp_core.specs.declared.faults.CoreFault.{CoreFault}
use Rattle.amqp_core.specs.declared.roles.Role.{Ghosts}
use Rattle.amqp_core.specs.declared.step.Step.{Step}
use Rattle.amqp_core.specs.declared.stream.StreamEnd.{StreamEnd}
use Rattle.amqp_calls.specs.LentBatches.{step_of, HasRoom, IsLentBy, LendsAt, LendsEach, StopsWith, TellsRest, TellsStop}
use Rattle.amqp_calls.specs.LentEvents.{TellsEvent}
use Rattle.amqp_calls.specs.declared.ends.batching.EventPlace.{EventPlace}
use Rattle.amqp_calls.specs.declared.ends.feeding.FedEnd.{FedEnd}
use Rattle.amqp_calls.specs.declared.ends.lending.Lent.{Lent}
use Rattle.amqp_calls.proofs.SplitFrames.{later}

-- one event more
pub lends_one_more : {R H : Type 0} {G : Ghosts R H} (places : List EventPlace) (all : ℕ) (old : StreamEnd R H G) (octets : List ℕ)
    (left : StreamEnd R H G) (rest : List ℕ) (place : EventPlace) (new : StreamEnd R H G) (after : List ℕ)
    → LendsEach all old octets places left rest → LendsAt all left rest place new after
    → LendsEach all old octets (places ++ place ∷ []) new after
lends_one_more [] all old octets left rest place new after (left_is, rest_is) at =
    (new, after, subst (λ end. LendsAt all end octets place new after) left_is (subst (λ r. LendsAt all left r place new after) rest_is at), (refl, refl))
lends_one_more (first ∷ places) all old octets left rest place new after (next, between, at_first, others) at =
    (next, between, at_first, lends_one_more places all next between left rest place new after others at)

-- the event of a step that lies in the piece has this place
pub lends_at : {R H : Type 0} {G : Ghosts R H} (all : ℕ) (old : StreamEnd R H G) (octets : List ℕ) (step : Step) (event : EventRef)
    (place : EventPlace) (new : StreamEnd R H G) → Lends old octets (step_seen (Ok step) (given_in new)) new
    → came_lent step.came (given_in new) ≡ Some (event_ref_view event) → TellsEvent (event_ref_view event) place.seen
    → place.taken + length (drop step.octets octets) ≡ all → LendsAt all old octets place new (drop step.octets octets)
lends_at all old octets step event place new lends is shown taken_is =
    record {
      event = event_ref_view event;
      taken = step.octets;
      lends = subst (λ e. Lends old octets (Ok (record { octets = step.octets; event = e })) new) is lends;
      rest_is = refl;
      shown = shown;
      taken_is = taken_is;
    }

-- these events stand in their places
pub record Filled {R H : Type 0} {G : Ghosts R H} (all : ℕ) (old : StreamEnd R H G) (piece : List ℕ) (places now : List EventPlace) (count : ℕ)
    (left : StreamEnd R H G) (rest : List ℕ) : Type 0 where
  pub within : count ≤ length now
  pub as_many : length now ≡ length places
  pub others : drop count now ≡ drop count places
  pub each : LendsEach all old piece (take count now) left rest

-- with one event more in its place, the other places stay
pub one_filled : {R H : Type 0} {G : Ghosts R H} (all : ℕ) (old : StreamEnd R H G) (piece : List ℕ) (places now : List EventPlace) (count : ℕ)
    (left : StreamEnd R H G) (rest : List ℕ) (place : EventPlace) (new : StreamEnd R H G) (after : List ℕ)
    → Filled all old piece places now count left rest → count < length now → LendsAt all left rest place new after
    → Filled all old piece places (slice_set now count place) (count + 1) new after
one_filled all old piece places now count left rest place new after before room at =
    record {
      within = rw (length-set now count place) (omega (arith, room));
      as_many = length-set now count place ∙ before.as_many;
      others = drop-set-lt (count + 1) now count place (omega arith) ∙ later count now places before.others;
      each = rw (take_more_set now count place room) (lends_one_more (take count now) all old piece left rest place new after before.each at);
    }

-- what is told of a step is told of the event that the end lends
pub told_by : {R H : Type 0} {G : Ghosts R H} (answer : Result (Option (Lent R H G)) CoreFault) (new : StreamEnd R H G) (taken shown : ℕ)
    (places : List EventPlace) (status : ℕ) (fed : FedEnd) (count : ℕ) (now : List EventPlace) → IsLentBy answer new
    → TellsRest answer taken shown places status fed count now → TellsStop (step_of answer) (given_in new) taken shown places status fed count now
told_by (Ok None) new taken shown places status fed count now is tells = tells
told_by (Ok (Some lent)) new taken shown places status fed count now is tells =
    subst (λ given. TellsStop (Ok (Some lent.step)) given taken shown places status fed count now) is tells
told_by (Err fault) new taken shown places status fed count now is tells = tells

-- a step is answered only where there is a place for its event
pub has_room : {R H : Type 0} {G : Ghosts R H} (answer : Result (Option (Lent R H G)) CoreFault) (all : ℕ) (left : StreamEnd R H G) (rest : List ℕ)
    (count room taken : ℕ) (new : StreamEnd R H G) → StopsWith all left rest count room (step_of answer) taken new → HasRoom answer count room
has_room (Ok None) all left rest count room taken new stops = tt
has_room (Ok (Some lent)) all left rest count room taken new stops = stops.0
has_room (Err fault) all left rest count room taken new stops = tt

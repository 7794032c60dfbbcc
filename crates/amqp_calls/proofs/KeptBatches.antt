-- What a handle keeps of an end, as a batch leaves it.
use Rattle.std.proofs.Common.{◌≡◌, ℕ, List, Box, Option, Some, None, false, is_some, refl, sym, subst, ◌∙◌}
use Rattle.std.specs.Global.{Global}
use Rattle.amqp_core.specs.Stream.StepView.{came_lent}
use Rattle.amqp_core.specs.Stream.View.{given_in}
use Rattle.amqp_core.specs.declared.roles.Role.{Ghosts}
use Rattle.amqp_core.specs.declared.step.Step.{Step}
use Rattle.amqp_core.specs.declared.stream.StreamEnd.{StreamEnd}
use Rattle.amqp_handle.specs.Gathered.{StaysBefore}
use Rattle.amqp_handle.specs.declared.gathering.Gathering.{Gathering}
use Rattle.amqp_handle.specs.declared.kept.Kept.{Kept}
use Rattle.amqp_calls.specs.Batches.{BatchKept, BatchLeaves}
use Rattle.amqp_calls.specs.GatheredBatches.{GathersBatch, GathersLast, GathersRest}
use Rattle.amqp_calls.specs.LentBatches.{LendsBatch}
use Rattle.amqp_calls.specs.declared.ends.batching.EventPlace.{EventPlace}
use Rattle.amqp_calls.specs.declared.ends.feeding.FedEnd.{FedEnd}

none_of : {A : Type 0} (value : Option A) → is_some value ≡ false → value ≡ None
none_of None is = refl
none_of (Some there) is = absurd cc

-- of an end that lends
pub lends_kept : {R H : Type 0} {G : Ghosts R H} (old : Kept (StreamEnd R H G)) (piece : List ℕ) (places : List EventPlace) (status : ℕ) (fed : FedEnd)
    (count : ℕ) (now : List EventPlace) (new : Kept (StreamEnd R H G)) → is_some old.gathering ≡ false → new.gathering ≡ old.gathering
    → LendsBatch old.end.value piece places status fed count now new.end.value → BatchKept old piece places status fed count now new
lends_kept old piece places status fed count now new none same batch =
    subst (λ (after : Option (Box Gathering Global)). BatchLeaves old.end.value old.gathering piece places status fed count now new.end.value after) (sym same)
    (subst (λ (before : Option (Box Gathering Global)). BatchLeaves old.end.value before piece places status fed count now new.end.value before) (sym (none_of old.gathering none)) batch)

-- of an end that gathers
pub gathers_kept : {R H : Type 0} {G : Ghosts R H} (old : Kept (StreamEnd R H G)) (before : Box Gathering Global) (piece : List ℕ) (places : List EventPlace) (status : ℕ) (fed : FedEnd)
    (count : ℕ) (now : List EventPlace) (new : Kept (StreamEnd R H G)) (after : Box Gathering Global) → old.gathering ≡ Some before → new.gathering ≡ Some after
    → GathersBatch old.end.value before.value piece places status fed count now new.end.value after.value → BatchKept old piece places status fed count now new
gathers_kept old before piece places status fed count now new after before_is after_is batch =
    subst (λ (left : Option (Box Gathering Global)). BatchLeaves old.end.value old.gathering piece places status fed count now new.end.value left) (sym after_is)
    (subst (λ (held : Option (Box Gathering Global)). BatchLeaves old.end.value held piece places status fed count now new.end.value (Some after)) (sym before_is) batch)

held_is : {A : Type 0} (x y : A) → Some x ≡ Some y → x ≡ y
held_is x y is = cc

-- what the last step did to the gathering that was there
pub rest_of : {R H : Type 0} {G : Ghosts R H} (old : Kept (StreamEnd R H G)) (gathering : Box Gathering Global) (step : Step) (taken : ℕ) (places : List EventPlace) (shown status count : ℕ)
    (now : List EventPlace) (new : Kept (StreamEnd R H G)) → old.gathering ≡ Some gathering → (rest : GathersRest old step taken places shown status count now new)
    → GathersLast gathering.value (came_lent step.came (given_in old.end.value)) taken places shown status rest.after.value rest.filled count
    × StaysBefore shown gathering.value.places.items rest.after.value.places.items
rest_of old gathering step taken places shown status count now new is rest =
    let same = held_is rest.before gathering (sym rest.held ∙ is) in (
      subst (λ (b : Box Gathering Global). GathersLast b.value (came_lent step.came (given_in old.end.value)) taken places shown status rest.after.value rest.filled count) same rest.last,
      subst (λ (b : Box Gathering Global). StaysBefore shown b.value.places.items rest.after.value.places.items) same rest.stays,
    )

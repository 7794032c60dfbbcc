use Rattle.std.proofs.Common.{◌≡◌, ◌+◌, ◌-◌, ℕ, Some, length}
use Rattle.std.specs.Prelude.{slice_get}
use Rattle.amqp_handle.specs.declared.gathering.Parts.{Parts}
use Rattle.amqp_handle.proofs.gathering.Gathering.make_places.Given as goal

abbrev pub invariant-loop-alloc : goal.invariant-loop-alloc
invariant-loop-alloc l =
    (l.self ≡ record l.initial.self { places = l.self.places })
    × ((at : ℕ) (there : Parts) → slice_get l.initial.self.places.items at ≡ Some there → slice_get l.self.places.items at ≡ Some there)

abbrev pub decreases-loop-alloc : goal.decreases-loop-alloc
decreases-loop-alloc l = l.place + 1 - length l.self.places.items

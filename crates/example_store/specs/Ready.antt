-- The messages of a queue that are ready, each at its place.
use Rattle.std.specs.Prelude.{ℕ, ◌≡◌, ◌≤◌, Bool, true, if◌then◌else◌, ◌==◌, is_some}
use Rattle.std.specs.Ordering.{nat_cmp}
use Rattle.std.specs.BTreeMap.{get}
use Rattle.example_store.specs.declared.messages.Messages.{Messages}

-- the message at the place may be sent
abbrev pub is_ready : Messages → ℕ → Bool
is_ready m place = is_some (get nat_cmp m.ready place)

-- the first of those that are ready
abbrev pub IsFirst : Messages → ℕ → Type 0
IsFirst m place = (is_ready m place ≡ true) × ((other : ℕ) → is_ready m other ≡ true → place ≤ other)

-- the same messages are ready, but that the place is now `now`
abbrev pub Readies : Messages → Messages → ℕ → Bool → Type 0
Readies old new place now = (other : ℕ) → is_ready new other ≡ (if other == place then now else is_ready old other)

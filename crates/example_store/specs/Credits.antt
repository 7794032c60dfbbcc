-- Limits on the messages that wait to be acknowledged.
use Rattle.std.specs.Prelude.{◌≡◌, ◌≢◌, ◌<◌, ◌≤◌, ◌⊎◌}
use Rattle.example_store.specs.declared.credit.Credit.{Credit}

-- one more may be sent: there is no limit, or fewer wait
abbrev pub HasRoom : Credit → Type 0
HasRoom credit = (credit.limit ≡ 0) ⊎ (credit.used < credit.limit)

-- no more wait than the limit allows
abbrev pub IsWithin : Credit → Type 0
IsWithin credit = credit.limit ≢ 0 → credit.used ≤ credit.limit

-- How octets lie in memory: in place the last of them is how many of the others count.
use Rattle.std.specs.Prelude.{ℕ, ◌≤◌, ⊤, List, take, slice_index}
use Rattle.amqp_value.specs.declared.octets.Store.{Store}
use Rattle.amqp_value.specs.declared.octets.Store.TheVariants.{InPlace, Allocated}

abbrev pub stored : Store → List ℕ
stored (InPlace word octets) = take (slice_index octets 23) octets
stored (Allocated octets) = octets.items

abbrev pub IsStored : Store → Type 0
IsStored (InPlace word octets) = slice_index octets 23 ≤ 23
IsStored (Allocated octets) = ⊤

-- What the fields of chunks stand for.
use Rattle.std.specs.Prelude.{◌≡◌, ◌≤◌, ℕ, List, length}
use Rattle.amqp_outbox.specs.Chunks.{joined_after}
use Rattle.amqp_outbox.specs.declared.chunks.Chunks.TheInside.{Inside}

abbrev pub octets_in_chunks : Inside → List ℕ
octets_in_chunks x = joined_after x.taken x.first.items x.later.items

pub record IsCounted (x : Inside) : Type 0 where
  -- no more octets are taken than the first chunk has
  pub taken : x.taken ≤ length x.first.items
  -- as many octets are left as are counted
  pub left : x.left ≡ length (octets_in_chunks x)

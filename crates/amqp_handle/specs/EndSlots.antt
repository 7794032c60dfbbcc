-- A handle as contracts see it, and what its slot owns.
use Rattle.std.specs.Prelude.{Option, Some, None}
use Rattle.std.specs.Borrow.{Fml, ftrue}
use Rattle.std.specs.Coded.{Coded, coded_option}
use Rattle.std.specs.Box.Ownership.{box_owns}
use Rattle.libc.specs.Heap.{chunk}
use denote.RawPtr.{Ptr}
use Rattle.amqp_handle.specs.contracts.kept.HeldEnd.{the_row as held}

-- a handle: the pointer that C keeps, and the value behind it while it is open
pub record EndHandle : Type 0 where
  pub at : Ptr
  pub value : Option held.Denot

-- an open slot owns what stands at its pointer and the right to free it, a closed one nothing
abbrev pub slot_owns : Ptr → Option held.Denot → Fml
slot_owns at None = ftrue
slot_owns at (Some value) = box_owns chunk held at value

abbrev pub held_coded : Coded (Option held.Denot)
held_coded = coded_option held.coded

-- What a slot is once what it lent is given back.
use Rattle.std.specs.Prelude.{Some}
use Rattle.std.specs.Borrow.{Fml, MutBor, Lends}
use Rattle.amqp_handle.specs.EndSlots.{EndHandle}
use Rattle.amqp_handle.specs.contracts.kept.HeldEnd.{the_row as held}
use Rattle.amqp_handle.specs.contracts.end_slot.EndSlot.{the_row as slot}

-- the handle that is open, and holds this value
abbrev pub holding : EndHandle → held.Denot → EndHandle
holding h value = record h { value = Some value }

-- once the borrow ends, the slot holds the last value that was written through it
abbrev pub Follows : MutBor slot.Denot → MutBor held.Denot → Fml
Follows s r = Lends slot held s r (holding s.now)

-- What the handle of an end is once what it lent is given back.
use Rattle.std.specs.Prelude.{◌≡◌}
use Rattle.std.specs.Borrow.{Fml, MutBor}
use Rattle.std.specs.Io.BufRead.{Rests}
use Rattle.amqp_handle.specs.contracts.end_slot.EndSlot.{the_row as slot}

-- it holds what it held
abbrev pub StaysSlot : MutBor slot.Denot → Fml
StaysSlot s = Rests slot s (λ new. new.value ≡ s.now.value)

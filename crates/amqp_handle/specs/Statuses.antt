-- The numbers of what a call answers: 0 where all went well, and each kind of fault in a range of its own.
use Rattle.std.specs.Prelude.{ℕ}
use Rattle.amqp_handle.specs.declared.faults.HandleFault.{HandleFault}
use Rattle.amqp_handle.specs.declared.faults.HandleFault.TheVariants.{NotOpen, AlreadyOpen, OtherKind, OutOfMemory, Limit}

abbrev pub handle_number : HandleFault → ℕ
handle_number NotOpen = 1
handle_number AlreadyOpen = 2
handle_number OtherKind = 3
handle_number OutOfMemory = 4
handle_number Limit = 5

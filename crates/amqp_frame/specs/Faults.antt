-- The numbers of the faults.
use Rattle.std.specs.Prelude.{ℕ}
use Rattle.amqp_frame.specs.declared.faults.FrameFaultKind.{FrameFaultKind}
use Rattle.amqp_frame.specs.declared.faults.FrameFaultKind.TheVariants.{UnknownType, TooLarge, BadEnd, OutOfMemory, Failed}

abbrev pub number_of : FrameFaultKind → ℕ
number_of UnknownType = 1
number_of TooLarge = 2
number_of BadEnd = 3
number_of OutOfMemory = 4
number_of Failed = 5

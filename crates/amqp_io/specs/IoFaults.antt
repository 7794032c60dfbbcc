-- The numbers under which faults of a session are printed.
use Rattle.std.specs.Prelude.{ℕ}
use Rattle.amqp_io.specs.declared.faults.IoFault.{IoFault}
use Rattle.amqp_io.specs.declared.faults.IoFault.TheVariants as io

abbrev pub io_fault_number : IoFault → ℕ
io_fault_number io.Read = 1
io_fault_number io.Write = 2
io_fault_number io.EndOfInput = 3
io_fault_number (io.Core fault) = 4
io_fault_number io.OutOfMemory = 5

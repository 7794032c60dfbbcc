-- Faults with their places.
use Rattle.std.specs.Prelude.{ℕ}
use Rattle.amqp_value.specs.declared.fault.ValueFault.{ValueFault}
use Rattle.amqp_value.specs.declared.fault.ValueFaultKind.{ValueFaultKind}
use Rattle.amqp_value.specs.declared.fault.ValueFaultKind.TheVariants.{Ends, UnknownTag, PassesItsEnd, TooDeep, OutOfMemory, TooLong}

abbrev pub fault_at : ℕ → ValueFaultKind → ValueFault
fault_at at kind = record { at = at; kind = kind }

abbrev pub out_of_memory : ValueFault
out_of_memory = fault_at 0 OutOfMemory

-- the number under which a fault is reported
abbrev pub fault_number : ValueFaultKind → ℕ
fault_number Ends = 1
fault_number UnknownTag = 2
fault_number PassesItsEnd = 3
fault_number TooDeep = 4
fault_number OutOfMemory = 5
fault_number TooLong = 6

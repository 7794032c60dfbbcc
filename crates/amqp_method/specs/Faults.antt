-- Faults with their places.
use Rattle.std.specs.Prelude.{ℕ, ◌+◌}
use Rattle.amqp_value.specs.declared.fault.ValueFault.{ValueFault}
use Rattle.amqp_value.specs.declared.fault.ValueFaultKind.{ValueFaultKind}
use Rattle.amqp_value.specs.declared.fault.ValueFaultKind.TheVariants as value
use Rattle.amqp_method.specs.declared.faults.MethodFault.{MethodFault}
use Rattle.amqp_method.specs.declared.faults.MethodFaultKind.{MethodFaultKind}
use Rattle.amqp_method.specs.declared.faults.MethodFaultKind.TheVariants.{UnknownMethod, Value, Trailing, BadWeight, BadFlags, OutOfMemory}

abbrev pub fault_at : ℕ → MethodFaultKind → MethodFault
fault_at at kind = record { at = at; kind = kind }

abbrev pub out_of_memory : MethodFault
out_of_memory = fault_at 0 OutOfMemory

-- a count that doesn't fit its field
abbrev pub too_long : MethodFault
too_long = fault_at 0 (Value value.TooLong)

-- The fault of a table that begins at a place. Out of memory has no place.
abbrev table_fault : ℕ → ℕ → ValueFaultKind → MethodFault
table_fault place at value.OutOfMemory = out_of_memory
table_fault place at value.Ends = fault_at (place + at) (Value value.Ends)
table_fault place at value.UnknownTag = fault_at (place + at) (Value value.UnknownTag)
table_fault place at value.PassesItsEnd = fault_at (place + at) (Value value.PassesItsEnd)
table_fault place at value.TooDeep = fault_at (place + at) (Value value.TooDeep)
table_fault place at value.TooLong = fault_at (place + at) (Value value.TooLong)

abbrev pub in_table : ℕ → ValueFault → MethodFault
in_table place fault = table_fault place fault.at fault.kind

-- the numbers of the faults
abbrev pub number_of : MethodFaultKind → ℕ
number_of UnknownMethod = 1
number_of (Value kind) = 2
number_of Trailing = 3
number_of BadWeight = 4
number_of BadFlags = 5
number_of OutOfMemory = 6

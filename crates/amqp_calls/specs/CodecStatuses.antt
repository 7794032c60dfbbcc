-- The numbers of what can be wrong with octets: each kind of fault has a range of its own.
use Rattle.std.specs.Prelude.{ℕ, ◌+◌}
use Rattle.amqp_value.specs.Faults.{fault_number}
use Rattle.amqp_value.specs.declared.fault.ValueFaultKind.{ValueFaultKind}
use Rattle.amqp_method.specs.declared.faults.MethodFaultKind.{MethodFaultKind}
use Rattle.amqp_method.specs.declared.faults.MethodFaultKind.TheVariants.{UnknownMethod, Value, Trailing, BadWeight}
use Rattle.amqp_method.specs.declared.faults.MethodFaultKind.TheVariants.{BadFlags, OutOfMemory}

-- 301 to 306
abbrev pub value_status : ValueFaultKind → ℕ
value_status kind = 300 + fault_number kind

-- 201 to 206, and that of the value where a field's value is at fault
abbrev pub method_status : MethodFaultKind → ℕ
method_status UnknownMethod = 201
method_status (Value kind) = value_status kind
method_status Trailing = 203
method_status BadWeight = 204
method_status BadFlags = 205
method_status OutOfMemory = 206

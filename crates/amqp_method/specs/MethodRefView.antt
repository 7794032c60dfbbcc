-- What a method that lies in its payload stands for.
use Rattle.std.specs.Prelude.{ℕ, List, [], Result, Ok, Err}
use Rattle.amqp_method.specs.Arguments.{Argument, Call, call}
use Rattle.amqp_method.specs.Reading.{method_at}
use Rattle.amqp_method.specs.declared.faults.MethodFault.{MethodFault}
use Rattle.amqp_method.specs.declared.method_ref.MethodRef.{MethodRef}

-- the arguments that are read, of octets that are read without a fault
abbrev pub args_read : Result Call MethodFault → List Argument
args_read (Ok c) = c.args
args_read (Err e) = []

abbrev pub lent_call : MethodRef → Call
lent_call m = call m.kind (args_read (method_at m.payload.now))

abbrev pub lent_payload : MethodRef → List ℕ
lent_payload m = m.payload.now

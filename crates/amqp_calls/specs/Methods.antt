-- What is told of a method that is read.
use Rattle.std.specs.Prelude.{◌≡◌, ℕ, ◌+◌, ◌*◌, ◌<◌, List, length, map, take, drop, Option, Some}
use Rattle.std.specs.Prelude.{None, Result, Ok, Err, ◌⊎◌}
use Rattle.amqp_method.specs.Arguments.{Call}
use Rattle.amqp_method.specs.Kinds.{class_of, id_of}
use Rattle.amqp_method.specs.Reading.{method_at}
use Rattle.amqp_method.specs.declared.faults.MethodFault.{MethodFault}
use Rattle.amqp_method.specs.declared.kinds.Kind.{Kind}
use Rattle.amqp_calls.specs.CodecStatuses.{method_status}
use Rattle.amqp_calls.specs.Values.{argument_there, all_there}
use Rattle.amqp_calls.specs.declared.codec.methods.MethodRead.{MethodRead}
use Rattle.amqp_calls.specs.declared.codec.values.Value.{Value}

-- the class id and the method id in one number
abbrev pub kind_number : Kind → ℕ
kind_number kind = class_of kind * 65536 + id_of kind

-- the number of the kind, or there is none
abbrev pub PeeksMethod : Option Kind → ℕ → ℕ → ℕ → Type 0
PeeksMethod (Some kind) status old new = (status ≡ 0) × (new ≡ kind_number kind)
PeeksMethod None status old new = (status ≡ 201) × (new ≡ old)

-- each argument in its place, and nothing behind them is changed
pub record ToldFields (c : Call) (old new : List Value) (out : MethodRead) : Type 0 where
  pub kind : out.kind ≡ kind_number c.kind
  pub count : out.count ≡ length c.args
  pub fields : map argument_there (take out.count new) ≡ all_there c.args
  pub others : drop out.count new ≡ drop out.count old

-- what reading gives is told, or there is no room for it
abbrev ToldMethod : Result Call MethodFault → List Value → ℕ → List Value → MethodRead → Type 0
ToldMethod (Ok c) old status new out =
    ((status ≡ 0) × ToldFields c old new out)
    ⊎ ((status ≡ 7) × (length old < length c.args) × (out.kind ≡ kind_number c.kind))
ToldMethod (Err e) old status new out = (status ≡ method_status e.kind) × (out.at ≡ e.at) × (new ≡ old)

abbrev pub ReadsMethod : List ℕ → List Value → ℕ → List Value → MethodRead → Type 0
ReadsMethod payload old status new out = ToldMethod (method_at payload) old status new out

-- The arguments of a method that lies in its payload.
use Rattle.std.specs.Prelude.{◌≡◌, ◌<◌, List, [], ◌∷◌, ◌++◌, length, map, Bool, Option, Some, None, Ok, Err}
use Rattle.amqp_method.specs.ArgRefView.{arg_ref_view}
use Rattle.amqp_method.specs.Arguments.{Argument, keep}
use Rattle.amqp_method.specs.BitsView.{bits_view}
use Rattle.amqp_method.specs.Reading.{Read, args_at}
use Rattle.amqp_method.specs.Rows.{field_view}
use Rattle.amqp_method.specs.declared.arg_ref.ArgRef.{ArgRef}
use Rattle.amqp_method.specs.declared.args_ref.ArgsRef.{ArgsRef}
use Rattle.amqp_method.specs.declared.fields.Field.{Field}

-- what is read, of octets that are read without a fault
abbrev pub values_read : Read (List Argument) → List Argument
values_read (Ok x) = x.0
values_read (Err e) = []

-- the arguments that are left
abbrev pub args_left : ArgsRef → List Argument
args_left a = values_read (args_at (map field_view a.fields.now) (bits_view a.bits) a.end a.octets.now)

-- the first of the arguments, and the others, or none are left
abbrev pub NextArg : List Argument → Option (ArgRef × ArgsRef) → Type 0
NextArg args None = args ≡ []
NextArg args (Some x) = args ≡ arg_ref_view x.0 ∷ args_left x.1

-- the value of the first field was added, unless the field is reserved: these fields are left, and their arguments
pub record AddsFirst (args : ArgsRef) (old : List Argument) (fields : List Field) (new : List Argument)
    (after : ArgsRef) : Type 0 where
  pub added : new ++ args_left after ≡ old ++ args_left args
  pub left : after.fields.now ≡ fields

-- the value of the first field, kept among the arguments unless it is reserved, and what is left after it
abbrev pub FirstValue : ArgsRef → Option (Bool × ArgRef × ArgsRef) → Type 0
FirstValue args None = args_left args ≡ []
FirstValue args (Some x) =
    (args_left args ≡ keep x.0 (arg_ref_view x.1) (args_left x.2)) × (length x.2.fields.now < length args.fields.now)

-- The kinds of a method's arguments by their place, from 0.
use Rattle.std.specs.Prelude.{ℕ, zero, suc, List, [], ◌∷◌, Option, Some, None}
use Rattle.amqp_method.specs.Arguments.{Call, wanted}
use Rattle.amqp_method.specs.Kinds.{fields_of}
use Rattle.amqp_method.specs.declared.fields.FieldKind.{FieldKind}

abbrev pub nth_kind : ℕ → List FieldKind → Option FieldKind
nth_kind place [] = None
nth_kind zero (kind ∷ kinds) = Some kind
nth_kind (suc n) (kind ∷ kinds) = nth_kind n kinds

-- the kind of the argument at a place, as the table of methods has it
abbrev pub kind_at : ℕ → Call → Option FieldKind
kind_at place call = nth_kind place (wanted (fields_of call.kind))

-- The arguments of methods, apart from where they lie in memory, and which of them fit a method.
use Rattle.std.specs.Prelude.{◌≡◌, ◌≢◌, ℕ, List, [], ◌∷◌, ◌++◌, length, map, Bool, true, false}
use Rattle.amqp_value.specs.Values.{Pairs, no_pairs}
use Rattle.amqp_method.specs.Kinds.{fields_of}
use Rattle.amqp_method.specs.Methods.{FieldRow}
use Rattle.amqp_method.specs.declared.fields.FieldKind.{FieldKind}
use Rattle.amqp_method.specs.declared.fields.FieldKind.TheVariants.{Bit, Octet, Short, Long, LongLong, ShortStr, LongStr, Table}
use Rattle.amqp_method.specs.declared.kinds.Kind.{Kind}

-- the value of a field
pub data Argument : Type 0 where
  bit : Bool → Argument
  octet : ℕ → Argument
  short : ℕ → Argument
  long : ℕ → Argument
  long_long : ℕ → Argument
  short_string : List ℕ → Argument
  long_string : List ℕ → Argument
  table : Pairs → Argument

abbrev pub kind_of : Argument → FieldKind
kind_of (bit holds) = Bit
kind_of (octet n) = Octet
kind_of (short n) = Short
kind_of (long n) = Long
kind_of (long_long n) = LongLong
kind_of (short_string text) = ShortStr
kind_of (long_string text) = LongStr
kind_of (table pairs) = Table

-- zero, or empty
abbrev pub nothing : FieldKind → Argument
nothing Bit = bit false
nothing Octet = octet 0
nothing Short = short 0
nothing Long = long 0
nothing LongLong = long_long 0
nothing ShortStr = short_string []
nothing LongStr = long_string []
nothing Table = table no_pairs

-- a value at the start, unless its field is reserved
abbrev pub keep : Bool → Argument → List Argument → List Argument
keep true value args = args
keep false value args = value ∷ args

-- of one value for each field, those whose field isn't reserved: the arguments
abbrev pub kept : List FieldRow → List Argument → List Argument
kept [] values = []
kept (f ∷ fields) [] = []
kept (f ∷ fields) (value ∷ values) = keep f.reserved value (kept fields values)

-- the kinds of the fields that aren't reserved
abbrev pub wanted_kind : Bool → FieldKind → List FieldKind → List FieldKind
wanted_kind true kind kinds = kinds
wanted_kind false kind kinds = kind ∷ kinds

abbrev pub wanted : List FieldRow → List FieldKind
wanted [] = []
wanted (f ∷ fields) = wanted_kind f.reserved f.kind (wanted fields)

-- the arguments are, in number, order and kind, those of the fields that aren't reserved
abbrev pub Fit : List FieldRow → List Argument → Type 0
Fit fields args = map kind_of args ≡ wanted fields

-- where arguments of these kinds are given and these are due, the first lacks, is over, or is of another kind
abbrev pub StartUnlike : List FieldKind → List FieldKind → Type 0
StartUnlike [] [] = ⊥
StartUnlike [] (kind ∷ due) = Unit {0}
StartUnlike (kind ∷ given) [] = Unit {0}
StartUnlike (kind ∷ given) (other ∷ due) = kind ≢ other

-- the place of the first argument that doesn't fit: those before it are, in order and kind, those that are wanted
pub record FirstMisfit (fields : List FieldRow) (args : List Argument) (place : ℕ) : Type 0 where
  pub before : List FieldKind
  pub given : List FieldKind
  pub due : List FieldKind
  pub args_are : map kind_of args ≡ before ++ given
  pub wanted_are : wanted fields ≡ before ++ due
  pub place_is : place ≡ length before
  pub unlike : StartUnlike given due

-- a method with its arguments
pub record Call : Type 0 where
  pub kind : Kind
  pub args : List Argument

abbrev pub call : Kind → List Argument → Call
call kind args = record { kind = kind; args = args }

abbrev pub Fits : Call → Type 0
Fits call = Fit (fields_of call.kind) call.args

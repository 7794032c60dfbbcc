-- The arguments of a method by their place, from 0, and by the name of their field in `amqp0-9-1.xml`. Reserved fields
-- have no argument and no place.
use Rattle.std.specs.Prelude.{ℕ, zero, suc, List, [], ◌∷◌, Bool, false, cond, Option, Some, None}
use Rattle.std.specs.Str.{bytes_eq}
use Rattle.amqp_value.specs.Values.{Pairs}
use Rattle.amqp_method.specs.Arguments.{Argument, bit, octet, short, long, long_long, short_string, long_string, table, Call}
use Rattle.amqp_method.specs.Kinds.{fields_of}
use Rattle.amqp_method.specs.Methods.{FieldRow}

abbrev pub argument_at : ℕ → List Argument → Option Argument
argument_at place [] = None
argument_at zero (argument ∷ later) = Some argument
argument_at (suc n) (argument ∷ later) = argument_at n later

-- ---- an argument of one kind, if it is of that kind

abbrev pub bit_of : Argument → Option Bool
bit_of (bit holds) = Some holds
bit_of other = None

abbrev pub octet_of : Argument → Option ℕ
octet_of (octet n) = Some n
octet_of other = None

abbrev pub short_of : Argument → Option ℕ
short_of (short n) = Some n
short_of other = None

abbrev pub long_of : Argument → Option ℕ
long_of (long n) = Some n
long_of other = None

abbrev pub long_long_of : Argument → Option ℕ
long_long_of (long_long n) = Some n
long_long_of other = None

abbrev pub short_string_of : Argument → Option (List ℕ)
short_string_of (short_string text) = Some text
short_string_of other = None

abbrev pub long_string_of : Argument → Option (List ℕ)
long_string_of (long_string text) = Some text
long_string_of other = None

abbrev pub table_of : Argument → Option Pairs
table_of (table pairs) = Some pairs
table_of other = None

-- what stands at a place, if an argument of that kind stands there
abbrev pub found : {X : Type 0} → (Argument → Option X) → Option Argument → Option X
found read None = None
found read (Some argument) = read argument

-- ---- an argument of any of these kinds, or zero, or empty

abbrev bit_in : Option Argument → Bool
bit_in (Some (bit holds)) = holds
bit_in other = false

abbrev number_in : Option Argument → ℕ
number_in (Some (octet n)) = n
number_in (Some (short n)) = n
number_in (Some (long n)) = n
number_in (Some (long_long n)) = n
number_in other = 0

abbrev octets_in : Option Argument → List ℕ
octets_in (Some (short_string octets)) = octets
octets_in (Some (long_string octets)) = octets
octets_in other = []

abbrev pub bit_at : ℕ → Call → Bool
bit_at place call = bit_in (argument_at place call.args)

abbrev pub number_at : ℕ → Call → ℕ
number_at place call = number_in (argument_at place call.args)

abbrev pub octets_at : ℕ → Call → List ℕ
octets_at place call = octets_in (argument_at place call.args)

-- ---- by name

-- the place of the first field with the name that isn't reserved, counted from `at`
abbrev pub place_named : (at : ℕ) → List FieldRow → (name : List ℕ) → Option ℕ
place_named at [] name = None
place_named at (f ∷ fields) name =
    cond f.reserved (place_named at fields name) (cond (bytes_eq f.name name) (Some at)
    (place_named (suc at) fields name))

abbrev argument_in : Option ℕ → List Argument → Option Argument
argument_in None args = None
argument_in (Some place) args = argument_at place args

abbrev pub argument_named : (name : List ℕ) → Call → Option Argument
argument_named name call = argument_in (place_named 0 (fields_of call.kind) name) call.args

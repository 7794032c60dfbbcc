-- Writing value by value: bits are gathered in an octet, which is written once it is full or the run ends.
use Rattle.std.specs.Prelude.{ℕ, ◌+◌, ◌*◌, ◌^◌, ◌==◌, List, [], ◌∷◌, ◌++◌, Bool, Option, Some, None, if◌then◌else◌}
use Rattle.amqp_method.specs.Arguments.{Argument, bit, octet, short, long, long_long, short_string, long_string, table}
use Rattle.amqp_method.specs.Plain.{plain_argument, bit_value}
use Rattle.amqp_method.specs.Encoding.{EncodesArgument}

-- bits gathered: their number, the first one lowest, and how many they are
pub record Gathered : Type 0 where
  pub number : ℕ
  pub count : ℕ

abbrev pub none_gathered : Gathered
none_gathered = record { number = 0; count = 0 }

-- the octet of the bits gathered
abbrev pub gathered_octets : Gathered → List ℕ
gathered_octets g = if g.count == 0 then [] else g.number ∷ []

-- with one bit more
abbrev pub with_one : Bool → Gathered → Gathered
with_one holds g = record { number = g.number + bit_value holds * 2 ^ g.count; count = g.count + 1 }

-- what is written for a value, and the bits gathered then
abbrev pub written_for : Argument → Gathered → List ℕ
written_for (bit holds) g = if g.count == 8 then g.number ∷ [] else []
written_for (octet n) g = gathered_octets g ++ plain_argument (octet n)
written_for (short n) g = gathered_octets g ++ plain_argument (short n)
written_for (long n) g = gathered_octets g ++ plain_argument (long n)
written_for (long_long n) g = gathered_octets g ++ plain_argument (long_long n)
written_for (short_string text) g = gathered_octets g ++ plain_argument (short_string text)
written_for (long_string text) g = gathered_octets g ++ plain_argument (long_string text)
written_for (table pairs) g = gathered_octets g ++ plain_argument (table pairs)

abbrev pub gathered_after : Argument → Gathered → Gathered
gathered_after (bit holds) g = with_one holds (if g.count == 8 then none_gathered else g)
gathered_after (octet n) g = none_gathered
gathered_after (short n) g = none_gathered
gathered_after (long n) g = none_gathered
gathered_after (long_long n) g = none_gathered
gathered_after (short_string text) g = none_gathered
gathered_after (long_string text) g = none_gathered
gathered_after (table pairs) g = none_gathered

-- what is written for the values, after bits gathered
unfoldable pub written_values : List Argument → Gathered → List ℕ
written_values [] g = gathered_octets g
written_values (value ∷ values) g = written_for value g ++ written_values values (gathered_after value g)

-- the plain encoding of a value is an encoding of it: its counts fit their fields
abbrev pub Fitting : Argument → Type 0
Fitting (bit holds) = Unit {0}
Fitting (octet n) = EncodesArgument (octet n) (plain_argument (octet n))
Fitting (short n) = EncodesArgument (short n) (plain_argument (short n))
Fitting (long n) = EncodesArgument (long n) (plain_argument (long n))
Fitting (long_long n) = EncodesArgument (long_long n) (plain_argument (long_long n))
Fitting (short_string text) = EncodesArgument (short_string text) (plain_argument (short_string text))
Fitting (long_string text) = EncodesArgument (long_string text) (plain_argument (long_string text))
Fitting (table pairs) = EncodesArgument (table pairs) (plain_argument (table pairs))

abbrev pub AllFitting : List Argument → Type 0
AllFitting [] = Unit {0}
AllFitting (value ∷ values) = Fitting value × AllFitting values

abbrev pub PropertyFitting : Option Argument → Type 0
PropertyFitting None = Unit {0}
PropertyFitting (Some value) = Fitting value

abbrev pub PresentFitting : List (Option Argument) → Type 0
PresentFitting [] = Unit {0}
PresentFitting (p ∷ properties) = PropertyFitting p × PresentFitting properties

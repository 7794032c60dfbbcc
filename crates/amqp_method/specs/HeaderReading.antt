-- Reading a content header, with the first fault that is met.
use Rattle.std.specs.Prelude.{ℕ, ◌+◌, ◌/◌, ◌%◌, ◌^◌, ◌==◌, List, [], ◌∷◌, length, Bool, true, false, Option, Some, None, Result, Ok, Err, if◌then◌else◌}
use Rattle.amqp_value.specs.Reading.{◌>>=◌}
use Rattle.amqp_method.specs.Arguments.{Argument}
use Rattle.amqp_method.specs.Faults.{fault_at}
use Rattle.amqp_method.specs.Properties.{property_kinds, ContentHeader, header}
use Rattle.amqp_method.specs.Reading.{Reader, read_number, no_bits, field_at, whole}
use Rattle.amqp_method.specs.declared.faults.MethodFault.{MethodFault}
use Rattle.amqp_method.specs.declared.faults.MethodFaultKind.TheVariants.{UnknownMethod, BadWeight, BadFlags}
use Rattle.amqp_method.specs.declared.fields.FieldKind.{FieldKind}

-- whether a bit is set
abbrev pub has_flag : ℕ → ℕ → Bool
has_flag n flags = flags / 2 ^ n % 2 == 1

-- a property, if it is there
unfoldable pub optional_at : Bool → FieldKind → Reader (Option Argument)
optional_at false kind end octets = Ok (None, octets)
optional_at true kind end octets = field_at kind no_bits end octets >>= λ x. Ok (Some x.0.0, x.1)

-- the properties whose flags are set
unfoldable pub properties_at : List FieldKind → ℕ → Reader (List (Option Argument))
properties_at [] flags end octets = Ok ([], octets)
properties_at (kind ∷ kinds) flags end octets =
    optional_at (has_flag (length kinds + 2) flags) kind end octets
    >>= λ x. (properties_at kinds flags end x.1 >>= λ y. Ok (x.0 ∷ y.0, y.1))

-- a header of a body of a size, from its properties on
abbrev pub with_properties_at : ℕ → ℕ → ℕ → List ℕ → Result ContentHeader MethodFault
with_properties_at size flags end octets = properties_at property_kinds flags end octets >>= λ x. whole end
    (header size x.0) x.1

-- a header after its class, and after its weight
abbrev pub flagged_at : ℕ → ℕ → List ℕ → ℕ → Result ContentHeader MethodFault
flagged_at end size octets flags =
    if flags % 4 == 0
    then (properties_at property_kinds flags end octets >>= λ x. whole end (header size x.0) x.1)
    else Err (fault_at 12 BadFlags)

abbrev pub weighed_at : ℕ → List ℕ → ℕ → Result ContentHeader MethodFault
weighed_at end octets weight =
    if weight == 0
    then (read_number 8 end octets >>= λ size.
    (read_number 2 end size.1 >>= λ flags. flagged_at end size.0 flags.1 flags.0))
    else Err (fault_at 2 BadWeight)

abbrev pub classed_at : ℕ → List ℕ → ℕ → Result ContentHeader MethodFault
classed_at end octets class =
    if class == 60 then (read_number 2 end octets >>= λ weight. weighed_at end weight.1 weight.0)
    else Err (fault_at 0 UnknownMethod)

-- a header
unfoldable pub header_at : List ℕ → Result ContentHeader MethodFault
header_at octets = read_number 2 (length octets) octets >>= λ class. classed_at (length octets) class.1 class.0

-- The one encoding that is written: free bits are 0, a truth value that holds is 1, and reserved fields are zero or
-- empty.
use Rattle.std.specs.Prelude.{ℕ, zero, suc, ◌+◌, ◌*◌, ◌/◌, ◌^◌, ◌<◌, List, [], ◌∷◌, ◌++◌, length, take, drop, Bool, true, false, Option, Some, None}
use Rattle.byteorder.specs.Endian.{big_bytes}
use Rattle.amqp_value.specs.Fields.{plain_short_string, plain_long_string}
use Rattle.amqp_value.specs.Plain.{plain_table, CountsFit}
use Rattle.amqp_value.specs.Values.{table as table_datum}
use Rattle.amqp_method.specs.Arguments.{Argument, bit, octet, short, long, long_long, short_string, long_string, table, nothing, Call}
use Rattle.amqp_method.specs.Kinds.{fields_of}
use Rattle.amqp_method.specs.Methods.{FieldRow, row}
use Rattle.amqp_method.specs.Properties.{ContentHeader, flags_of}
use Rattle.amqp_method.specs.Encoding.{Part, one, run, parts_of}
use Rattle.amqp_method.specs.declared.fields.FieldKind.{FieldKind}

-- a value that has octets of its own
abbrev pub plain_argument : Argument → List ℕ
plain_argument (bit holds) = []
plain_argument (octet n) = big_bytes 1 n
plain_argument (short n) = big_bytes 2 n
plain_argument (long n) = big_bytes 4 n
plain_argument (long_long n) = big_bytes 8 n
plain_argument (short_string text) = plain_short_string text
plain_argument (long_string text) = plain_long_string text
plain_argument (table pairs) = plain_table pairs

-- no count in it passes 4294967295
abbrev pub CountFits : Argument → Type 0
CountFits (bit holds) = Unit {0}
CountFits (octet n) = Unit {0}
CountFits (short n) = Unit {0}
CountFits (long n) = Unit {0}
CountFits (long_long n) = Unit {0}
CountFits (short_string text) = Unit {0}
CountFits (long_string text) = length text < 2 ^ 32
CountFits (table pairs) = CountsFit (table_datum pairs)

abbrev pub CountsAllFit : List Argument → Type 0
CountsAllFit [] = Unit {0}
CountsAllFit (value ∷ values) = CountFits value × CountsAllFit values

-- bits as a number, the lowest first
abbrev pub bit_value : Bool → ℕ
bit_value false = 0
bit_value true = 1

abbrev pub packed : List Bool → ℕ
packed [] = 0
packed (holds ∷ bits) = bit_value holds + 2 * packed bits

-- a run of bits in so many octets, eight in each
abbrev pub in_octets : ℕ → List Bool → List ℕ
in_octets zero bits = []
in_octets (suc n) bits = packed (take 8 bits) ∷ in_octets n (drop 8 bits)

abbrev pub plain_bits : List Bool → List ℕ
plain_bits bits = in_octets ((length bits + 7) / 8) bits

abbrev pub plain_parts : List Part → List ℕ
plain_parts [] = []
plain_parts (one value ∷ parts) = plain_argument value ++ plain_parts parts
plain_parts (run bits ∷ parts) = plain_bits bits ++ plain_parts parts

abbrev pub plain_values : List Argument → List ℕ
plain_values values = plain_parts (parts_of values)

-- a value for each field: the arguments in order, and nothing for the reserved ones
abbrev first_of : FieldKind → List Argument → Argument
first_of kind [] = nothing kind
first_of kind (value ∷ args) = value

-- the value of a field, of the arguments that are left, and those that are left after it
abbrev pub value_for : Bool → FieldKind → List Argument → Argument
value_for true kind args = nothing kind
value_for false kind args = first_of kind args

abbrev pub args_left_by : Bool → List Argument → List Argument
args_left_by true args = args
args_left_by false args = drop 1 args

abbrev pub complete : List FieldRow → List Argument → List Argument
complete [] args = []
complete (f ∷ fields) args = value_for f.reserved f.kind args ∷ complete fields (args_left_by f.reserved args)

-- a method
abbrev pub plain_method : Call → List ℕ
plain_method c = big_bytes 2 (row c.kind).class ++ (big_bytes 2 (row c.kind).id
    ++ plain_values (complete (fields_of c.kind) c.args))

-- the properties that are there
abbrev pub plain_property : Option Argument → List ℕ
plain_property None = []
plain_property (Some value) = plain_argument value

abbrev pub plain_present : List (Option Argument) → List ℕ
plain_present [] = []
plain_present (p ∷ properties) = plain_property p ++ plain_present properties

abbrev pub CountOfPropertyFits : Option Argument → Type 0
CountOfPropertyFits None = Unit {0}
CountOfPropertyFits (Some value) = CountFits value

abbrev pub CountsPresentFit : List (Option Argument) → Type 0
CountsPresentFit [] = Unit {0}
CountsPresentFit (p ∷ properties) = CountOfPropertyFits p × CountsPresentFit properties

-- the class, the weight, the body's size and the flags of a content header
abbrev pub plain_start : ℕ → ℕ → List ℕ
plain_start body_size flags = big_bytes 2 60 ++ (big_bytes 2 0 ++ (big_bytes 8 body_size ++ big_bytes 2 flags))

-- a content header
abbrev pub plain_header : ContentHeader → List ℕ
plain_header h = plain_start h.body_size (flags_of h.properties) ++ plain_present h.properties

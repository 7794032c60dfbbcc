-- The printed texts of methods and content headers.
use Rattle.std.specs.Prelude.{ℕ, List, [], ◌∷◌, ◌++◌, drop, length, map, Bool, true, false, Option, Some, None, codes}
use Rattle.std.specs.Fmt.{decimal}
use Rattle.amqp_value.specs.Text.{hexadecimal, quoted, text_of_table}
use Rattle.amqp_method.specs.Arguments.{Argument, bit, octet, short, long, long_long, short_string, long_string, table, Call}
use Rattle.amqp_method.specs.Kinds.{fields_of}
use Rattle.amqp_method.specs.Messages.{Letter}
use Rattle.amqp_method.specs.Methods.{FieldRow, row}
use Rattle.amqp_method.specs.Plain.{args_left_by}
use Rattle.amqp_method.specs.Properties.{PropertyRow, property_rows, ContentHeader}

abbrev pub bit_text : Bool → List ℕ
bit_text false = codes "0"
bit_text true = codes "1"

-- bits as 0 or 1, numbers in decimal, strings in quotes, tables in braces
abbrev pub argument_text : Argument → List ℕ
argument_text (bit holds) = bit_text holds
argument_text (octet n) = decimal n
argument_text (short n) = decimal n
argument_text (long n) = decimal n
argument_text (long_long n) = decimal n
argument_text (short_string text) = quoted text
argument_text (long_string text) = quoted text
argument_text (table pairs) = text_of_table pairs

-- a space, a name, `=` and a value
abbrev pub named_text : List ℕ → Argument → List ℕ
named_text name value = codes " " ++ (name ++ (codes "=" ++ argument_text value))

-- the first of the arguments, under the name of its field; nothing for a reserved field
abbrev first_text : List ℕ → List Argument → List ℕ
first_text name [] = []
first_text name (value ∷ args) = named_text name value

abbrev pub field_text : Bool → List ℕ → List Argument → List ℕ
field_text true name args = []
field_text false name args = first_text name args

abbrev pub fields_text : List FieldRow → List Argument → List ℕ
fields_text [] args = []
fields_text (f ∷ fields) args = field_text f.reserved f.name args ++ fields_text fields (args_left_by f.reserved args)

-- `class.method` and the arguments
abbrev pub text_of_method : Call → List ℕ
text_of_method call = (row call.kind).name ++ fields_text (fields_of call.kind) call.args

abbrev pub property_names : List (List ℕ)
property_names = map (λ (p : PropertyRow). p.name) property_rows

-- nothing for a property that isn't there
abbrev pub property_text : List ℕ → Option Argument → List ℕ
property_text name None = []
property_text name (Some value) = named_text name value

abbrev pub properties_text : List (List ℕ) → List (Option Argument) → List ℕ
properties_text [] properties = []
properties_text (name ∷ names) [] = []
properties_text (name ∷ names) (p ∷ properties) = property_text name p ++ properties_text names properties

-- `header size=N` and the properties that are there
abbrev pub text_of_header : ContentHeader → List ℕ
text_of_header h = codes "header size=" ++ (decimal h.body_size ++ properties_text property_names h.properties)

-- the space before a property, unless it is the first of a text
abbrev pub space_text : (is_first : Bool) → List ℕ
space_text true = []
space_text false = codes " "

-- the text of properties at the start of a text, without its first space, or after something else
abbrev pub parted : (starts : Bool) → List ℕ → List ℕ
parted true text = drop 1 text
parted false text = text

-- the properties that are there, as a header's text has them, parted by spaces
abbrev pub text_of_properties : List (Option Argument) → List ℕ
text_of_properties properties = parted true (properties_text property_names properties)

-- a body in hexadecimal, `-` where it has no octets
abbrev pub body_text : List ℕ → List ℕ
body_text [] = codes "-"
body_text (x ∷ octets) = hexadecimal (x ∷ octets)

-- the two lines of a content, each after a line feed
abbrev pub content_text : Option (List (Option Argument)) → (body : List ℕ) → List ℕ
content_text None body = []
content_text (Some properties) body =
    codes "\n  " ++ (text_of_header (record { body_size = length body; properties = properties })
    ++ (codes "\n  body " ++ body_text body))

-- the method, and below it the header and the body of a content
abbrev pub text_of_message : Letter → List ℕ
text_of_message message = text_of_method message.call ++ content_text message.properties message.body

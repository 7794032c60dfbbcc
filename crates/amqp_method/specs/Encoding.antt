-- Which octets encode the arguments of a method, and which a method: AMQP 0-9-1 specification, 2.3.5.2, 4.2.4 and
-- 4.2.5.
use Rattle.std.specs.Prelude.{◌≡◌, ◌≢◌, ◌==◌, ℕ, ◌/◌, ◌%◌, ◌<◌, List, [], ◌∷◌, ◌++◌, map, take, drop, Bool}
use Rattle.amqp_value.specs.Fields.{EncodesNumber, EncodesShortString, EncodesLongString}
use Rattle.amqp_value.specs.Encoding.{EncodesTable}
use Rattle.amqp_method.specs.Arguments.{Argument, bit, octet, short, long, long_long, short_string, long_string, table, kind_of, kept, Call}
use Rattle.amqp_method.specs.Kinds.{fields_of}
use Rattle.amqp_method.specs.Methods.{FieldRow, row}

-- the octets of a value that has octets of its own: a bit shares them with its run
abbrev pub EncodesArgument : Argument → List ℕ → Type 0
EncodesArgument (bit holds) octets = ⊥
EncodesArgument (octet n) octets = EncodesNumber 1 n octets
EncodesArgument (short n) octets = EncodesNumber 2 n octets
EncodesArgument (long n) octets = EncodesNumber 4 n octets
EncodesArgument (long_long n) octets = EncodesNumber 8 n octets
EncodesArgument (short_string text) octets = EncodesShortString text octets
EncodesArgument (long_string text) octets = EncodesLongString text octets
EncodesArgument (table pairs) octets = EncodesTable pairs octets

-- The low bits of an octet are these, the lowest first. The bits above them are free.
abbrev pub HasLowBits : List Bool → ℕ → Type 0
HasLowBits [] x = Unit {0}
HasLowBits (holds ∷ bits) x = ((x % 2 == 1) ≡ holds) × HasLowBits bits (x / 2)

-- a run of bits: an octet for each eight of them begun
abbrev pub EncodesBits : List Bool → List ℕ → Type 0
EncodesBits bits [] = bits ≡ []
EncodesBits bits (x ∷ octets) =
    (bits ≢ []) × (x < 256) × HasLowBits (take 8 bits) x × EncodesBits (drop 8 bits) octets

-- values, with each run of bits taken together
pub data Part : Type 0 where
  one : Argument → Part
  run : List Bool → Part

-- a bit before parts: it joins the run that they begin with
abbrev pub with_bit : Bool → List Part → List Part
with_bit holds [] = run (holds ∷ []) ∷ []
with_bit holds (one value ∷ parts) = run (holds ∷ []) ∷ one value ∷ parts
with_bit holds (run bits ∷ parts) = run (holds ∷ bits) ∷ parts

abbrev pub parts_of : List Argument → List Part
parts_of [] = []
parts_of (bit holds ∷ values) = with_bit holds (parts_of values)
parts_of (octet n ∷ values) = one (octet n) ∷ parts_of values
parts_of (short n ∷ values) = one (short n) ∷ parts_of values
parts_of (long n ∷ values) = one (long n) ∷ parts_of values
parts_of (long_long n ∷ values) = one (long_long n) ∷ parts_of values
parts_of (short_string text ∷ values) = one (short_string text) ∷ parts_of values
parts_of (long_string text ∷ values) = one (long_string text) ∷ parts_of values
parts_of (table pairs ∷ values) = one (table pairs) ∷ parts_of values

-- the join of an encoding of each part, in order
abbrev pub EncodesParts : List Part → List ℕ → Type 0
EncodesParts [] octets = octets ≡ []
EncodesParts (one value ∷ parts) octets =
    (first rest : List ℕ) × (octets ≡ first ++ rest) × EncodesArgument value first × EncodesParts parts rest
EncodesParts (run bits ∷ parts) octets =
    (first rest : List ℕ) × (octets ≡ first ++ rest) × EncodesBits bits first × EncodesParts parts rest

abbrev pub EncodesValues : List Argument → List ℕ → Type 0
EncodesValues values octets = EncodesParts (parts_of values) octets

-- Each field has a value of its kind, and the arguments are the values of those that aren't reserved.
pub record EncodesArgs (fields : List FieldRow) (args : List Argument) (octets : List ℕ) : Type 0 where
  pub values : List Argument
  pub kinds_are : map kind_of values ≡ map (λ (f : FieldRow). f.kind) fields
  pub args_are : args ≡ kept fields values
  pub encoded : EncodesValues values octets

-- the class id, the method id, and the arguments
pub record EncodesMethod (call : Call) (octets : List ℕ) : Type 0 where
  pub class : List ℕ
  pub id : List ℕ
  pub arguments : List ℕ
  pub octets_are : octets ≡ class ++ (id ++ arguments)
  pub class_is : EncodesNumber 2 (row call.kind).class class
  pub id_is : EncodesNumber 2 (row call.kind).id id
  pub args : EncodesArgs (fields_of call.kind) call.args arguments

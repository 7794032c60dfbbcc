-- The properties of a content, and which octets encode a content header: AMQP 0-9-1 specification, 4.2.6.1, and the
-- fields of the class basic in `amqp0-9-1.xml`. The last property, which the standard reserves, bears the name that
-- RabbitMQ gave it.
use Rattle.std.specs.Prelude.{◌≡◌, ℕ, ◌+◌, ◌^◌, List, [], ◌∷◌, ◌++◌, length, map, Option, Some, None, codes}
use Rattle.amqp_value.specs.Fields.{EncodesNumber}
use Rattle.amqp_method.specs.Arguments.{Argument, kind_of}
use Rattle.amqp_method.specs.Encoding.{EncodesArgument}
use Rattle.amqp_method.specs.declared.fields.FieldKind.{FieldKind}
use Rattle.amqp_method.specs.declared.fields.FieldKind.TheVariants.{Octet, LongLong, ShortStr, Table}

pub record PropertyRow : Type 0 where
  pub name : List ℕ
  pub kind : FieldKind

abbrev property : FieldKind → List ℕ → PropertyRow
property kind name = record { name = name; kind = kind }

-- the properties in order: the first has bit 15 of the flags, the last bit 2
abbrev pub property_rows : List PropertyRow
property_rows =
    property ShortStr (codes "content-type") ∷
    property ShortStr (codes "content-encoding") ∷
    property Table (codes "headers") ∷
    property Octet (codes "delivery-mode") ∷
    property Octet (codes "priority") ∷
    property ShortStr (codes "correlation-id") ∷
    property ShortStr (codes "reply-to") ∷
    property ShortStr (codes "expiration") ∷
    property ShortStr (codes "message-id") ∷
    property LongLong (codes "timestamp") ∷
    property ShortStr (codes "type") ∷
    property ShortStr (codes "user-id") ∷
    property ShortStr (codes "app-id") ∷
    property ShortStr (codes "cluster-id") ∷ []

abbrev pub property_kinds : List FieldKind
property_kinds = map (λ (p : PropertyRow). p.kind) property_rows

-- a content header apart from where it lies in memory: the body's size, and each property, if it is there
pub record ContentHeader : Type 0 where
  pub body_size : ℕ
  pub properties : List (Option Argument)

abbrev pub header : ℕ → List (Option Argument) → ContentHeader
header body_size properties = record { body_size = body_size; properties = properties }

-- the properties that are there are of these kinds
abbrev pub HaveKinds : List (Option Argument) → List FieldKind → Type 0
HaveKinds [] [] = Unit {0}
HaveKinds [] (kind ∷ kinds) = ⊥
HaveKinds (p ∷ properties) [] = ⊥
HaveKinds (None ∷ properties) (kind ∷ kinds) = HaveKinds properties kinds
HaveKinds (Some value ∷ properties) (kind ∷ kinds) = (kind_of value ≡ kind) × HaveKinds properties kinds

-- The flags: a property that is there sets its bit. The last has bit 2, and each other one the bit above the next
-- one's.
abbrev pub flags_of : List (Option Argument) → ℕ
flags_of [] = 0
flags_of (None ∷ properties) = flags_of properties
flags_of (Some value ∷ properties) = 2 ^ (length properties + 2) + flags_of properties

-- the join of an encoding of each property that is there, in order
abbrev pub EncodesPresent : List (Option Argument) → List ℕ → Type 0
EncodesPresent [] octets = octets ≡ []
EncodesPresent (None ∷ properties) octets = EncodesPresent properties octets
EncodesPresent (Some value ∷ properties) octets =
    (first rest : List ℕ) × (octets ≡ first ++ rest) × EncodesArgument value first × EncodesPresent properties rest

-- the class 60, the weight 0, the body's size, the flags, and the properties
pub record EncodesHeader (h : ContentHeader) (octets : List ℕ) : Type 0 where
  pub class : List ℕ
  pub weight : List ℕ
  pub size : List ℕ
  pub flags : List ℕ
  pub rest : List ℕ
  pub octets_are : octets ≡ class ++ (weight ++ (size ++ (flags ++ rest)))
  pub class_is : EncodesNumber 2 60 class
  pub weight_is : EncodesNumber 2 0 weight
  pub size_is : EncodesNumber 8 h.body_size size
  pub kinds_are : HaveKinds h.properties property_kinds
  pub flags_are : EncodesNumber 2 (flags_of h.properties) flags
  pub encoded : EncodesPresent h.properties rest

-- What is told of a content header that is written.
use Rattle.std.specs.Prelude.{◌≡◌, ◌≢◌, ◌||◌, ◌&&◌, ℕ, List, length, map, Bool, false, Option}
use Rattle.std.specs.Prelude.{Some, None, Result, ◌⊎◌, nat_eq}
use Rattle.amqp_method.specs.Arguments.{Argument, kind_of}
use Rattle.amqp_method.specs.HeaderChecking.{kind_at}
use Rattle.amqp_method.specs.Plain.{plain_header}
use Rattle.amqp_method.specs.Properties.{header, property_kinds, HaveKinds}
use Rattle.amqp_method.specs.declared.fields.FieldKind.{FieldKind}
use Rattle.amqp_method.specs.declared.fields.FieldKind.TheVariants as kinds
use Rattle.amqp_calls.specs.Values.{argument_there}
use Rattle.amqp_calls.specs.Writing.{fits_field, At, TableFault, ToldWrite, Writes}
use Rattle.amqp_calls.specs.declared.codec.owned.ArgFault.{ArgFault}
use Rattle.amqp_calls.specs.declared.codec.owned.ArgFault.TheVariants as arg
use Rattle.amqp_calls.specs.declared.codec.values.Value.{Value}
use Rattle.amqp_calls.specs.declared.codec.writing.WriteFault.{WriteFault}
use Rattle.amqp_calls.specs.declared.codec.writing.WriteFault.TheVariants.{UnknownKind, Misfit, Inside, Room, TooLong}
use Rattle.amqp_calls.specs.declared.codec.writing.WriteFault.TheVariants.{OutOfMemory}
use Rattle.amqp_calls.specs.declared.codec.writing.Written.{Written}

-- a property that is there is of this kind
abbrev pub OfKind : Option Argument → FieldKind → Type 0
OfKind None kind = Unit {0}
OfKind (Some value) kind = kind_of value ≡ kind

-- a value is none, or one for a property of this kind; no property is of another kind than these four
abbrev fits_property : FieldKind → Value → Bool
fits_property kinds.ShortStr v = nat_eq v.kind 0 || (nat_eq v.kind 6 && fits_field v)
fits_property kinds.Table v = nat_eq v.kind 0 || (nat_eq v.kind 8 && fits_field v)
fits_property kinds.Octet v = nat_eq v.kind 0 || (nat_eq v.kind 2 && fits_field v)
fits_property kinds.LongLong v = nat_eq v.kind 0 || (nat_eq v.kind 5 && fits_field v)
fits_property kinds.Bit v = nat_eq v.kind 0
fits_property kinds.Short v = nat_eq v.kind 0
fits_property kinds.Long v = nat_eq v.kind 0
fits_property kinds.LongStr v = nat_eq v.kind 0

-- the value isn't a property of this kind
abbrev pub NotProperty : FieldKind → Value → ArgFault → Type 0
NotProperty kind v arg.Misfit = fits_property kind v ≡ false
NotProperty kind v (arg.Inside e) = TableFault v e
NotProperty kind v arg.OutOfMemory = Unit {0}

-- there aren't fourteen values, or one of them is no property of the kind at its place
abbrev pub NotHeader : List Value → WriteFault → Type 0
NotHeader values UnknownKind = ⊥
NotHeader values (Misfit place) =
    ((place ≡ length values) × (length values ≢ 14))
    ⊎ At place values (λ v. fits_property (kind_at place) v ≡ false)
NotHeader values (Inside place e) = At place values (λ v. TableFault v e)
NotHeader values Room = ⊥
NotHeader values TooLong = ⊥
NotHeader values OutOfMemory = Unit {0}

-- a bit, for a property that is there
abbrev pub bit_for : Option Argument → ℕ → ℕ
bit_for None bit = 0
bit_for (Some value) bit = bit

-- the octets of the header of these properties
abbrev pub header_octets : ℕ → List Value → List ℕ
header_octets size values = plain_header (header size (map argument_there values))

-- the octets are those of the header of these properties, each of the kind of its place
abbrev pub IsHeader : ℕ → List Value → List ℕ → Type 0
IsHeader size values octets =
    HaveKinds (map argument_there values) property_kinds
    × (octets ≡ header_octets size values)

-- the header of these properties is written
abbrev pub WritesHeader : ℕ → List Value → List ℕ → Result ℕ WriteFault → List ℕ → Type 0
WritesHeader size values old written new = Writes (IsHeader size values) ⊥ (NotHeader values) old written new

-- and what came of it is told
abbrev pub TellsHeader : ℕ → List Value → (old : List ℕ) → (status : ℕ) → Written → (new : List ℕ) → Type 0
TellsHeader size values old status out new =
    (written : Result ℕ WriteFault) × WritesHeader size values old written new × ToldWrite written status out

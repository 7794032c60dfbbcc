-- The first field of a method or a header that can't be read, and its place. Fields are read in order: the class id,
-- the method id and the arguments; the class id, the weight, the body's size, the flags and the properties whose flags
-- are set. All fields before the one at fault are whole. AMQP 0-9-1 specification, 2.3.5.2, 4.2.4, 4.2.5 and 4.2.6.1.
use Rattle.std.specs.Prelude.{◌≡◌, ◌≢◌, ℕ, zero, suc, ◌+◌, ◌%◌, ◌<◌, List, [], ◌∷◌, ◌++◌, length, map, drop, true, false, Option, Some, None}
use Rattle.amqp_value.specs.Fields.{EncodesNumber}
use Rattle.amqp_value.specs.FirstFault.{PassesCounted, FirstFault}
use Rattle.amqp_value.specs.declared.fault.ValueFault.{ValueFault}
use Rattle.amqp_value.specs.declared.fault.ValueFaultKind.TheVariants.{Ends}
use Rattle.amqp_method.specs.Arguments.{Argument, kind_of, Call}
use Rattle.amqp_method.specs.Faults.{fault_at, in_table}
use Rattle.amqp_method.specs.HeaderReading.{has_flag}
use Rattle.amqp_method.specs.Kinds.{HasIds, fields_of}
use Rattle.amqp_method.specs.Methods.{FieldRow, row}
use Rattle.amqp_method.specs.Properties.{ContentHeader, property_kinds, EncodesPresent, EncodesHeader}
use Rattle.amqp_method.specs.Encoding.{EncodesValues, EncodesMethod}
use Rattle.amqp_method.specs.declared.faults.MethodFault.{MethodFault}
use Rattle.amqp_method.specs.declared.faults.MethodFaultKind.TheVariants.{UnknownMethod, Value, Trailing, BadWeight, BadFlags}
use Rattle.amqp_method.specs.declared.fields.FieldKind.{FieldKind}
use Rattle.amqp_method.specs.declared.fields.FieldKind.TheVariants.{Bit, Octet, Short, Long, LongLong, ShortStr, LongStr, Table}
use Rattle.amqp_method.specs.declared.kinds.Kind.{Kind}

-- ---- one field

-- a bit more, where the octet of its run has so many bits left: the first of eight begins an octet
abbrev pub left_by_bit : ℕ → ℕ
left_by_bit zero = 7
left_by_bit (suc left) = left

-- how many bits a field leaves in the octet of its run: a field that isn't a bit ends the run
abbrev pub bits_left_by : FieldKind → ℕ → ℕ
bits_left_by Bit left = left_by_bit left
bits_left_by Octet left = 0
bits_left_by Short left = 0
bits_left_by Long left = 0
bits_left_by LongLong left = 0
bits_left_by ShortStr left = 0
bits_left_by LongStr left = 0
bits_left_by Table left = 0

-- how many bits are left after these fields
abbrev pub left_after : List FieldRow → ℕ → ℕ
left_after [] left = left
left_after (f ∷ fields) left = left_after fields (bits_left_by f.kind left)

-- a length octet and that many octets pass the end
abbrev pub PassesShort : List ℕ → Type 0
PassesShort [] = Unit {0}
PassesShort (n ∷ octets) = length octets < n

-- The octets of a field pass the end. A bit has an octet of its own where the one before leaves no bit.
abbrev pub Passes : FieldKind → ℕ → List ℕ → Type 0
Passes Bit left octets = (left ≡ 0) × (length octets < 1)
Passes Octet left octets = length octets < 1
Passes Short left octets = length octets < 2
Passes Long left octets = length octets < 4
Passes LongLong left octets = length octets < 8
Passes ShortStr left octets = PassesShort octets
Passes LongStr left octets = PassesCounted octets
Passes Table left octets = ⊥

-- the field of this kind that begins at a place, the first of the octets, can't be read
pub data FaultInField (kind : FieldKind) (left at : ℕ) (octets : List ℕ) (fault : MethodFault) : Type 0 where
  passes : Passes kind left octets → fault ≡ fault_at at (Value Ends) → FaultInField kind left at octets fault
  inside :
      (inner : ValueFault) → kind ≡ Table → FirstFault octets inner → fault ≡ in_table at inner
      → FaultInField kind left at octets fault

-- ---- methods

-- whole values for the fields at the start, and then a field at fault
pub record FaultInArgs (fields : List FieldRow) (at : ℕ) (octets : List ℕ) (fault : MethodFault) : Type 0 where
  pub before : List FieldRow
  pub here : FieldRow
  pub after : List FieldRow
  pub values : List Argument
  pub prefix : List ℕ
  pub rest : List ℕ
  pub fields_are : fields ≡ before ++ (here ∷ after)
  pub kinds_are : map kind_of values ≡ map (λ (f : FieldRow). f.kind) before
  pub octets_are : octets ≡ prefix ++ rest
  pub encoded : EncodesValues values prefix
  pub fault_is : FaultInField here.kind (left_after before 0) (at + length prefix) rest fault

-- The fault of octets that encode no method. The class id stands at 0, the method id at 2, the first argument at 4.
pub data FirstFaultOfMethod (octets : List ℕ) (fault : MethodFault) : Type 0 where
  class_ends : length octets < 2 → fault ≡ fault_at 0 (Value Ends) → FirstFaultOfMethod octets fault
  id_ends : (class : ℕ) (first rest : List ℕ)
      → octets ≡ first ++ rest → EncodesNumber 2 class first → length rest < 2 → fault ≡ fault_at 2 (Value Ends)
      → FirstFaultOfMethod octets fault
  unknown :
      (class id : ℕ) (first second rest : List ℕ) → octets ≡ first ++ (second ++ rest) → EncodesNumber 2 class first
      → EncodesNumber 2 id second
      → ((kind : Kind) → HasIds class id kind → ⊥) → fault ≡ fault_at 0 UnknownMethod → FirstFaultOfMethod octets fault
  in_argument : (kind : Kind) (first second rest : List ℕ)
      → octets ≡ first ++ (second ++ rest) → EncodesNumber 2 (row kind).class first
      → EncodesNumber 2 (row kind).id second
      → FaultInArgs (fields_of kind) 4 rest fault → FirstFaultOfMethod octets fault
  method_trailing : (call : Call) (prefix rest : List ℕ)
      → octets ≡ prefix ++ rest → EncodesMethod call prefix → 0 < length rest
      → fault ≡ fault_at (length prefix) Trailing
      → FirstFaultOfMethod octets fault

-- ---- headers

-- The properties are the first of these kinds, each there exactly when its flag is set. The last kind has bit 2, and
-- each other one the bit above the next one's.
abbrev pub BeginFlagged : List (Option Argument) → List FieldKind → ℕ → Type 0
BeginFlagged [] kinds flags = Unit {0}
BeginFlagged (p ∷ properties) [] flags = ⊥
BeginFlagged (None ∷ properties) (kind ∷ kinds) flags = (has_flag (length kinds + 2) flags ≡ false)
    × BeginFlagged properties kinds flags
BeginFlagged (Some value ∷ properties) (kind ∷ kinds) flags =
    (has_flag (length kinds + 2) flags ≡ true) × (kind_of value ≡ kind) × BeginFlagged properties kinds flags

-- whole properties, and then one at fault whose flag is set
pub record FaultInProperties (kinds : List FieldKind) (flags at : ℕ) (octets : List ℕ)
    (fault : MethodFault) : Type 0 where
  pub properties : List (Option Argument)
  pub here : FieldKind
  pub after : List FieldKind
  pub prefix : List ℕ
  pub rest : List ℕ
  pub flagged : BeginFlagged properties kinds flags
  pub next_is : drop (length properties) kinds ≡ here ∷ after
  pub flag_is : has_flag (length after + 2) flags ≡ true
  pub octets_are : octets ≡ prefix ++ rest
  pub encoded : EncodesPresent properties prefix
  pub fault_is : FaultInField here 0 (at + length prefix) rest fault

-- the class 60, the weight 0, the body's size and the flags, whatever flags they are
pub record EncodesPrefix (flags : ℕ) (octets : List ℕ) : Type 0 where
  pub body_size : ℕ
  pub class : List ℕ
  pub weight : List ℕ
  pub size : List ℕ
  pub word : List ℕ
  pub octets_are : octets ≡ class ++ (weight ++ (size ++ word))
  pub class_is : EncodesNumber 2 60 class
  pub weight_is : EncodesNumber 2 0 weight
  pub size_is : EncodesNumber 8 body_size size
  pub flags_are : EncodesNumber 2 flags word

-- The fault of octets that encode no header. The class id stands at 0, the weight at 2, the body's size at 4, the flags
-- at 12, the first property at 14. Bits 1 and 0 of the flags have to be clear.
pub data FirstFaultOfHeader (octets : List ℕ) (fault : MethodFault) : Type 0 where
  header_class_ends : length octets < 2 → fault ≡ fault_at 0 (Value Ends) → FirstFaultOfHeader octets fault
  not_basic : (class : ℕ) (first rest : List ℕ)
      → octets ≡ first ++ rest → EncodesNumber 2 class first → class ≢ 60 → fault ≡ fault_at 0 UnknownMethod
      → FirstFaultOfHeader octets fault
  weight_ends : (first rest : List ℕ)
      → octets ≡ first ++ rest → EncodesNumber 2 60 first → length rest < 2 → fault ≡ fault_at 2 (Value Ends)
      → FirstFaultOfHeader octets fault
  bad_weight : (weight : ℕ) (first second rest : List ℕ)
      → octets ≡ first ++ (second ++ rest) → EncodesNumber 2 60 first → EncodesNumber 2 weight second → weight ≢ 0
      → fault ≡ fault_at 2 BadWeight → FirstFaultOfHeader octets fault
  size_ends : (first second rest : List ℕ)
      → octets ≡ first ++ (second ++ rest) → EncodesNumber 2 60 first → EncodesNumber 2 0 second → length rest < 8
      → fault ≡ fault_at 4 (Value Ends) → FirstFaultOfHeader octets fault
  flags_end : (size : ℕ) (first second third rest : List ℕ)
      → octets ≡ first ++ (second ++ (third ++ rest)) → EncodesNumber 2 60 first → EncodesNumber 2 0 second
      → EncodesNumber 8 size third
      → length rest < 2 → fault ≡ fault_at 12 (Value Ends) → FirstFaultOfHeader octets fault
  bad_flags : (flags : ℕ) (prefix rest : List ℕ)
      → octets ≡ prefix ++ rest → EncodesPrefix flags prefix → flags % 4 ≢ 0 → fault ≡ fault_at 12 BadFlags
      → FirstFaultOfHeader octets fault
  in_property : (flags : ℕ) (prefix rest : List ℕ)
      → octets ≡ prefix ++ rest → EncodesPrefix flags prefix → flags % 4 ≡ 0
      → FaultInProperties property_kinds flags 14 rest fault
      → FirstFaultOfHeader octets fault
  header_trailing : (header : ContentHeader) (prefix rest : List ℕ)
      → octets ≡ prefix ++ rest → EncodesHeader header prefix → 0 < length rest
      → fault ≡ fault_at (length prefix) Trailing
      → FirstFaultOfHeader octets fault

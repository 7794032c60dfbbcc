-- The first element of a table that can't be read, and its place. Elements are read in order: the outer count, a name
-- with its length octet, a tag octet, and the value after a tag, with its count where it has one. All elements
-- before the one at fault are whole.
use Rattle.std.specs.Prelude.{◌≡◌, ◌⊎◌, ℕ, suc, ◌+◌, ◌<◌, ◌≤◌, List, [], ◌∷◌, ◌++◌, length, Some}
use Rattle.byteorder.specs.Endian.{big_number}
use Rattle.amqp_value.specs.Faults.{fault_at}
use Rattle.amqp_value.specs.Fields.{EncodesShortString, EncodesLongString}
use Rattle.amqp_value.specs.Reading.{tag_of, width_of}
use Rattle.amqp_value.specs.Encoding.{IsNoTag, EncodesItems, EncodesPairs}
use Rattle.amqp_value.specs.Values.{Items, Pairs, items_depth, pairs_depth}
use Rattle.amqp_value.specs.declared.fault.ValueFault.{ValueFault}
use Rattle.amqp_value.specs.declared.fault.ValueFaultKind.TheVariants.{Ends, UnknownTag, PassesItsEnd, TooDeep}
use Rattle.amqp_value.specs.declared.tag.ScalarTag.{ScalarTag}
use Rattle.amqp_value.specs.declared.tag.Tag.TheVariants.{Fixed}

-- a count of four octets and that many octets pass the end
abbrev pub PassesCounted : List ℕ → Type 0
PassesCounted octets = (length octets < 4) ⊎ (length octets < 4 + big_number 4 octets)

-- a length octet and that many octets pass the end
abbrev pub PassesName : List ℕ → Type 0
PassesName [] = ⊥
PassesName (n ∷ octets) = length octets < n

-- the tags of a long string and of a byte array, and those of an array and of a table
abbrev pub IsTextTag : ℕ → Type 0
IsTextTag octet = (octet ≡ 83) ⊎ (octet ≡ 120)

abbrev pub IsNestingTag : ℕ → Type 0
IsNestingTag octet = (octet ≡ 65) ⊎ (octet ≡ 70)

-- whole values, no deeper than the levels left
abbrev EncodesItemsWithin : (levels : ℕ) → Items → List ℕ → Type 0
EncodesItemsWithin levels items prefix = EncodesItems items prefix × (items_depth items ≤ levels)

-- whole pairs, no deeper than the levels left
abbrev EncodesPairsWithin : (levels : ℕ) → Pairs → List ℕ → Type 0
EncodesPairsWithin levels pairs prefix = EncodesPairs pairs prefix × (pairs_depth pairs ≤ levels)

mutual
  -- The octets of an array, the first of which stands at `at`, with so many levels left: whole values, and then one at
  -- fault.
  pub data FaultInItems : ℕ → ℕ → List ℕ → ValueFault → Type 0 where
    in_item : {levels at : ℕ} {octets : List ℕ} {fault : ValueFault} → (items : Items) (prefix rest : List ℕ)
        → octets ≡ prefix ++ rest → EncodesItemsWithin levels items prefix → 0 < length rest
        → FaultInValue levels (at + length prefix) rest fault → FaultInItems levels at octets fault

  -- The octets of a table: whole pairs, and then a name at fault, or a whole name and a value at fault.
  pub data FaultInPairs : ℕ → ℕ → List ℕ → ValueFault → Type 0 where
    in_name : {levels at : ℕ} {octets : List ℕ} {fault : ValueFault} → (pairs : Pairs) (prefix rest : List ℕ)
        → octets ≡ prefix ++ rest → EncodesPairsWithin levels pairs prefix → PassesName rest
        → fault ≡ fault_at (at + length prefix) PassesItsEnd → FaultInPairs levels at octets fault
    in_value : {levels at : ℕ} {octets : List ℕ} {fault : ValueFault}
        → (pairs : Pairs) (name prefix first rest : List ℕ)
        → octets ≡ prefix ++ (first ++ rest) → EncodesPairsWithin levels pairs prefix → EncodesShortString name first
        → FaultInValue levels (at + length prefix + length first) rest fault → FaultInPairs levels at octets fault

  -- A tag octet at `at`, or what stands after it.
  pub data FaultInValue : ℕ → ℕ → List ℕ → ValueFault → Type 0 where
    no_tag : {levels at : ℕ} {octets : List ℕ} {fault : ValueFault} → octets ≡ []
        → fault ≡ fault_at at PassesItsEnd → FaultInValue levels at octets fault
    unknown_tag : {levels at : ℕ} {octets : List ℕ} {fault : ValueFault} → (octet : ℕ) (rest : List ℕ)
        → octets ≡ octet ∷ rest → IsNoTag octet → fault ≡ fault_at at UnknownTag → FaultInValue levels at octets fault
    too_deep : {levels at : ℕ} {octets : List ℕ} {fault : ValueFault} → (octet : ℕ) (rest : List ℕ)
        → octets ≡ octet ∷ rest → IsNestingTag octet → levels ≡ 0 → fault ≡ fault_at at TooDeep
        → FaultInValue levels at octets fault
    passes : {levels at : ℕ} {octets : List ℕ} {fault : ValueFault} → (octet : ℕ) (rest : List ℕ) (tag : ScalarTag)
        → octets ≡ octet ∷ rest → tag_of octet ≡ Some (Fixed tag) → length rest < width_of tag
        → fault ≡ fault_at (at + 1) PassesItsEnd
        → FaultInValue levels at octets fault
    text_passes : {levels at : ℕ} {octets : List ℕ} {fault : ValueFault} → (octet : ℕ) (rest : List ℕ)
        → octets ≡ octet ∷ rest → IsTextTag octet → PassesCounted rest → fault ≡ fault_at (at + 1) PassesItsEnd
        → FaultInValue levels at octets fault
    count_passes : {levels at : ℕ} {octets : List ℕ} {fault : ValueFault} → (octet : ℕ) (rest : List ℕ)
        → octets ≡ octet ∷ rest → IsNestingTag octet → 0 < levels → PassesCounted rest
        → fault ≡ fault_at (at + 1) PassesItsEnd
        → FaultInValue levels at octets fault
    in_array : {levels at : ℕ} {octets : List ℕ} {fault : ValueFault} → (inner : ℕ) (field body after : List ℕ)
        → octets ≡ 65 ∷ (field ++ after) → EncodesLongString body field → levels ≡ suc inner
        → FaultInItems inner (at + 5) body fault
        → FaultInValue levels at octets fault
    in_table : {levels at : ℕ} {octets : List ℕ} {fault : ValueFault} → (inner : ℕ) (field body after : List ℕ)
        → octets ≡ 70 ∷ (field ++ after) → EncodesLongString body field → levels ≡ suc inner
        → FaultInPairs inner (at + 5) body fault
        → FaultInValue levels at octets fault

-- The fault of octets no prefix of which encodes a table. The octets pass the input only at the outer count.
pub data FirstFault (octets : List ℕ) (fault : ValueFault) : Type 0 where
  ends : PassesCounted octets → fault ≡ fault_at 0 Ends → FirstFault octets fault
  inside :
      (field body after : List ℕ) → octets ≡ field ++ after → EncodesLongString body field
      → FaultInPairs 31 4 body fault
      → FirstFault octets fault

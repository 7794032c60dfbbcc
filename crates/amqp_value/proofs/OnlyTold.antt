-- The fault of the first element that can't be read is the one that is told, and no other.
use Rattle.std.proofs.Common.{◌≡◌, ℕ, zero, suc, ◌-◌, ◌+◌, ◌≤◌, ◌<◌, Bool, true, false, ltb, List, [], ◌∷◌, ◌++◌}
use Rattle.std.proofs.Common.{length, Option, Some, None, Result, Ok, Err, inl, inr, refl, sym, ap, subst, ◌∙◌}
use Rattle.std.proofs.Common.{append_assoc, arith, length-append}
use Rattle.std.proofs.lemmas.Bool.{lt-ltb, ltb-false, ne_eqb}
use Rattle.byteorder.specs.Endian.{big_number, big_bytes}
use Rattle.byteorder.specs.Numbers.{length-bytes_high_first}
use Rattle.amqp_value.specs.Faults.{fault_at}
use Rattle.amqp_value.specs.Fields.{EncodesLongString}
use Rattle.amqp_value.specs.FirstFault.{PassesCounted, PassesName, IsTextTag, IsNestingTag, FaultInItems, in_item}
use Rattle.amqp_value.specs.FirstFault.{FaultInPairs, in_name, in_value, FaultInValue, no_tag, unknown_tag, too_deep}
use Rattle.amqp_value.specs.FirstFault.{passes, text_passes, count_passes, in_array, in_table, FirstFault, ends, inside}
use Rattle.amqp_value.specs.Reading.{Gives, Reader, fault_here, counted, name_at, width_of, elements, named, after_tag, tagged, tag_of, value_at, table_at}
use Rattle.amqp_value.specs.Encoding.{IsNoTag, EncodesItems, EncodesPairs, tag_octet}
use Rattle.amqp_value.specs.Tables.{read_view}
use Rattle.amqp_value.specs.Values.{Datum, Items, no_items, item, Pairs, no_pairs, pair, items_depth, pairs_depth}
use Rattle.amqp_value.specs.declared.fault.ValueFault.{ValueFault}
use Rattle.amqp_value.specs.declared.fault.ValueFaultKind.{ValueFaultKind}
use Rattle.amqp_value.specs.declared.fault.ValueFaultKind.TheVariants.{Ends, PassesItsEnd, UnknownTag, TooDeep}
use Rattle.amqp_value.specs.declared.tables.Table.{Table}
use Rattle.amqp_value.specs.declared.tag.ScalarTag.{ScalarTag}
use Rattle.amqp_value.specs.declared.tag.Tag.TheVariants as tags
use Rattle.amqp_value.proofs.Complete.{IsComplete, counted-again, name_at-again, value_at-complete}
use Rattle.amqp_value.proofs.Elements.{Consumes, elements-next, named-consumes, named-ok}
use Rattle.amqp_value.proofs.Sound.{counted-is}

-- ---- fields that don't fit

counted-passes : (end : ℕ) (octets : List ℕ) → PassesCounted octets → counted end octets ≡ Err (fault_here end octets PassesItsEnd)
counted-passes end octets (inl short) = rw (lt-ltb _ _ short) refl
counted-passes end octets (inr short) = counted_at (ltb (length octets) 4) refl
  where
    counted_at : (b : Bool) → ltb (length octets) 4 ≡ b → counted end octets ≡ Err (fault_here end octets PassesItsEnd)
    counted_at true is = rw is refl
    counted_at false is =
        let four : 4 ≤ length octets = ltb-false _ _ is in
        let passed : ltb (length octets - 4) (big_number 4 octets) ≡ true = lt-ltb _ _ (omega arith) in
        rw (is, passed) refl

name_at-passes : (end : ℕ) (octets : List ℕ) → PassesName octets → name_at end octets ≡ Err (fault_here end octets PassesItsEnd)
name_at-passes end [] passed = absurd passed
name_at-passes end (n ∷ octets) passed = rw (lt-ltb _ _ passed) refl

place : (at end : ℕ) (octets : List ℕ) (kind : ValueFaultKind) (e : ValueFault) → at + length octets ≡ end → e ≡ fault_at at kind → fault_here end octets kind ≡ e
place at end octets kind e sum is = let same : end - length octets ≡ at = omega arith in ap (λ p. fault_at p kind) same ∙ sym is

-- ---- whole elements at the start

elements-fail : {X : Type 0} (read : Reader X) (end : ℕ) (octets : List ℕ) (e : ValueFault) → Consumes read end → 0 < length octets → read end octets ≡ Err e → elements read end octets ≡ Err e
elements-fail read end octets e consumes long is = elements-next read end consumes octets long ∙ rw is refl

items_fail : (levels : ℕ) (read : Reader Datum) → IsComplete levels read → (end : ℕ) (items : Items) (prefix rest : List ℕ) (e : ValueFault) → EncodesItems items prefix → items_depth items ≤ levels → 0 < length rest → read end rest ≡ Err e
    → elements read end (prefix ++ rest) ≡ Err e
items_fail levels read complete end no_items prefix rest e is within long fails = ap (λ o. elements read end (o ++ rest)) is ∙ elements-fail read end rest e (complete.consumes end) long fails
items_fail levels read complete end (item value items) prefix rest e encodes within long fails =
    let field = encodes.0 in
    let after = encodes.1 in
    let octets : prefix ++ rest ≡ (tag_octet value ∷ field) ++ (after ++ rest) = ap (λ o. o ++ rest) encodes.2 ∙ append_assoc (tag_octet value ∷ field) after rest in
    let first = complete.again end value field (after ++ rest) encodes.3 (omega arith) in
    let others = items_fail levels read complete end items after rest e encodes.4 (omega arith) long fails in
    ap (elements read end) octets ∙ elements-next read end (complete.consumes end) ((tag_octet value ∷ field) ++ (after ++ rest)) (omega arith) ∙ rw (first, others) refl

pairs_fail : (levels : ℕ) (read : Reader Datum) → IsComplete levels read → (end : ℕ) (pairs : Pairs) (prefix rest : List ℕ) (e : ValueFault) → EncodesPairs pairs prefix → pairs_depth pairs ≤ levels → 0 < length rest → named read end rest ≡ Err e
    → elements (named read) end (prefix ++ rest) ≡ Err e
pairs_fail levels read complete end no_pairs prefix rest e is within long fails =
    ap (λ o. elements (named read) end (o ++ rest)) is ∙ elements-fail (named read) end rest e (named-consumes read end (complete.consumes end)) long fails
pairs_fail levels read complete end (pair name value pairs) prefix rest e encodes within long fails =
    let first = encodes.0 in
    let field = encodes.1 in
    let after = encodes.2 in
    let octets : prefix ++ rest ≡ first ++ ((tag_octet value ∷ field) ++ (after ++ rest)) = ap (λ o. o ++ rest) encodes.3 ∙ append_assoc first ((tag_octet value ∷ field) ++ after) rest ∙ ap (λ o. first ++ o) (append_assoc (tag_octet value ∷ field) after rest) in
    let name_is = name_at-again end name first ((tag_octet value ∷ field) ++ (after ++ rest)) encodes.4 in
    let value_is = complete.again end value field (after ++ rest) encodes.5 (omega arith) in
    let both = named-ok read end (first ++ ((tag_octet value ∷ field) ++ (after ++ rest))) name ((tag_octet value ∷ field) ++ (after ++ rest)) (after ++ rest) value name_is value_is in
    let others = pairs_fail levels read complete end pairs after rest e encodes.6 (omega arith) long fails in
    let some : 0 < length (first ++ ((tag_octet value ∷ field) ++ (after ++ rest))) = omega (arith, length-append first ((tag_octet value ∷ field) ++ (after ++ rest))) in
    ap (elements (named read) end) octets ∙ elements-next (named read) end (named-consumes read end (complete.consumes end)) (first ++ ((tag_octet value ∷ field) ++ (after ++ rest))) some ∙ rw (both, others) refl

-- ---- one value

-- what may be read inside
inner_of : ℕ → Option (Reader Datum)
inner_of zero = None
inner_of (suc levels) = Some (value_at levels)

value_at-is : (levels end octet : ℕ) (rest : List ℕ) → value_at levels end (octet ∷ rest) ≡ after_tag (inner_of levels) end (octet ∷ rest) rest (tag_of octet)
unfolding value_at tagged inner_of
value_at-is zero end octet rest = refl
value_at-is (suc levels) end octet rest = refl

value_at-nil : (levels end : ℕ) → value_at levels end [] ≡ Err (fault_here end [] PassesItsEnd)
unfolding value_at tagged
value_at-nil zero end = refl
value_at-nil (suc levels) end = refl

none_of : (octet : ℕ) → IsNoTag octet → tag_of octet ≡ None
none_of octet n =
    rw (
      ne_eqb octet 116 n.0,
      ne_eqb octet 98 n.1.0,
      ne_eqb octet 66 n.1.1.0,
      ne_eqb octet 115 n.1.1.1.0,
      ne_eqb octet 85 n.1.1.1.1.0,
      ne_eqb octet 117 n.1.1.1.1.1.0,
      ne_eqb octet 73 n.1.1.1.1.1.1.0,
      ne_eqb octet 105 n.1.1.1.1.1.1.1.0,
      ne_eqb octet 108 n.1.1.1.1.1.1.1.1.0,
      ne_eqb octet 76 n.1.1.1.1.1.1.1.1.1.0,
      ne_eqb octet 102 n.1.1.1.1.1.1.1.1.1.1.0,
      ne_eqb octet 100 n.1.1.1.1.1.1.1.1.1.1.1.0,
      ne_eqb octet 68 n.1.1.1.1.1.1.1.1.1.1.1.1.0,
      ne_eqb octet 84 n.1.1.1.1.1.1.1.1.1.1.1.1.1.0,
      ne_eqb octet 86 n.1.1.1.1.1.1.1.1.1.1.1.1.1.1.0,
      ne_eqb octet 83 n.1.1.1.1.1.1.1.1.1.1.1.1.1.1.1.0,
      ne_eqb octet 120 n.1.1.1.1.1.1.1.1.1.1.1.1.1.1.1.1.0,
      ne_eqb octet 65 n.1.1.1.1.1.1.1.1.1.1.1.1.1.1.1.1.1.0,
      ne_eqb octet 70 n.1.1.1.1.1.1.1.1.1.1.1.1.1.1.1.1.1.1.0,
    ) refl

named-err_name : (read : Reader Datum) (end : ℕ) (octets : List ℕ) (e : ValueFault) → name_at end octets ≡ Err e → named read end octets ≡ Err e
unfolding named
named-err_name read end octets e is = rw is refl

named-err_value : (read : Reader Datum) (end : ℕ) (octets name field : List ℕ) (e : ValueFault) → name_at end octets ≡ Ok (name, field) → read end field ≡ Err e → named read end octets ≡ Err e
unfolding named
named-err_value read end octets name field e first is = rw (first, is) refl

some_name : (octets : List ℕ) → PassesName octets → 0 < length octets
some_name [] passed = absurd passed
some_name (n ∷ octets) passed = omega arith

-- ---- what stands after a tag

after_unknown : (levels end octet : ℕ) (rest : List ℕ) → IsNoTag octet → value_at levels end (octet ∷ rest) ≡ Err (fault_here end (octet ∷ rest) UnknownTag)
unfolding after_tag
after_unknown levels end octet rest none = value_at-is levels end octet rest ∙ rw (none_of octet none) refl

after_deep : (levels end octet : ℕ) (rest : List ℕ) → IsNestingTag octet → levels ≡ 0 → value_at levels end (octet ∷ rest) ≡ Err (fault_here end (octet ∷ rest) TooDeep)
unfolding after_tag inner_of
after_deep levels end octet rest (inl is) bare = value_at-is levels end octet rest ∙ rw (is, bare) refl
after_deep levels end octet rest (inr is) bare = value_at-is levels end octet rest ∙ rw (is, bare) refl

after_fixed : (levels end octet : ℕ) (rest : List ℕ) (tag : ScalarTag) → tag_of octet ≡ Some (tags.Fixed tag) → length rest < width_of tag → value_at levels end (octet ∷ rest) ≡ Err (fault_here end rest PassesItsEnd)
unfolding after_tag
after_fixed levels end octet rest tag is short = value_at-is levels end octet rest ∙ rw (is, lt-ltb _ _ short) refl

after_text : (levels end octet : ℕ) (rest : List ℕ) → IsTextTag octet → PassesCounted rest → value_at levels end (octet ∷ rest) ≡ Err (fault_here end rest PassesItsEnd)
unfolding after_tag
after_text levels end octet rest (inl is) passed = value_at-is levels end octet rest ∙ rw (is, counted-passes end rest passed) refl
after_text levels end octet rest (inr is) passed = value_at-is levels end octet rest ∙ rw (is, counted-passes end rest passed) refl

after_count : (levels end octet : ℕ) (rest : List ℕ) → IsNestingTag octet → 0 < levels → PassesCounted rest → value_at levels end (octet ∷ rest) ≡ Err (fault_here end rest PassesItsEnd)
unfolding after_tag inner_of
after_count zero end octet rest nests some passed = absurd (omega arith)
after_count (suc levels) end octet rest (inl is) some passed = value_at-is (suc levels) end octet rest ∙ rw (is, counted-passes end rest passed) refl
after_count (suc levels) end octet rest (inr is) some passed = value_at-is (suc levels) end octet rest ∙ rw (is, counted-passes end rest passed) refl

after_array : (inner end : ℕ) (field body after : List ℕ) (e : ValueFault) → EncodesLongString body field → elements (value_at inner) (end - length after) body ≡ Err e → value_at (suc inner) end (65 ∷ (field ++ after)) ≡ Err e
unfolding after_tag inner_of
after_array inner end field body after e encodes fails = value_at-is (suc inner) end 65 (field ++ after) ∙ rw (counted-again end body field after encodes, fails) refl

after_table : (inner end : ℕ) (field body after : List ℕ) (e : ValueFault) → EncodesLongString body field → elements (named (value_at inner)) (end - length after) body ≡ Err e → value_at (suc inner) end (70 ∷ (field ++ after)) ≡ Err e
unfolding after_tag inner_of
after_table inner end field body after e encodes fails = value_at-is (suc inner) end 70 (field ++ after) ∙ rw (counted-again end body field after encodes, fails) refl

-- where the octets of an array or a table begin and end
inside_place : (at end octet : ℕ) (octets field body after : List ℕ) → at + length octets ≡ end → octets ≡ octet ∷ (field ++ after) → EncodesLongString body field → (at + 5) + length body ≡ end - length after
inside_place at end octet octets field body after sum is encodes =
    let whole : length octets ≡ suc (length (field ++ after)) = ap length is in
    let parts : length (field ++ after) ≡ length field + length after = length-append field after in
    let counted_len : length field ≡ length (big_bytes 4 (length body)) + length body = ap length encodes.octets_are ∙ length-append (big_bytes 4 (length body)) body in
    let four : length (big_bytes 4 (length body)) ≡ 4 = length-bytes_high_first 4 (length body) in
    omega arith

-- the fault of the octets after a tag
later : (at end octet : ℕ) (octets rest : List ℕ) (e : ValueFault) → at + length octets ≡ end → octets ≡ octet ∷ rest → e ≡ fault_at (at + 1) PassesItsEnd → fault_here end rest PassesItsEnd ≡ e
later at end octet octets rest e sum is told =
    let whole : length octets ≡ suc (length rest) = ap length is in
    place (at + 1) end rest PassesItsEnd e (omega arith) told

rest_place : (at end : ℕ) (octets prefix rest : List ℕ) → at + length octets ≡ end → octets ≡ prefix ++ rest → (at + length prefix) + length rest ≡ end
rest_place at end octets prefix rest sum is = let whole : length octets ≡ length prefix + length rest = ap length is ∙ length-append prefix rest in omega arith

mutual
  told_items : (levels at end : ℕ) (octets : List ℕ) (e : ValueFault) → at + length octets ≡ end → FaultInItems levels at octets e → elements (value_at levels) end octets ≡ Err e
  told_items levels at end octets e sum (in_item items prefix rest is (encodes, within) long fault) =
      ap (elements (value_at levels) end) is
      ∙ items_fail levels (value_at levels) (value_at-complete levels) end items prefix rest e encodes within long (told_value levels (at + length prefix) end rest e (rest_place at end octets prefix rest sum is) fault)

  told_pairs : (levels at end : ℕ) (octets : List ℕ) (e : ValueFault) → at + length octets ≡ end → FaultInPairs levels at octets e → elements (named (value_at levels)) end octets ≡ Err e
  told_pairs levels at end octets e sum (in_name pairs prefix rest is (encodes, within) passed told) =
      let here = name_at-passes end rest passed ∙ ap (λ f. Err f) (place (at + length prefix) end rest PassesItsEnd e (rest_place at end octets prefix rest sum is) told) in
      ap (elements (named (value_at levels)) end) is
      ∙ pairs_fail levels (value_at levels) (value_at-complete levels) end pairs prefix rest e encodes within (some_name rest passed) (named-err_name (value_at levels) end rest e here)
  told_pairs levels at end octets e sum (in_value pairs name prefix first rest is (encodes, within) named_encoded fault) =
      let read = value_at levels in
      let outer = rest_place at end octets prefix (first ++ rest) sum is in
      let value = told_value levels (at + length prefix + length first) end rest e (rest_place (at + length prefix) end (first ++ rest) first rest outer refl) fault in
      let first_len : length first ≡ suc (length name) = ap length named_encoded.octets_are in
      let long : 0 < length (first ++ rest) = omega (arith, length-append first rest) in
      ap (elements (named read) end) is
      ∙ pairs_fail levels read (value_at-complete levels) end pairs prefix (first ++ rest) e encodes within long (named-err_value read end (first ++ rest) name rest e (name_at-again end name first rest named_encoded) value)

  told_value : (levels at end : ℕ) (octets : List ℕ) (e : ValueFault) → at + length octets ≡ end → FaultInValue levels at octets e → value_at levels end octets ≡ Err e
  told_value levels at end octets e sum (no_tag is told) =
      ap (value_at levels end) is ∙ value_at-nil levels end ∙ ap (λ f. Err f) (place at end [] PassesItsEnd e (subst (λ o. at + length o ≡ end) is sum) told)
  told_value levels at end octets e sum (unknown_tag octet rest is none told) =
      ap (value_at levels end) is ∙ after_unknown levels end octet rest none ∙ ap (λ f. Err f) (place at end (octet ∷ rest) UnknownTag e (subst (λ o. at + length o ≡ end) is sum) told)
  told_value levels at end octets e sum (too_deep octet rest is nests bare told) =
      ap (value_at levels end) is ∙ after_deep levels end octet rest nests bare ∙ ap (λ f. Err f) (place at end (octet ∷ rest) TooDeep e (subst (λ o. at + length o ≡ end) is sum) told)
  told_value levels at end octets e sum (passes octet rest tag is found short told) =
      ap (value_at levels end) is ∙ after_fixed levels end octet rest tag found short ∙ ap (λ f. Err f) (later at end octet octets rest e sum is told)
  told_value levels at end octets e sum (text_passes octet rest is texts passed told) =
      ap (value_at levels end) is ∙ after_text levels end octet rest texts passed ∙ ap (λ f. Err f) (later at end octet octets rest e sum is told)
  told_value levels at end octets e sum (count_passes octet rest is nests some passed told) =
      ap (value_at levels end) is ∙ after_count levels end octet rest nests some passed ∙ ap (λ f. Err f) (later at end octet octets rest e sum is told)
  told_value levels at end octets e sum (in_array inner field body after is encodes one fault) =
      ap (λ l. value_at l end octets) one ∙ ap (value_at (suc inner) end) is
      ∙ after_array inner end field body after e encodes (told_items inner (at + 5) (end - length after) body e (inside_place at end 65 octets field body after sum is encodes) fault)
  told_value levels at end octets e sum (in_table inner field body after is encodes one fault) =
      ap (λ l. value_at l end octets) one ∙ ap (value_at (suc inner) end) is
      ∙ after_table inner end field body after e encodes (told_pairs inner (at + 5) (end - length after) body e (inside_place at end 70 octets field body after sum is encodes) fault)

-- ---- tables

table_ends : (octets : List ℕ) → PassesCounted octets → table_at octets ≡ Err (fault_at 0 Ends)
unfolding table_at
table_ends octets (inl short) = rw (lt-ltb _ _ short) refl
table_ends octets (inr short) = ends_at (ltb (length octets) 4) refl
  where
    ends_at : (b : Bool) → ltb (length octets) 4 ≡ b → table_at octets ≡ Err (fault_at 0 Ends)
    ends_at true is = rw is refl
    ends_at false is =
        let four : 4 ≤ length octets = ltb-false _ _ is in
        let passed : ltb (length octets - 4) (big_number 4 octets) ≡ true = lt-ltb _ _ (omega arith) in
        rw (is, passed) refl

table_inside : (field body after : List ℕ) (e : ValueFault) → EncodesLongString body field → FaultInPairs 31 4 body e → table_at (field ++ after) ≡ Err e
unfolding table_at
table_inside field body after e encodes fault =
    let octets = field ++ after in
    let c = counted-is (length octets) octets body after (counted-again (length octets) body field after encodes) in
    rw (c.four, c.enough, c.body_is, told_pairs 31 4 (4 + big_number 4 octets) body e (ap (λ m. 4 + m) (sym c.count_is)) fault) refl

pub first_fault_told : (octets : List ℕ) (e : ValueFault) → FirstFault octets e → table_at octets ≡ Err e
first_fault_told octets e (ends passed told) = table_ends octets passed ∙ ap (λ f. Err f) (sym told)
first_fault_told octets e (inside field body after is encodes fault) = ap table_at is ∙ table_inside field body after e encodes fault

-- what a call that gives this may promise of every first fault
pub told : (octets : List ℕ) (r : Result (Table × ℕ) ValueFault) → Gives read_view r (table_at octets) → (e : ValueFault) → FirstFault octets e → Gives read_view r (Err e)
told octets r given e fault = subst (Gives read_view r) (first_fault_told octets e fault) given

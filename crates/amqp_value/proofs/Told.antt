-- A fault that is read is that of the first element that can't be read.
use Rattle.std.proofs.Common.{◌≡◌, ℕ, zero, suc, max, ◌-◌, ◌+◌, ◌≤◌, ◌<◌, Bool, true, false, cond, ltb, List, [], ◌∷◌}
use Rattle.std.proofs.Common.{◌++◌, length, take, drop, Option, Some, None, Result, Ok, Err, inl, inr, refl, sym, ap}
use Rattle.std.proofs.Common.{subst, ◌∙◌, append_assoc, arith, length-append, length-take, length-drop}
use Rattle.std.specs.Prelude.{◌⊎◌, IfErr}
use Rattle.std.proofs.lemmas.Bool.{ltb-true, ltb-false}
use Rattle.byteorder.specs.Endian.{big_number, big_bytes}
use Rattle.byteorder.specs.Numbers.{length-bytes_high_first}
use Rattle.amqp_value.specs.Faults.{fault_at, out_of_memory}
use Rattle.amqp_value.specs.Fields.{EncodesLongString}
use Rattle.amqp_value.specs.FirstFault.{PassesCounted, PassesName, IsTextTag, FaultInItems, in_item, FaultInPairs}
use Rattle.amqp_value.specs.FirstFault.{in_name, in_value, FaultInValue, no_tag, unknown_tag, too_deep, passes}
use Rattle.amqp_value.specs.FirstFault.{text_passes, count_passes, in_array, in_table, FirstFault, ends, inside}
use Rattle.amqp_value.specs.Reading.{◌>>=◌, Gives, Read, Reader, fault_here, prefix_of, counted, name_at, width_of, many, elements, named, after_tag, tagged, tag_of, value_at, table_at}
use Rattle.amqp_value.specs.Encoding.{tag_octet}
use Rattle.amqp_value.specs.Tables.{read_view}
use Rattle.amqp_value.specs.Values.{Datum, long_string, byte_array, no_items, item, no_pairs, pair, depth, items_depth, pairs_depth}
use Rattle.amqp_value.specs.declared.fault.ValueFault.{ValueFault}
use Rattle.amqp_value.specs.declared.fault.ValueFaultKind.{ValueFaultKind}
use Rattle.amqp_value.specs.declared.fault.ValueFaultKind.TheVariants.{PassesItsEnd, UnknownTag, TooDeep}
use Rattle.amqp_value.specs.declared.tables.Table.{Table}
use Rattle.amqp_value.specs.declared.tag.ScalarTag.{ScalarTag}
use Rattle.amqp_value.specs.declared.tag.Tag.{Tag}
use Rattle.amqp_value.specs.declared.tag.Tag.TheVariants as tags
use Rattle.amqp_value.proofs.Elements.{bind_ok, ok_is}
use Rattle.amqp_value.proofs.Numbers.{IsBytes, IsBytes-rest}
use Rattle.amqp_value.proofs.Sound.{IsSound, TakesValue, TakesName, counted-takes, name_at-takes, value_at-sound}
use Rattle.amqp_value.proofs.Tags.{tag_of-octet, tag_of-none}

-- ---- steps that failed

abbrev failed : {A : Type 0} → ValueFault → Result A ValueFault
failed e = Err e

err_is : {A : Type 0} (d e : ValueFault) → failed {A = A} d ≡ failed e → d ≡ e
err_is d e h = cc

-- the first step failed, or the second did
bind_err : {A B : Type 0} (r : Result A ValueFault) (f : A → Result B ValueFault) (e : ValueFault) → (r >>= f) ≡ Err e → (r ≡ Err e) ⊎ ((x : A) × (r ≡ Ok x) × (f x ≡ Err e))
bind_err {A = A} (Ok x) f e h = inr (x, refl, h)
bind_err {A = A} {B = B} (Err d) f e h = inl (ap (λ k. Err k) (err_is {A = B} d e h))

guard_err : {A : Type 0} (b : Bool) (d : ValueFault) (r : Result A ValueFault) (e : ValueFault) → cond b (Err d) r ≡ Err e → ((b ≡ true) × (e ≡ d)) ⊎ ((b ≡ false) × (r ≡ Err e))
guard_err {A = A} true d r e h = inl (refl, sym (err_is {A = A} d e h))
guard_err false d r e h = inr (refl, h)

no_err : {A : Type 0} (x : A) (e : ValueFault) → {P : Type 0} → Ok x ≡ failed e → P
no_err x e h = absurd cc

prefix_of-err : (n end : ℕ) (octets : List ℕ) (e : ValueFault) → prefix_of n end octets ≡ Err e → (length octets < n) × (e ≡ fault_here end octets PassesItsEnd)
prefix_of-err n end octets e h =
    elim (guard_err (ltb (length octets) n) _ _ e h) [
      | inl g ↦ (ltb-true _ _ g.0, g.1)
      | inr g ↦ no_err _ e g.1
    ]

counted-err : (end : ℕ) (octets : List ℕ) (e : ValueFault) → counted end octets ≡ Err e → PassesCounted octets × (e ≡ fault_here end octets PassesItsEnd)
counted-err end octets e h =
    elim (guard_err (ltb (length octets) 4) _ _ e h) [
      | inl g ↦ (inl (ltb-true _ _ g.0), g.1)
      | inr g ↦ elim (guard_err (ltb (length octets - 4) (big_number 4 octets)) _ _ e g.1) [
        | inl k ↦ (let short = ltb-true _ _ k.0 in let four = ltb-false _ _ g.0 in inr (omega arith), k.1)
        | inr k ↦ no_err _ e k.1
      ]
    ]

name_at-err : (end octet : ℕ) (octets : List ℕ) (e : ValueFault) → name_at end (octet ∷ octets) ≡ Err e → PassesName (octet ∷ octets) × (e ≡ fault_here end (octet ∷ octets) PassesItsEnd)
name_at-err end octet octets e h =
    elim (guard_err (ltb (length octets) octet) _ _ e h) [
      | inl g ↦ (ltb-true _ _ g.0, g.1)
      | inr g ↦ no_err _ e g.1
    ]

-- a fault of the octets that begin at a place
here : (at end : ℕ) (octets : List ℕ) (kind : ValueFaultKind) → at + length octets ≡ end → fault_here end octets kind ≡ fault_at at kind
here at end octets kind sum = let place : end - length octets ≡ at = omega arith in ap (λ p. fault_at p kind) place

-- ---- values, one after the other

-- a reader fails only where it says
record IsTold (levels : ℕ) (read : Reader Datum) : Type 0 where
  tells : (at end : ℕ) (octets : List ℕ) (e : ValueFault) → at + length octets ≡ end → IsBytes octets → read end octets ≡ Err e → FaultInValue levels at octets e

at_first : (levels at : ℕ) (octets : List ℕ) (e : ValueFault) → FaultInValue levels at octets e → FaultInValue levels (at + 0) octets e
at_first levels at octets e fault = let same : at ≡ at + 0 = omega arith in subst (λ a. FaultInValue levels a octets e) same fault

item_later : (levels at : ℕ) (octets rest : List ℕ) (value : Datum) (e : ValueFault) (takes : TakesValue levels octets value rest) → FaultInItems levels (at + length (tag_octet value ∷ takes.field)) rest e → FaultInItems levels at octets e
item_later levels at octets rest value e takes (in_item items prefix after is (encodes, within) long fault) =
    let first = tag_octet value ∷ takes.field in
    let whole : octets ≡ (first ++ prefix) ++ after = takes.parts ∙ ap (λ o. first ++ o) is ∙ sym (append_assoc first prefix after) in
    let place : (at + length first) + length prefix ≡ at + length (first ++ prefix) = omega (arith, length-append first prefix) in
    let both : max (depth value) (items_depth items) ≤ levels = let one = takes.within in omega arith in
    in_item (item value items) (first ++ prefix) after whole ((takes.field, prefix, refl, takes.encodes, encodes), both) long (subst (λ a. FaultInValue levels a after e) place fault)

many-items_told : (levels : ℕ) (read : Reader Datum) → IsSound levels read → IsTold levels read → (fuel at end : ℕ) (octets : List ℕ) (e : ValueFault) → at + length octets ≡ end → IsBytes octets
    → many read fuel end octets ≡ Err e → FaultInItems levels at octets e
unfolding many
many-items_told levels read sound told fuel at end [] e sum fits h = no_err _ e h
many-items_told levels read sound told zero at end (octet ∷ octets) e sum fits h = no_err _ e h
many-items_told levels read sound told (suc fuel) at end (octet ∷ octets) e sum fits h =
    elim (bind_err (read end (octet ∷ octets)) _ e h) [
      | inl first ↦ in_item no_items [] (octet ∷ octets) refl (refl, omega arith) (omega arith) (at_first levels at (octet ∷ octets) e (told.tells at end (octet ∷ octets) e sum fits first))
      | inr more ↦ (
          let x = more.0 in
          let takes = sound.takes end (octet ∷ octets) x fits more.1 in
          let first = tag_octet x.0 ∷ takes.field in
          let len : length (octet ∷ octets) ≡ length first + length x.1 = ap length takes.parts ∙ length-append first x.1 in
          elim (bind_err (many read fuel end x.1) _ e more.2) [
            | inl later ↦ item_later levels at (octet ∷ octets) x.1 x.0 e takes (many-items_told levels read sound told fuel (at + length first) end x.1 e (omega arith) takes.after_fits later)
            | inr none ↦ no_err _ e none.2
          ])
    ]

pair_later : (levels at : ℕ) (octets field rest : List ℕ) (name : List ℕ) (value : Datum) (e : ValueFault) (named : TakesName octets name field) (takes : TakesValue levels field value rest)
    → FaultInPairs levels (at + length named.field + length (tag_octet value ∷ takes.field)) rest e → FaultInPairs levels at octets e
pair_later levels at octets field rest name value e named takes (in_name pairs prefix after is (encodes, within) passed fault) =
    let second = tag_octet value ∷ takes.field in
    let whole : octets ≡ (named.field ++ (second ++ prefix)) ++ after =
    named.parts ∙ ap (λ o. named.field ++ o) (takes.parts ∙ ap (λ o. second ++ o) is) ∙ simp append_assoc in
    let place : at + length named.field + length second + length prefix ≡ at + length (named.field ++ (second ++ prefix)) = omega (arith, length-append named.field (second ++ prefix), length-append second prefix) in
    let both : max (depth value) (pairs_depth pairs) ≤ levels = let one = takes.within in omega arith in
    in_name (pair name value pairs) (named.field ++ (second ++ prefix)) after whole ((named.field, takes.field, prefix, refl, named.encodes, takes.encodes, encodes), both) passed (fault ∙ ap (λ a. fault_at a PassesItsEnd) place)
pair_later levels at octets field rest name value e named takes (in_value pairs other prefix first after is (encodes, within) other_encoded fault) =
    let second = tag_octet value ∷ takes.field in
    let whole : octets ≡ (named.field ++ (second ++ prefix)) ++ (first ++ after) =
    named.parts ∙ ap (λ o. named.field ++ o) (takes.parts ∙ ap (λ o. second ++ o) is) ∙ simp append_assoc in
    let place : at + length named.field + length second + length prefix + length first ≡ at + length (named.field ++ (second ++ prefix)) + length first = omega (arith, length-append named.field (second ++ prefix), length-append second prefix) in
    let both : max (depth value) (pairs_depth pairs) ≤ levels = let one = takes.within in omega arith in
    in_value (pair name value pairs) other (named.field ++ (second ++ prefix)) first after whole ((named.field, takes.field, prefix, refl, named.encodes, takes.encodes, encodes), both) other_encoded
    (subst (λ a. FaultInValue levels a after e) place fault)

-- a pair was read, and one after it fails
many-pairs_later : (levels : ℕ) (read : Reader Datum) → IsSound levels read → IsTold levels read → (fuel at end octet : ℕ) (octets : List ℕ) (e : ValueFault) (x : (List ℕ × Datum) × List ℕ) → at + length (octet ∷ octets) ≡ end
    → IsBytes (octet ∷ octets) → named read end (octet ∷ octets) ≡ Ok x
    → ((a : ℕ) (rest : List ℕ) → a + length rest ≡ end → IsBytes rest → many (named read) fuel end rest ≡ Err e → FaultInPairs levels a rest e)
    → (many (named read) fuel end x.1 >>= λ others. Ok (x.0 ∷ others)) ≡ Err e → FaultInPairs levels at (octet ∷ octets) e
unfolding named
many-pairs_later levels read sound told fuel at end octet octets e x sum fits is again h =
    let n = bind_ok (name_at end (octet ∷ octets)) _ x is in
    let v = bind_ok (read end n.0.1) _ x n.2 in
    let same : ((n.0.0, v.0.0), v.0.1) ≡ x = ok_is _ _ v.2 in
    let after : v.0.1 ≡ x.1 = ap (λ y. y.1) same in
    let name = name_at-takes end (octet ∷ octets) n.0 fits n.1 in
    let takes = sound.takes end n.0.1 v.0 name.after_fits v.1 in
    let second = tag_octet v.0.0 ∷ takes.field in
    let len : length (octet ∷ octets) ≡ length name.field + length n.0.1 = ap length name.parts ∙ length-append name.field n.0.1 in
    let len2 : length n.0.1 ≡ length second + length v.0.1 = ap length takes.parts ∙ length-append second v.0.1 in
    elim (bind_err (many (named read) fuel end x.1) _ e h) [
      | inl later ↦ pair_later levels at (octet ∷ octets) n.0.1 v.0.1 n.0.0 v.0.0 e name takes
          (again (at + length name.field + length second) v.0.1 (omega arith) takes.after_fits (ap (λ o. many (named read) fuel end o) after ∙ later))
      | inr none ↦ no_err _ e none.2
    ]

many-pairs_told : (levels : ℕ) (read : Reader Datum) → IsSound levels read → IsTold levels read → (fuel at end : ℕ) (octets : List ℕ) (e : ValueFault) → at + length octets ≡ end → IsBytes octets
    → many (named read) fuel end octets ≡ Err e → FaultInPairs levels at octets e
unfolding many named
many-pairs_told levels read sound told fuel at end [] e sum fits h = no_err _ e h
many-pairs_told levels read sound told zero at end (octet ∷ octets) e sum fits h = no_err _ e h
many-pairs_told levels read sound told (suc fuel) at end (octet ∷ octets) e sum fits h =
    elim (bind_err (named read end (octet ∷ octets)) _ e h) [
      | inl failed_pair ↦ elim (bind_err (name_at end (octet ∷ octets)) _ e failed_pair) [
        | inl no_name ↦ (
            let is = name_at-err end octet octets e no_name in
            let place : at + length (octet ∷ octets) ≡ end = sum in
            let at_place : at ≡ at + 0 = omega arith in
            in_name no_pairs [] (octet ∷ octets) refl (refl, omega arith) is.0 (is.1 ∙ here at end (octet ∷ octets) PassesItsEnd sum ∙ ap (λ a. fault_at a PassesItsEnd) at_place))
        | inr n ↦ (
            let name = name_at-takes end (octet ∷ octets) n.0 fits n.1 in
            let len : length (octet ∷ octets) ≡ length name.field + length n.0.1 = ap length name.parts ∙ length-append name.field n.0.1 in
            let at_place : at + length name.field ≡ at + 0 + length name.field = omega arith in
            elim (bind_err (read end n.0.1) _ e n.2) [
              | inl no_value ↦ in_value no_pairs n.0.0 [] name.field n.0.1 name.parts (refl, omega arith) name.encodes
                  (subst (λ a. FaultInValue levels a n.0.1 e) at_place (told.tells (at + length name.field) end n.0.1 e (omega arith) name.after_fits no_value))
              | inr none ↦ no_err _ e none.2
            ])
      ]
      | inr more ↦ many-pairs_later levels read sound told fuel at end octet octets e more.0 sum fits more.1 (λ a b rest_sum rest_fits later. many-pairs_told levels read sound told fuel a end b e rest_sum rest_fits later) more.2
    ]

elements-items_told : (levels : ℕ) (read : Reader Datum) → IsSound levels read → IsTold levels read → (at end : ℕ) (octets : List ℕ) (e : ValueFault) → at + length octets ≡ end → IsBytes octets
    → elements read end octets ≡ Err e → FaultInItems levels at octets e
unfolding elements
elements-items_told levels read sound told at end octets e sum fits h = many-items_told levels read sound told (length octets) at end octets e sum fits h

elements-pairs_told : (levels : ℕ) (read : Reader Datum) → IsSound levels read → IsTold levels read → (at end : ℕ) (octets : List ℕ) (e : ValueFault) → at + length octets ≡ end → IsBytes octets
    → elements (named read) end octets ≡ Err e → FaultInPairs levels at octets e
unfolding elements
elements-pairs_told levels read sound told at end octets e sum fits h = many-pairs_told levels read sound told (length octets) at end octets e sum fits h

-- ---- a tag and what stands after it

-- the octets after a tag
after_one : (at end octet : ℕ) (rest : List ℕ) → at + length (octet ∷ rest) ≡ end → (at + 1) + length rest ≡ end
after_one at end octet rest sum = omega arith

passes_here : (at end octet : ℕ) (rest : List ℕ) (e : ValueFault) → at + length (octet ∷ rest) ≡ end → e ≡ fault_here end rest PassesItsEnd → e ≡ fault_at (at + 1) PassesItsEnd
passes_here at end octet rest e sum is = is ∙ here (at + 1) end rest PassesItsEnd (after_one at end octet rest sum)

-- where the octets of an array or a table begin and end
body_place : (at end octet : ℕ) (rest field body after : List ℕ) → at + length (octet ∷ rest) ≡ end → rest ≡ field ++ after → EncodesLongString body field → (at + 5) + length body ≡ end - length after
body_place at end octet rest field body after sum parts encodes =
    let whole : length rest ≡ length field + length after = ap length parts ∙ length-append field after in
    let counted_len : length field ≡ length (big_bytes 4 (length body)) + length body = ap length encodes.octets_are ∙ length-append (big_bytes 4 (length body)) body in
    let four : length (big_bytes 4 (length body)) ≡ 4 = length-bytes_high_first 4 (length body) in
    omega arith

fixed_told : (levels : ℕ) (inner : Option (Reader Datum)) (at end octet : ℕ) (rest : List ℕ) (tag : ScalarTag) (e : ValueFault) → at + length (octet ∷ rest) ≡ end → tag_of octet ≡ Some (tags.Fixed tag)
    → after_tag inner end (octet ∷ rest) rest (Some (tags.Fixed tag)) ≡ Err e → FaultInValue levels at (octet ∷ rest) e
unfolding after_tag
fixed_told levels inner at end octet rest tag e sum is h =
    elim (bind_err (prefix_of (width_of tag) end rest) _ e h) [
      | inl short ↦ (let f = prefix_of-err (width_of tag) end rest e short in passes octet rest tag refl is f.0 (passes_here at end octet rest e sum f.1))
      | inr none ↦ no_err _ e none.2
    ]

-- a text that was read, as a value
abbrev made : (List ℕ → Datum) → (List ℕ × List ℕ) → Read Datum
made make text = Ok (make text.0, text.1)

text_told : (levels : ℕ) (at end octet : ℕ) (rest : List ℕ) (make : List ℕ → Datum) (e : ValueFault) → at + length (octet ∷ rest) ≡ end → IsTextTag octet
    → (counted end rest >>= made make) ≡ Err e → FaultInValue levels at (octet ∷ rest) e
text_told levels at end octet rest make e sum is h =
    elim (bind_err (counted end rest) _ e h) [
      | inl short ↦ (let f = counted-err end rest e short in text_passes octet rest refl is f.0 (passes_here at end octet rest e sum f.1))
      | inr none ↦ no_err _ e none.2
    ]

-- what is told of one level, given what may stand inside
record TellsAfter (levels : ℕ) (inner : Option (Reader Datum)) : Type 0 where
  after_tells : (at end octet : ℕ) (rest : List ℕ) (tag : Tag) (e : ValueFault) → at + length (octet ∷ rest) ≡ end → IsBytes rest → tag_of octet ≡ Some tag
      → after_tag inner end (octet ∷ rest) rest (Some tag) ≡ Err e → FaultInValue levels at (octet ∷ rest) e

bare_told : (at end octet : ℕ) (rest : List ℕ) (tag : Tag) (e : ValueFault) → at + length (octet ∷ rest) ≡ end → IsBytes rest → tag_of octet ≡ Some tag
    → after_tag None end (octet ∷ rest) rest (Some tag) ≡ Err e → FaultInValue 0 at (octet ∷ rest) e
unfolding after_tag
bare_told at end octet rest (tags.Fixed tag) e sum fits is h = fixed_told 0 None at end octet rest tag e sum is h
bare_told at end octet rest tags.LongString e sum fits is h = text_told 0 at end octet rest long_string e sum (inl (tag_of-octet octet tags.LongString is)) h
bare_told at end octet rest tags.ByteArray e sum fits is h = text_told 0 at end octet rest byte_array e sum (inr (tag_of-octet octet tags.ByteArray is)) h
bare_told at end octet rest tags.Array e sum fits is h =
    too_deep octet rest refl (inl (tag_of-octet octet tags.Array is)) refl (sym (err_is {A = Datum × List ℕ} _ e h) ∙ here at end (octet ∷ rest) TooDeep sum)
bare_told at end octet rest tags.Table e sum fits is h =
    too_deep octet rest refl (inr (tag_of-octet octet tags.Table is)) refl (sym (err_is {A = Datum × List ℕ} _ e h) ∙ here at end (octet ∷ rest) TooDeep sum)

nested_told : (levels : ℕ) (read : Reader Datum) → IsSound levels read → IsTold levels read → (at end octet : ℕ) (rest : List ℕ) (tag : Tag) (e : ValueFault) → at + length (octet ∷ rest) ≡ end → IsBytes rest
    → tag_of octet ≡ Some tag → after_tag (Some read) end (octet ∷ rest) rest (Some tag) ≡ Err e → FaultInValue (suc levels) at (octet ∷ rest) e
unfolding after_tag
nested_told levels read sound told at end octet rest (tags.Fixed tag) e sum fits is h = fixed_told (suc levels) (Some read) at end octet rest tag e sum is h
nested_told levels read sound told at end octet rest tags.LongString e sum fits is h = text_told (suc levels) at end octet rest long_string e sum (inl (tag_of-octet octet tags.LongString is)) h
nested_told levels read sound told at end octet rest tags.ByteArray e sum fits is h = text_told (suc levels) at end octet rest byte_array e sum (inr (tag_of-octet octet tags.ByteArray is)) h
nested_told levels read sound told at end octet rest tags.Array e sum fits is h =
    let tag_is = tag_of-octet octet tags.Array is in
    elim (bind_err (counted end rest) _ e h) [
      | inl short ↦ (let f = counted-err end rest e short in count_passes octet rest refl (inl tag_is) (omega arith) f.0 (passes_here at end octet rest e sum f.1))
      | inr b ↦ (
          let takes = counted-takes end rest b.0 fits b.1 in
          elim (bind_err (elements read (end - length b.0.1) b.0.0) _ e b.2) [
            | inl later ↦ in_array levels takes.field b.0.0 b.0.1 (ap (λ o. o ∷ rest) tag_is ∙ ap (λ o. 65 ∷ o) takes.parts) takes.encodes refl
                (elements-items_told levels read sound told (at + 5) (end - length b.0.1) b.0.0 e (body_place at end octet rest takes.field b.0.0 b.0.1 sum takes.parts takes.encodes) takes.text_fits later)
            | inr none ↦ no_err _ e none.2
          ])
    ]
nested_told levels read sound told at end octet rest tags.Table e sum fits is h =
    let tag_is = tag_of-octet octet tags.Table is in
    elim (bind_err (counted end rest) _ e h) [
      | inl short ↦ (let f = counted-err end rest e short in count_passes octet rest refl (inr tag_is) (omega arith) f.0 (passes_here at end octet rest e sum f.1))
      | inr b ↦ (
          let takes = counted-takes end rest b.0 fits b.1 in
          elim (bind_err (elements (named read) (end - length b.0.1) b.0.0) _ e b.2) [
            | inl later ↦ in_table levels takes.field b.0.0 b.0.1 (ap (λ o. o ∷ rest) tag_is ∙ ap (λ o. 70 ∷ o) takes.parts) takes.encodes refl
                (elements-pairs_told levels read sound told (at + 5) (end - length b.0.1) b.0.0 e (body_place at end octet rest takes.field b.0.0 b.0.1 sum takes.parts takes.encodes) takes.text_fits later)
            | inr none ↦ no_err _ e none.2
          ])
    ]

found_told : (levels : ℕ) (inner : Option (Reader Datum)) → TellsAfter levels inner → (at end octet : ℕ) (rest : List ℕ) (found : Option Tag) (e : ValueFault) → at + length (octet ∷ rest) ≡ end → IsBytes rest
    → tag_of octet ≡ found → after_tag inner end (octet ∷ rest) rest found ≡ Err e → FaultInValue levels at (octet ∷ rest) e
unfolding after_tag
found_told levels inner after at end octet rest None e sum fits is h =
    unknown_tag octet rest refl (tag_of-none octet is) (sym (err_is {A = Datum × List ℕ} _ e h) ∙ here at end (octet ∷ rest) UnknownTag sum)
found_told levels inner after at end octet rest (Some tag) e sum fits is h = after.after_tells at end octet rest tag e sum fits is h

tagged_told : (levels : ℕ) (inner : Option (Reader Datum)) → TellsAfter levels inner → (at end : ℕ) (octets : List ℕ) (e : ValueFault) → at + length octets ≡ end → IsBytes octets → tagged inner end octets ≡ Err e
    → FaultInValue levels at octets e
unfolding tagged
tagged_told levels inner after at end [] e sum fits h = no_tag refl (sym (err_is {A = Datum × List ℕ} _ e h) ∙ here at end [] PassesItsEnd sum)
tagged_told levels inner after at end (octet ∷ rest) e sum fits h = found_told levels inner after at end octet rest (tag_of octet) e sum (IsBytes-rest octet rest fits) refl h

value_at-told : (levels : ℕ) → IsTold levels (value_at levels)
unfolding value_at
value_at-told zero = record { tells = tagged_told zero None (record { after_tells = bare_told }) }
value_at-told (suc levels) = record { tells = tagged_told (suc levels) (Some (value_at levels)) (record { after_tells = nested_told levels (value_at levels) (value_at-sound levels) (value_at-told levels) }) }

-- ---- tables

pub table_at-told : (octets : List ℕ) (e : ValueFault) → IsBytes octets → table_at octets ≡ Err e → FirstFault octets e
unfolding table_at
table_at-told octets e fits h =
    let n = big_number 4 octets in
    elim (guard_err (ltb (length octets) 4) _ _ e h) [
      | inl g ↦ ends (inl (ltb-true _ _ g.0)) g.1
      | inr g ↦ elim (guard_err (ltb (length octets - 4) n) _ _ e g.1) [
        | inl k ↦ (let short = ltb-true _ _ k.0 in let four = ltb-false _ _ g.0 in ends (inr (omega arith)) k.1)
        | inr k ↦ elim (bind_err (elements (named (value_at 31)) (4 + n) (take n (drop 4 octets))) _ e k.1) [
          | inl later ↦ (
              let body = take n (drop 4 octets) in
              let counts : counted (length octets) octets ≡ Ok (body, drop n (drop 4 octets)) = rw (g.0, k.0) refl in
              let takes = counted-takes (length octets) octets (body, drop n (drop 4 octets)) fits counts in
              let enough : n ≤ length octets - 4 = ltb-false _ _ k.0 in
              let four : 4 ≤ length octets = ltb-false _ _ g.0 in
              let body_len : length body ≡ n = omega (arith, length-take n (drop 4 octets), length-drop 4 octets) in
              inside takes.field body (drop n (drop 4 octets)) takes.parts takes.encodes
              (elements-pairs_told 31 (value_at 31) (value_at-sound 31) (value_at-told 31) 4 (4 + n) body e (omega arith) takes.text_fits later))
          | inr none ↦ no_err _ e none.2
        ]
      ]
    ]

-- what a call that gives this may promise of its fault
pub first_fault : (octets : List ℕ) (r : Result (Table × ℕ) ValueFault) → IsBytes octets → Gives read_view r (table_at octets) → IfErr r (λ e. (e ≡ out_of_memory) ⊎ FirstFault octets e)
first_fault octets (Ok x) fits given = tt
first_fault octets (Err e) fits (inl memory) = inl memory
first_fault octets (Err e) fits (inr is) = inr (table_at-told octets e fits is)

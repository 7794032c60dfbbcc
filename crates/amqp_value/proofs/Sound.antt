-- What is read is encoded so, and nests no deeper than the levels allowed.
use Rattle.std.proofs.Common.{◌≡◌, ◌≢◌, ℕ, zero, suc, max, ◌-◌, ◌^◌, ◌≤◌, ◌<◌, ◌==◌, Bool, true, false, not, ltb, List}
use Rattle.std.proofs.Common.{[], ◌∷◌, ◌++◌, length, get_or, take, drop, Option, Some, None, cond, Result, Ok, Err}
use Rattle.std.proofs.Common.{refl, sym, ap, subst, ◌∙◌, append_assoc, arith, length-take, length-drop, length-append}
use Rattle.std.specs.Int.{w8, w16, w32, w64}
use Rattle.std.proofs.lemmas.Bool.{ltb-false, eqb-true, eqb-false}
use Rattle.std.proofs.lemmas.List.{take-append-drop}
use Rattle.byteorder.specs.Endian.{big_number, big_bytes}
use Rattle.byteorder.specs.Numbers.{big_from-append}
use Rattle.amqp_value.specs.Fields.{EncodesNumber, EncodesShortString, EncodesLongString}
use Rattle.amqp_value.specs.Reading.{Reader, fault_here, prefix_of, counted, name_at, width_of, scalar_of, many, elements, named, after_tag, tagged, tag_of, value_at}
use Rattle.amqp_value.specs.Encoding.{EncodesTruth, EncodesScalar, EncodesField, EncodesItems, EncodesPairs, scalar_tag, tag_octet}
use Rattle.amqp_value.specs.Values.{Datum, scalar, long_string, byte_array, array, table, items_of, pairs_of, depth, items_depth, pairs_depth}
use Rattle.amqp_value.specs.declared.fault.ValueFault.{ValueFault}
use Rattle.amqp_value.specs.declared.fault.ValueFaultKind.TheVariants.{PassesItsEnd}
use Rattle.amqp_value.specs.declared.tag.Tag.{Tag}
use Rattle.amqp_value.specs.declared.tag.Tag.TheVariants.{Fixed, LongString, ByteArray, Array, Table}
use Rattle.amqp_value.specs.declared.tag.ScalarTag.{ScalarTag}
use Rattle.amqp_value.specs.declared.tag.ScalarTag.TheVariants as scalars
use Rattle.amqp_value.proofs.Elements.{bind_ok, guard_ok, ok_is}
use Rattle.amqp_value.proofs.Numbers.{IsBytes, IsBytes-take, IsBytes-drop, IsBytes-rest, number_encoded, octet_encoded, signed_encoded}
use Rattle.amqp_value.proofs.Tags.{scalar_octet, octet_of, tag_of-octet}

-- ---- fields

-- octets taken from the prefix, and those after
pub record Splits (octets prefix after : List ℕ) : Type 0 where
  pub parts : octets ≡ prefix ++ after
  pub prefix_fits : IsBytes prefix
  pub after_fits : IsBytes after

splits_at : (n : ℕ) (octets : List ℕ) → IsBytes octets → Splits octets (take n octets) (drop n octets)
splits_at n octets fits = record { parts = sym (take-append-drop n octets); prefix_fits = IsBytes-take n octets fits; after_fits = IsBytes-drop n octets fits }

pub prefix_of-splits : (n end : ℕ) (octets : List ℕ) (x : List ℕ × List ℕ) → IsBytes octets → prefix_of n end octets ≡ Ok x → Splits octets x.0 x.1 × (length x.0 ≡ n)
prefix_of-splits n end octets x fits e =
    let g = guard_ok (ltb (length octets) n) _ _ x e in
    let long : n ≤ length octets = ltb-false _ _ g.0 in
    let len : length (take n octets) ≡ n = omega (arith, length-take n octets) in
    let P : (List ℕ × List ℕ) → Type 0 = λ y. Splits octets y.0 y.1 × (length y.0 ≡ n) in
    subst P (ok_is _ _ g.1) (splits_at n octets fits, len)

-- the count and the text that it counts, and the octets after
pub record TakesCounted (octets text after : List ℕ) : Type 0 where
  pub field : List ℕ
  pub parts : octets ≡ field ++ after
  pub encodes : EncodesLongString text field
  pub text_fits : IsBytes text
  pub after_fits : IsBytes after

pub counted-takes : (end : ℕ) (octets : List ℕ) (x : List ℕ × List ℕ) → IsBytes octets → counted end octets ≡ Ok x → TakesCounted octets x.0 x.1
counted-takes end octets x fits e =
    let g = guard_ok (ltb (length octets) 4) _ _ x e in
    let k = guard_ok (ltb (length octets - 4) (big_number 4 octets)) _ _ x g.1 in
    let n = big_number 4 octets in
    let four : 4 ≤ length octets = ltb-false _ _ g.0 in
    let enough : n ≤ length octets - 4 = ltb-false _ _ k.0 in
    let count_len : length (take 4 octets) ≡ 4 = omega (arith, length-take 4 octets) in
    let text_len : length (take n (drop 4 octets)) ≡ n = omega (arith, length-take n (drop 4 octets), length-drop 4 octets) in
    let same_count : big_number 4 (take 4 octets) ≡ n = sym (big_from-append 4 (take 4 octets) (drop 4 octets) (omega arith)) ∙ ap (big_number 4) (take-append-drop 4 octets) in
    let count = number_encoded 4 (take 4 octets) count_len (IsBytes-take 4 octets fits) in
    let counts : take 4 octets ≡ big_bytes 4 (length (take n (drop 4 octets))) = count.octets_are ∙ ap (big_bytes 4) (same_count ∙ sym text_len) in
    let below : n < 2 ^ 32 = subst (λ m. m < 256 ^ 4) same_count count.fits in
    let inner = splits_at n (drop 4 octets) (IsBytes-drop 4 octets fits) in
    let whole : octets ≡ (take 4 octets ++ take n (drop 4 octets)) ++ drop n (drop 4 octets) =
    sym (take-append-drop 4 octets) ∙ ap (λ r. take 4 octets ++ r) inner.parts ∙ sym (append_assoc (take 4 octets) (take n (drop 4 octets)) (drop n (drop 4 octets))) in
    let P : (List ℕ × List ℕ) → Type 0 = λ y. TakesCounted octets y.0 y.1 in
    subst P (ok_is _ _ k.1) (record {
      field = take 4 octets ++ take n (drop 4 octets);
      parts = whole;
      encodes = record { fits = omega arith; octets_are = ap (λ c. c ++ take n (drop 4 octets)) counts };
      text_fits = inner.prefix_fits;
      after_fits = inner.after_fits;
    })

-- what a count and its text at the start tell of the tests
pub record IsCounted (octets body : List ℕ) : Type 0 where
  pub four : ltb (length octets) 4 ≡ false
  pub enough : ltb (length octets - 4) (big_number 4 octets) ≡ false
  pub body_is : take (big_number 4 octets) (drop 4 octets) ≡ body
  pub count_is : big_number 4 octets ≡ length body

pub counted-is : (end : ℕ) (octets body after : List ℕ) → counted end octets ≡ Ok (body, after) → IsCounted octets body
counted-is end octets body after e =
    let n = big_number 4 octets in
    let text = take n (drop 4 octets) in
    let passed = fault_here end octets PassesItsEnd in
    let whole : Result (List ℕ × List ℕ) ValueFault = Ok (text, drop n (drop 4 octets)) in
    let g = guard_ok (ltb (length octets) 4) passed (cond (ltb (length octets - 4) n) (Err passed) whole) (body, after) e in
    let k = guard_ok (ltb (length octets - 4) n) passed whole (body, after) g.1 in
    let is : text ≡ body = ap (λ (y : List ℕ × List ℕ). y.0) (ok_is (text, drop n (drop 4 octets)) (body, after) k.1) in
    let room : n ≤ length octets - 4 = ltb-false (length octets - 4) n k.0 in
    let len : length text ≡ n = omega (arith, length-take n (drop 4 octets), length-drop 4 octets) in
    record { four = g.0; enough = k.0; body_is = is; count_is = sym len ∙ ap length is }

pub record TakesName (octets name after : List ℕ) : Type 0 where
  pub field : List ℕ
  pub parts : octets ≡ field ++ after
  pub encodes : EncodesShortString name field
  pub after_fits : IsBytes after

pub name_at-takes : (end : ℕ) (octets : List ℕ) (x : List ℕ × List ℕ) → IsBytes octets → name_at end octets ≡ Ok x → TakesName octets x.0 x.1
name_at-takes end [] x fits e = absurd cc
name_at-takes end (n ∷ octets) x fits e =
    let g = guard_ok (ltb (length octets) n) _ _ x e in
    let long : n ≤ length octets = ltb-false _ _ g.0 in
    let len : length (take n octets) ≡ n = omega (arith, length-take n octets) in
    let below : n < 256 = fits 0 in
    let inner = splits_at n octets (IsBytes-rest n octets fits) in
    let P : (List ℕ × List ℕ) → Type 0 = λ y. TakesName (n ∷ octets) y.0 y.1 in
    subst P (ok_is _ _ g.1) (record {
      field = n ∷ take n octets;
      parts = ap (λ o. n ∷ o) inner.parts;
      encodes = record { fits = omega arith; octets_are = ap (λ m. m ∷ take n octets) (sym len) };
      after_fits = inner.after_fits;
    })

-- ---- values of fixed size

truth_encoded : (octet : ℕ) (b : Bool) → (octet == 0) ≡ b → octet < 256 → EncodesTruth (not b) (octet ∷ [])
truth_encoded octet true test below = ap (λ o. o ∷ []) (eqb-true octet 0 test)
truth_encoded octet false test below = let other : octet ≢ 0 = eqb-false octet 0 test in (octet, omega arith, below, refl)

boolean_encoded : (field : List ℕ) → length field ≡ 1 → IsBytes field → EncodesTruth (not (get_or field 0 0 == 0)) field
boolean_encoded [] len fits = absurd (omega arith)
boolean_encoded (x ∷ []) len fits = truth_encoded x _ refl (fits 0)
boolean_encoded (x ∷ y ∷ field) len fits = absurd (omega arith)

decimal_encoded : (field : List ℕ) → length field ≡ 5 → IsBytes field → (first second : List ℕ) × (field ≡ first ++ second) × EncodesNumber 1 (get_or field 0 0) first × EncodesNumber 4 (big_number 4 (drop 1 field)) second
decimal_encoded [] len fits = absurd (omega arith)
decimal_encoded (x ∷ field) len fits =
    (x ∷ [], field, refl, octet_encoded (x ∷ []) refl (IsBytes-take 1 (x ∷ field) fits), number_encoded 4 field (omega arith) (IsBytes-rest x field fits))

pub scalar_of-encoded : (tag : ScalarTag) (field : List ℕ) → length field ≡ width_of tag → IsBytes field → EncodesScalar (scalar_of tag field) field
scalar_of-encoded scalars.Boolean field len fits = boolean_encoded field len fits
scalar_of-encoded scalars.ShortShortInt field len fits = let one = octet_encoded field len fits in signed_encoded w8 (get_or field 0 0) field one.fits one
scalar_of-encoded scalars.ShortShortUint field len fits = octet_encoded field len fits
scalar_of-encoded scalars.ErrataShortInt field len fits = let number = number_encoded 2 field len fits in signed_encoded w16 (big_number 2 field) field number.fits number
scalar_of-encoded scalars.ShortInt field len fits = let number = number_encoded 2 field len fits in signed_encoded w16 (big_number 2 field) field number.fits number
scalar_of-encoded scalars.ShortUint field len fits = number_encoded 2 field len fits
scalar_of-encoded scalars.LongInt field len fits = let number = number_encoded 4 field len fits in signed_encoded w32 (big_number 4 field) field number.fits number
scalar_of-encoded scalars.LongUint field len fits = number_encoded 4 field len fits
scalar_of-encoded scalars.ErrataLongLongInt field len fits = let number = number_encoded 8 field len fits in signed_encoded w64 (big_number 8 field) field number.fits number
scalar_of-encoded scalars.LongLongInt field len fits = let number = number_encoded 8 field len fits in signed_encoded w64 (big_number 8 field) field number.fits number
scalar_of-encoded scalars.Float field len fits = record { fits = len; octets_are = refl }
scalar_of-encoded scalars.Double field len fits = record { fits = len; octets_are = refl }
scalar_of-encoded scalars.Decimal field len fits = decimal_encoded field len fits
scalar_of-encoded scalars.Timestamp field len fits = number_encoded 8 field len fits
scalar_of-encoded scalars.Void [] len fits = refl
scalar_of-encoded scalars.Void (x ∷ field) len fits = absurd (omega arith)

pub scalar_of-tag : (tag : ScalarTag) (field : List ℕ) → scalar_tag (scalar_of tag field) ≡ scalar_octet tag
scalar_of-tag scalars.Boolean field = refl
scalar_of-tag scalars.ShortShortInt field = refl
scalar_of-tag scalars.ShortShortUint field = refl
scalar_of-tag scalars.ErrataShortInt field = refl
scalar_of-tag scalars.ShortInt field = refl
scalar_of-tag scalars.ShortUint field = refl
scalar_of-tag scalars.LongInt field = refl
scalar_of-tag scalars.LongUint field = refl
scalar_of-tag scalars.ErrataLongLongInt field = refl
scalar_of-tag scalars.LongLongInt field = refl
scalar_of-tag scalars.Float field = refl
scalar_of-tag scalars.Double field = refl
scalar_of-tag scalars.Decimal field = refl
scalar_of-tag scalars.Timestamp field = refl
scalar_of-tag scalars.Void field = refl

-- ---- values

-- a value read from the prefix: its field after the tag octet, how deep it nests, and the octets after it
pub record TakesValue (levels : ℕ) (octets : List ℕ) (value : Datum) (after : List ℕ) : Type 0 where
  pub field : List ℕ
  pub parts : octets ≡ (tag_octet value ∷ field) ++ after
  pub encodes : EncodesField value field
  pub within : depth value ≤ levels
  pub after_fits : IsBytes after

-- a reader takes only what it says
pub record IsSound (levels : ℕ) (read : Reader Datum) : Type 0 where
  pub takes : (end : ℕ) (octets : List ℕ) (x : Datum × List ℕ) → IsBytes octets → read end octets ≡ Ok x → TakesValue levels octets x.0 x.1

max_le : (a b c : ℕ) → a ≤ c → b ≤ c → max a b ≤ c
max_le a b c p q = omega arith

many-items : (levels : ℕ) (read : Reader Datum) → IsSound levels read → (fuel end : ℕ) (octets : List ℕ) (xs : List Datum) → length octets ≤ fuel → IsBytes octets → many read fuel end octets ≡ Ok xs
    → EncodesItems (items_of xs) octets × (items_depth (items_of xs) ≤ levels)
unfolding many
many-items levels read sound fuel end [] xs enough fits e =
    let P : List Datum → Type 0 = λ ys. EncodesItems (items_of ys) [] × (items_depth (items_of ys) ≤ levels) in
    subst P (ok_is _ _ e) (refl, omega arith)
many-items levels read sound zero end (octet ∷ octets) xs enough fits e = absurd (omega arith)
many-items levels read sound (suc fuel) end (octet ∷ octets) xs enough fits e =
    let a = bind_ok (read end (octet ∷ octets)) _ xs e in
    let b = bind_ok (many read fuel end a.0.1) _ xs a.2 in
    let first = sound.takes end (octet ∷ octets) a.0 fits a.1 in
    let parts_len : length (octet ∷ octets) ≡ length ((tag_octet a.0.0 ∷ first.field) ++ a.0.1) = ap length first.parts in
    let others = many-items levels read sound fuel end a.0.1 b.0 (omega (arith, parts_len, length-append (tag_octet a.0.0 ∷ first.field) a.0.1)) first.after_fits b.1 in
    let P : List Datum → Type 0 = λ ys. EncodesItems (items_of ys) (octet ∷ octets) × (items_depth (items_of ys) ≤ levels) in
    subst P (ok_is _ _ b.2) ((first.field, a.0.1, first.parts, first.encodes, others.0), max_le _ _ _ first.within others.1)

-- what stands after a pair is shorter than the whole
after_pair : (fuel octet : ℕ) (octets first field after : List ℕ) (tag : ℕ) → length (octet ∷ octets) ≤ suc fuel → octet ∷ octets ≡ first ++ ((tag ∷ field) ++ after) → length after ≤ fuel
after_pair fuel octet octets first field after tag enough whole =
    let len : length (octet ∷ octets) ≡ length (first ++ ((tag ∷ field) ++ after)) = ap length whole in
    omega (arith, length-append first ((tag ∷ field) ++ after), length-append (tag ∷ field) after)

many-pairs : (levels : ℕ) (read : Reader Datum) → IsSound levels read → (fuel end : ℕ) (octets : List ℕ) (xs : List (List ℕ × Datum)) → length octets ≤ fuel → IsBytes octets → many (named read) fuel end octets ≡ Ok xs
    → EncodesPairs (pairs_of xs) octets × (pairs_depth (pairs_of xs) ≤ levels)
unfolding many named
many-pairs levels read sound fuel end [] xs enough fits e =
    let P : List (List ℕ × Datum) → Type 0 = λ ys. EncodesPairs (pairs_of ys) [] × (pairs_depth (pairs_of ys) ≤ levels) in
    subst P (ok_is _ _ e) (refl, omega arith)
many-pairs levels read sound zero end (octet ∷ octets) xs enough fits e = absurd (omega arith)
many-pairs levels read sound (suc fuel) end (octet ∷ octets) xs enough fits e =
    let a = bind_ok (named read end (octet ∷ octets)) _ xs e in
    let b = bind_ok (many (named read) fuel end a.0.1) _ xs a.2 in
    let n = bind_ok (name_at end (octet ∷ octets)) _ a.0 a.1 in
    let v = bind_ok (read end n.0.1) _ a.0 n.2 in
    let is : ((n.0.0, v.0.0), v.0.1) ≡ a.0 = ok_is _ _ v.2 in
    let name = name_at-takes end (octet ∷ octets) n.0 fits n.1 in
    let value = sound.takes end n.0.1 v.0 name.after_fits v.1 in
    let whole : octet ∷ octets ≡ name.field ++ ((tag_octet v.0.0 ∷ value.field) ++ v.0.1) = name.parts ∙ ap (λ o. name.field ++ o) value.parts in
    let after_is : v.0.1 ≡ a.0.1 = ap (λ y. y.1) is in
    let shorter : length v.0.1 ≤ fuel = after_pair fuel octet octets name.field value.field v.0.1 (tag_octet v.0.0) enough whole in
    let others = many-pairs levels read sound fuel end v.0.1 b.0 shorter value.after_fits (ap (λ o. many (named read) fuel end o) after_is ∙ b.1) in
    let made : (n.0.0, v.0.0) ∷ b.0 ≡ xs = ap (λ y. y.0 ∷ b.0) is ∙ ok_is _ _ b.2 in
    let P : List (List ℕ × Datum) → Type 0 = λ ys. EncodesPairs (pairs_of ys) (octet ∷ octets) × (pairs_depth (pairs_of ys) ≤ levels) in
    subst P made ((name.field, value.field, v.0.1, whole, name.encodes, value.encodes, others.0), max_le _ _ _ value.within others.1)

pub elements-items : (levels : ℕ) (read : Reader Datum) → IsSound levels read → (end : ℕ) (octets : List ℕ) (xs : List Datum) → IsBytes octets → elements read end octets ≡ Ok xs
    → EncodesItems (items_of xs) octets × (items_depth (items_of xs) ≤ levels)
unfolding elements
elements-items levels read sound end octets xs fits e = many-items levels read sound (length octets) end octets xs (omega arith) fits e

pub elements-pairs : (levels : ℕ) (read : Reader Datum) → IsSound levels read → (end : ℕ) (octets : List ℕ) (xs : List (List ℕ × Datum)) → IsBytes octets → elements (named read) end octets ≡ Ok xs
    → EncodesPairs (pairs_of xs) octets × (pairs_depth (pairs_of xs) ≤ levels)
unfolding elements
elements-pairs levels read sound end octets xs fits e = many-pairs levels read sound (length octets) end octets xs (omega arith) fits e

-- the octets after the tag octet
record TakesField (levels : ℕ) (rest : List ℕ) (value : Datum) (after : List ℕ) : Type 0 where
  field : List ℕ
  parts : rest ≡ field ++ after
  encodes : EncodesField value field
  within : depth value ≤ levels
  after_fits : IsBytes after

with_tag : (levels octet : ℕ) (rest : List ℕ) (value : Datum) (after : List ℕ) → octet ≡ tag_octet value → TakesField levels rest value after → TakesValue levels (octet ∷ rest) value after
with_tag levels octet rest value after is takes =
    record { field = takes.field; parts = ap (λ o. o ∷ rest) is ∙ ap (λ o. tag_octet value ∷ o) takes.parts; encodes = takes.encodes; within = takes.within; after_fits = takes.after_fits }

fixed-takes : (levels : ℕ) (inner : Option (Reader Datum)) (end : ℕ) (octets : List ℕ) (octet : ℕ) (rest : List ℕ) (tag : ScalarTag) (x : Datum × List ℕ) → IsBytes rest → octet ≡ scalar_octet tag
    → after_tag inner end octets rest (Some (Fixed tag)) ≡ Ok x → TakesValue levels (octet ∷ rest) x.0 x.1
unfolding after_tag
fixed-takes levels inner end octets octet rest tag x fits is e =
    let b = bind_ok (prefix_of (width_of tag) end rest) _ x e in
    let s = prefix_of-splits (width_of tag) end rest b.0 fits b.1 in
    let P : (Datum × List ℕ) → Type 0 = λ y. TakesValue levels (octet ∷ rest) y.0 y.1 in
    subst P (ok_is _ _ b.2) (with_tag levels octet rest (scalar (scalar_of tag b.0.0)) b.0.1 (is ∙ sym (scalar_of-tag tag b.0.0)) (record {
      field = b.0.0;
      parts = s.0.parts;
      encodes = scalar_of-encoded tag b.0.0 s.1 s.0.prefix_fits;
      within = omega arith;
      after_fits = s.0.after_fits;
    }))

plain_octet-takes : (levels : ℕ) (octet : ℕ) (rest text after : List ℕ) (value : Datum) → octet ≡ tag_octet value → depth value ≡ 0 → ((field : List ℕ) → EncodesLongString text field → EncodesField value field)
    → TakesCounted rest text after → TakesValue levels (octet ∷ rest) value after
plain_octet-takes levels octet rest text after value is flat encoded takes =
    with_tag levels octet rest value after is (record { field = takes.field; parts = takes.parts; encodes = encoded takes.field takes.encodes; within = omega arith; after_fits = takes.after_fits })

bare_after-takes : (levels end : ℕ) (octets : List ℕ) (octet : ℕ) (rest : List ℕ) (tag : Tag) (x : Datum × List ℕ) → IsBytes rest → octet ≡ octet_of tag
    → after_tag None end octets rest (Some tag) ≡ Ok x → TakesValue levels (octet ∷ rest) x.0 x.1
unfolding after_tag
bare_after-takes levels end octets octet rest (Fixed tag) x fits is e = fixed-takes levels None end octets octet rest tag x fits is e
bare_after-takes levels end octets octet rest LongString x fits is e =
    let b = bind_ok (counted end rest) _ x e in
    let P : (Datum × List ℕ) → Type 0 = λ y. TakesValue levels (octet ∷ rest) y.0 y.1 in
    subst P (ok_is _ _ b.2) (plain_octet-takes levels octet rest b.0.0 b.0.1 (long_string b.0.0) is refl (λ field encoded. encoded) (counted-takes end rest b.0 fits b.1))
bare_after-takes levels end octets octet rest ByteArray x fits is e =
    let b = bind_ok (counted end rest) _ x e in
    let P : (Datum × List ℕ) → Type 0 = λ y. TakesValue levels (octet ∷ rest) y.0 y.1 in
    subst P (ok_is _ _ b.2) (plain_octet-takes levels octet rest b.0.0 b.0.1 (byte_array b.0.0) is refl (λ field encoded. encoded) (counted-takes end rest b.0 fits b.1))
bare_after-takes levels end octets octet rest Array x fits is e = absurd cc
bare_after-takes levels end octets octet rest Table x fits is e = absurd cc

nested_after-takes : (levels : ℕ) (read : Reader Datum) → IsSound levels read → (end : ℕ) (octets : List ℕ) (octet : ℕ) (rest : List ℕ) (tag : Tag) (x : Datum × List ℕ) → IsBytes rest
    → octet ≡ octet_of tag → after_tag (Some read) end octets rest (Some tag) ≡ Ok x → TakesValue (suc levels) (octet ∷ rest) x.0 x.1
unfolding after_tag
nested_after-takes levels read sound end octets octet rest (Fixed tag) x fits is e = fixed-takes (suc levels) (Some read) end octets octet rest tag x fits is e
nested_after-takes levels read sound end octets octet rest LongString x fits is e =
    let b = bind_ok (counted end rest) _ x e in
    let P : (Datum × List ℕ) → Type 0 = λ y. TakesValue (suc levels) (octet ∷ rest) y.0 y.1 in
    subst P (ok_is _ _ b.2) (plain_octet-takes (suc levels) octet rest b.0.0 b.0.1 (long_string b.0.0) is refl (λ field encoded. encoded) (counted-takes end rest b.0 fits b.1))
nested_after-takes levels read sound end octets octet rest ByteArray x fits is e =
    let b = bind_ok (counted end rest) _ x e in
    let P : (Datum × List ℕ) → Type 0 = λ y. TakesValue (suc levels) (octet ∷ rest) y.0 y.1 in
    subst P (ok_is _ _ b.2) (plain_octet-takes (suc levels) octet rest b.0.0 b.0.1 (byte_array b.0.0) is refl (λ field encoded. encoded) (counted-takes end rest b.0 fits b.1))
nested_after-takes levels read sound end octets octet rest Array x fits is e =
    let b = bind_ok (counted end rest) _ x e in
    let d = bind_ok (elements read (end - length b.0.1) b.0.0) _ x b.2 in
    let takes = counted-takes end rest b.0 fits b.1 in
    let inside = elements-items levels read sound (end - length b.0.1) b.0.0 d.0 takes.text_fits d.1 in
    let P : (Datum × List ℕ) → Type 0 = λ y. TakesValue (suc levels) (octet ∷ rest) y.0 y.1 in
    subst P (ok_is _ _ d.2) (with_tag (suc levels) octet rest (array (items_of d.0)) b.0.1 is (record {
      field = takes.field;
      parts = takes.parts;
      encodes = (b.0.0, takes.encodes, inside.0);
      within = omega (arith, inside.1);
      after_fits = takes.after_fits;
    }))
nested_after-takes levels read sound end octets octet rest Table x fits is e =
    let b = bind_ok (counted end rest) _ x e in
    let d = bind_ok (elements (named read) (end - length b.0.1) b.0.0) _ x b.2 in
    let takes = counted-takes end rest b.0 fits b.1 in
    let inside = elements-pairs levels read sound (end - length b.0.1) b.0.0 d.0 takes.text_fits d.1 in
    let P : (Datum × List ℕ) → Type 0 = λ y. TakesValue (suc levels) (octet ∷ rest) y.0 y.1 in
    subst P (ok_is _ _ d.2) (with_tag (suc levels) octet rest (table (pairs_of d.0)) b.0.1 is (record {
      field = takes.field;
      parts = takes.parts;
      encodes = (b.0.0, takes.encodes, inside.0);
      within = omega (arith, inside.1);
      after_fits = takes.after_fits;
    }))

-- one level, given what is read inside
levelled : (levels : ℕ) (inner : Option (Reader Datum)) → ((end : ℕ) (octets : List ℕ) (octet : ℕ) (rest : List ℕ) (tag : Tag) (x : Datum × List ℕ) → IsBytes rest
    → octet ≡ octet_of tag → after_tag inner end octets rest (Some tag) ≡ Ok x → TakesValue levels (octet ∷ rest) x.0 x.1)
    → (end octet : ℕ) (rest : List ℕ) (found : Option Tag) (x : Datum × List ℕ) → IsBytes rest → tag_of octet ≡ found → after_tag inner end (octet ∷ rest) rest found ≡ Ok x → TakesValue levels (octet ∷ rest) x.0 x.1
unfolding after_tag
levelled levels inner after end octet rest None x fits is e = absurd cc
levelled levels inner after end octet rest (Some tag) x fits is e = after end (octet ∷ rest) octet rest tag x fits (tag_of-octet octet tag is) e

tagged-takes : (levels : ℕ) (inner : Option (Reader Datum)) → ((end : ℕ) (octets : List ℕ) (octet : ℕ) (rest : List ℕ) (tag : Tag) (x : Datum × List ℕ) → IsBytes rest
    → octet ≡ octet_of tag → after_tag inner end octets rest (Some tag) ≡ Ok x → TakesValue levels (octet ∷ rest) x.0 x.1)
    → (end : ℕ) (octets : List ℕ) (x : Datum × List ℕ) → IsBytes octets → tagged inner end octets ≡ Ok x → TakesValue levels octets x.0 x.1
unfolding tagged
tagged-takes levels inner after end [] x fits e = absurd cc
tagged-takes levels inner after end (octet ∷ rest) x fits e = levelled levels inner after end octet rest (tag_of octet) x (IsBytes-rest octet rest fits) refl e

pub value_at-sound : (levels : ℕ) → IsSound levels (value_at levels)
unfolding value_at
value_at-sound zero = record { takes = tagged-takes zero None (bare_after-takes zero) }
value_at-sound (suc levels) = record { takes = tagged-takes (suc levels) (Some (value_at levels)) (nested_after-takes levels (value_at levels) (value_at-sound levels)) }

-- Writing elements one after the other, as a loop does.
use Rattle.std.proofs.Common.{◌≡◌, ℕ, zero, suc, ◌+◌, ◌≤◌, ◌<◌, List, [], ◌∷◌, ◌++◌, length, get_or, take, drop, map}
use Rattle.std.proofs.Common.{Result, Ok, Err, refl, sym, ap, ◌∙◌, append_assoc, arith, length-append, length-take}
use Rattle.std.proofs.lemmas.List.{append-nil, take_at, drop_at, take-take, map_push}
use Rattle.std.proofs.lemmas.Grind.{take_at_read}
use Rattle.std.specs.Prelude.{OnOk}
use Rattle.byteorder.specs.Endian.{big_bytes}
use Rattle.amqp_value.specs.Fields.{EncodesShortString, plain_short_string}
use Rattle.amqp_value.specs.Plain.{plain_field, plain_items, plain_pairs, CountsFit, ItemsCountsFit, PairsCountsFit}
use Rattle.amqp_value.specs.Encoding.{EncodesField, EncodesItems, EncodesPairs, tag_octet}
use Rattle.amqp_value.specs.Values.{Datum, items_of, pairs_of}
use Rattle.amqp_value.specs.View.{view, items_view, pairs_view, named_view}
use Rattle.amqp_value.specs.declared.values.Value.{Value}
use Rattle.amqp_value.proofs.Depths.{Pair}

-- ---- octets stay while others are put after them

pub kept_append : (old more : List ℕ) → take (length old) (old ++ more) ≡ old
kept_append old more = take_at old more (length old) refl

pub kept_then : (a b c : List ℕ) → take (length a) b ≡ a → take (length b) c ≡ b → take (length a) c ≡ a
kept_then a b c first second =
    let len : length a ≡ length (take (length a) b) = ap length (sym first) in
    let short : length a ≤ length b = omega (arith, length-take (length a) b) in
    sym (take-take (length a) (length b) c short) ∙ ap (take (length a)) second ∙ first

-- what is put after old is kept apart from it
pub kept_after : (old more b c : List ℕ) → b ≡ old ++ more → take (length b) c ≡ b → take (length old) c ≡ old
kept_after old more b c is kept = kept_then old b c (ap (take (length old)) is ∙ kept_append old more) kept

-- a hole of octets before a body, filled
pub filled : (old head body count : List ℕ) (hole : ℕ) → hole ≡ length (old ++ head) → (four : List ℕ) → length four ≡ 4
    → take hole ((old ++ (head ++ four)) ++ body) ++ (count ++ drop (hole + 4) ((old ++ (head ++ four)) ++ body)) ≡ old ++ (head ++ (count ++ body))
filled old head body count hole at four len =
    let prefix : (old ++ (head ++ four)) ++ body ≡ (old ++ head) ++ (four ++ body) = simp append_assoc in
    let before : take hole ((old ++ (head ++ four)) ++ body) ≡ old ++ head = ap (take hole) prefix ∙ take_at (old ++ head) (four ++ body) hole (sym at) in
    let prefix4 : (old ++ (head ++ four)) ++ body ≡ ((old ++ head) ++ four) ++ body = simp append_assoc in
    let long : length ((old ++ head) ++ four) ≡ hole + 4 = length-append (old ++ head) four ∙ omega arith in
    let after : drop (hole + 4) ((old ++ (head ++ four)) ++ body) ≡ body = ap (drop (hole + 4)) prefix4 ∙ drop_at ((old ++ head) ++ four) body (hole + 4) long in
    rw (before, after) (append_assoc old head (count ++ body))

pub after_hole : (old head four body : List ℕ) (hole : ℕ) → hole ≡ length (old ++ head) → length four ≡ 4 → drop (hole + 4) ((old ++ (head ++ four)) ++ body) ≡ body
after_hole old head four body hole at len =
    let prefix4 : (old ++ (head ++ four)) ++ body ≡ ((old ++ head) ++ four) ++ body = simp append_assoc in
    let long : length ((old ++ head) ++ four) ≡ hole + 4 = length-append (old ++ head) four ∙ omega arith in
    ap (drop (hole + 4)) prefix4 ∙ drop_at ((old ++ head) ++ four) body (hole + 4) long

-- ---- one element more

pub plain_items-push : (items : List Datum) (value : Datum) → plain_items (items_of (items ++ value ∷ [])) ≡ plain_items (items_of items) ++ (tag_octet value ∷ plain_field value)
plain_items-push [] value = append-nil (tag_octet value ∷ plain_field value)
plain_items-push (v ∷ items) value = ap (λ o. (tag_octet v ∷ plain_field v) ++ o) (plain_items-push items value) ∙ sym (append_assoc (tag_octet v ∷ plain_field v) (plain_items (items_of items)) (tag_octet value ∷ plain_field value))

EncodesItems-push : (items : List Datum) (value : Datum) (octets field : List ℕ) → EncodesItems (items_of items) octets → EncodesField value field → EncodesItems (items_of (items ++ value ∷ [])) (octets ++ (tag_octet value ∷ field))
EncodesItems-push [] value octets field is encoded = (field, [], ap (λ o. o ++ (tag_octet value ∷ field)) is ∙ sym (append-nil (tag_octet value ∷ field)), encoded, refl)
EncodesItems-push (v ∷ items) value octets field encodes encoded =
    (encodes.0, encodes.1 ++ (tag_octet value ∷ field), ap (λ o. o ++ (tag_octet value ∷ field)) encodes.2 ∙ append_assoc (tag_octet v ∷ encodes.0) encodes.1 (tag_octet value ∷ field), encodes.3, EncodesItems-push items value encodes.1 field encodes.4 encoded)

pub plain_pairs-push : (pairs : List (List ℕ × Datum)) (name : List ℕ) (value : Datum)
    → plain_pairs (pairs_of (pairs ++ (name, value) ∷ [])) ≡ plain_pairs (pairs_of pairs) ++ (plain_short_string name ++ (tag_octet value ∷ plain_field value))
plain_pairs-push [] name value = ap (λ o. plain_short_string name ++ o) (append-nil (tag_octet value ∷ plain_field value))
plain_pairs-push (p ∷ pairs) name value =
    ap (λ o. plain_short_string p.0 ++ ((tag_octet p.1 ∷ plain_field p.1) ++ o)) (plain_pairs-push pairs name value) ∙ simp append_assoc

EncodesPairs-push : (pairs : List (List ℕ × Datum)) (name : List ℕ) (value : Datum) (octets first field : List ℕ) → EncodesPairs (pairs_of pairs) octets → EncodesShortString name first → EncodesField value field
    → EncodesPairs (pairs_of (pairs ++ (name, value) ∷ [])) (octets ++ (first ++ (tag_octet value ∷ field)))
EncodesPairs-push [] name value octets first field is named encoded =
    (first, field, [], ap (λ o. o ++ (first ++ (tag_octet value ∷ field))) is ∙ ap (λ o. first ++ o) (sym (append-nil (tag_octet value ∷ field))), named, encoded, refl)
EncodesPairs-push (p ∷ pairs) name value octets first field encodes named encoded =
    let more = first ++ (tag_octet value ∷ field) in
    let whole : octets ++ more ≡ encodes.0 ++ ((tag_octet p.1 ∷ encodes.1) ++ (encodes.2 ++ more)) = ap (λ o. o ++ more) encodes.3 ∙ append_assoc encodes.0 ((tag_octet p.1 ∷ encodes.1) ++ encodes.2) more ∙ ap (λ o. encodes.0 ++ o) (append_assoc (tag_octet p.1 ∷ encodes.1) encodes.2 more) in
    (encodes.0, encodes.1, encodes.2 ++ more, whole, encodes.4, encodes.5, EncodesPairs-push pairs name value encodes.2 first field encodes.6 named encoded)

-- ---- the values of a slice, up to an index

-- out holds the plain encoding of the first n values after what it held
pub record ItemsPut (old out : List ℕ) (values : List Value) (n : ℕ) : Type 0 where
  pub out_is : out ≡ old ++ plain_items (items_view (take n values))
  pub encoded : EncodesItems (items_view (take n values)) (plain_items (items_view (take n values)))

pub views_next : (values : List Value) (n : ℕ) (d : Value) → n < length values → map view (take (n + 1) values) ≡ map view (take n values) ++ view (get_or values n d) ∷ []
views_next values n d lt = ap (map view) (take_at_read values n d lt).1 ∙ map_push view (take n values) (get_or values n d)

pub ItemsPut-next : (old out now : List ℕ) (values : List Value) (n : ℕ) (value : Value) → n < length values → value ≡ get_or values n value → ItemsPut old out values n
    → now ≡ out ++ (tag_octet (view value) ∷ plain_field (view value)) → EncodesField (view value) (plain_field (view value)) → ItemsPut old now values (n + 1)
ItemsPut-next old out now values n value lt at put is encoded =
    let next : map view (take (n + 1) values) ≡ map view (take n values) ++ view value ∷ [] = views_next values n value lt ∙ ap (λ v. map view (take n values) ++ view v ∷ []) (sym at) in
    let before = map view (take n values) in
    let plain : plain_items (items_view (take (n + 1) values)) ≡ plain_items (items_of before) ++ (tag_octet (view value) ∷ plain_field (view value)) = ap (λ vs. plain_items (items_of vs)) next ∙ plain_items-push before (view value) in
    record {
      out_is = is ∙ ap (λ o. o ++ (tag_octet (view value) ∷ plain_field (view value))) put.out_is ∙ append_assoc old (plain_items (items_of before)) (tag_octet (view value) ∷ plain_field (view value)) ∙ ap (λ o. old ++ o) (sym plain);
      encoded = rw (plain, next) (EncodesItems-push before (view value) (plain_items (items_of before)) (plain_field (view value)) put.encoded encoded);
    }

pub item_count_fits : (values : List Value) (n : ℕ) (d : Value) → n < length values → ItemsCountsFit (items_view values) → CountsFit (view (get_or values n d))
item_count_fits [] n d lt fits = absurd (omega arith)
item_count_fits (v ∷ values) zero d lt fits = fits.0
item_count_fits (v ∷ values) (suc n) d lt fits = item_count_fits values n d (omega arith) fits.1

pub record PairsPut (old out : List ℕ) (pairs : List Pair) (n : ℕ) : Type 0 where
  pub out_is : out ≡ old ++ plain_pairs (pairs_view (take n pairs))
  pub encoded : EncodesPairs (pairs_view (take n pairs)) (plain_pairs (pairs_view (take n pairs)))

pub pair_views_next : (pairs : List Pair) (n : ℕ) (d : Pair) → n < length pairs → map named_view (take (n + 1) pairs) ≡ map named_view (take n pairs) ++ named_view (get_or pairs n d) ∷ []
pair_views_next pairs n d lt = ap (map named_view) (take_at_read pairs n d lt).1 ∙ map_push named_view (take n pairs) (get_or pairs n d)

pub PairsPut-next : (old out named now : List ℕ) (pairs : List Pair) (n : ℕ) (p : Pair) → n < length pairs → p ≡ get_or pairs n p → PairsPut old out pairs n
    → named ≡ out ++ plain_short_string p.0 → EncodesShortString p.0 (plain_short_string p.0) → now ≡ named ++ (tag_octet (view p.1) ∷ plain_field (view p.1)) → EncodesField (view p.1) (plain_field (view p.1)) → PairsPut old now pairs (n + 1)
PairsPut-next old out named now pairs n p lt at put name_is name_encoded is encoded =
    let next : map named_view (take (n + 1) pairs) ≡ map named_view (take n pairs) ++ named_view p ∷ [] = pair_views_next pairs n p lt ∙ ap (λ v. map named_view (take n pairs) ++ named_view v ∷ []) (sym at) in
    let before = map named_view (take n pairs) in
    let more = plain_short_string p.0 ++ (tag_octet (view p.1) ∷ plain_field (view p.1)) in
    let plain : plain_pairs (pairs_view (take (n + 1) pairs)) ≡ plain_pairs (pairs_of before) ++ more = ap (λ vs. plain_pairs (pairs_of vs)) next ∙ plain_pairs-push before p.0 (view p.1) in
    record {
      out_is = is ∙ ap (λ o. o ++ (tag_octet (view p.1) ∷ plain_field (view p.1))) (name_is ∙ ap (λ o. o ++ plain_short_string p.0) put.out_is)
          ∙ append_assoc (old ++ plain_pairs (pairs_of before)) (plain_short_string p.0) (tag_octet (view p.1) ∷ plain_field (view p.1)) ∙ append_assoc old (plain_pairs (pairs_of before)) more ∙ ap (λ o. old ++ o) (sym plain);
      encoded = rw (plain, next) (EncodesPairs-push before p.0 (view p.1) (plain_pairs (pairs_of before)) (plain_short_string p.0) (plain_field (view p.1)) put.encoded name_encoded encoded);
    }

pub pair_count_fits : (pairs : List Pair) (n : ℕ) (d : Pair) → n < length pairs → PairsCountsFit (pairs_view pairs) → CountsFit (view (get_or pairs n d).1)
pair_count_fits [] n d lt fits = absurd (omega arith)
pair_count_fits (p ∷ pairs) zero d lt fits = fits.0
pair_count_fits (p ∷ pairs) (suc n) d lt fits = pair_count_fits pairs n d (omega arith) fits.1

-- ---- the count before a body

pub filled_count : (old head body out put : List ℕ) (hole : ℕ) → hole ≡ length (old ++ head) → put ≡ old ++ (head ++ 0 ∷ 0 ∷ 0 ∷ 0 ∷ []) → out ≡ put ++ body
    → take hole out ++ (big_bytes 4 (length (drop (hole + 4) out)) ++ drop (hole + 4) out) ≡ old ++ (head ++ (big_bytes 4 (length body) ++ body))
filled_count old head body out put hole at put_is out_is =
    let four : List ℕ = 0 ∷ 0 ∷ 0 ∷ 0 ∷ [] in
    let whole : out ≡ (old ++ (head ++ four)) ++ body = out_is ∙ ap (λ o. o ++ body) put_is in
    let after : drop (hole + 4) out ≡ body = ap (drop (hole + 4)) whole ∙ after_hole old head four body hole at refl in
    rw after (ap (λ o. take hole o ++ (big_bytes 4 (length body) ++ body)) whole
    ∙ ap (λ o. take hole ((old ++ (head ++ four)) ++ body) ++ (big_bytes 4 (length body) ++ o)) (sym (after_hole old head four body hole at refl))
    ∙ filled old head body (big_bytes 4 (length body)) hole at four refl)

pub on_ok : {T E P Q : Type 0} (r : Result T E) → (P → Q) → OnOk r P → OnOk r Q
on_ok (Ok x) f p = f p
on_ok (Err e) f p = tt

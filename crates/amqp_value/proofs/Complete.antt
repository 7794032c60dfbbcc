-- What is encoded so is read, whatever stands after it.
use Rattle.std.proofs.Common.{◌≡◌, ℕ, zero, suc, ◌-◌, ◌^◌, ◌≤◌, ◌<◌, ◌==◌, Bool, true, false, not, ltb, List, [], ◌∷◌}
use Rattle.std.proofs.Common.{◌++◌, length, get_or, drop, Option, Some, None, Ok, refl, sym, ap, ◌∙◌, append_assoc}
use Rattle.std.proofs.Common.{arith, length-append}
use Rattle.std.specs.Int.{w8, w16, w32, w64, cast_signed}
use Rattle.std.proofs.lemmas.Bool.{le-ltb, ne_eqb}
use Rattle.std.proofs.lemmas.List.{take_at, drop_at}
use Rattle.byteorder.specs.Endian.{big_number, big_bytes}
use Rattle.byteorder.specs.Numbers.{big_number-reads_back, length-bytes_high_first}
use Rattle.amqp_value.specs.Fields.{EncodesNumber, EncodesShortString, EncodesLongString}
use Rattle.amqp_value.specs.Reading.{Reader, prefix_of, counted, name_at, width_of, scalar_of, elements, named, after_tag, tagged, tag_of, value_at}
use Rattle.amqp_value.specs.Encoding.{EncodesTruth, EncodesScalar, EncodesField, EncodesItems, EncodesPairs, scalar_tag, tag_octet}
use Rattle.amqp_value.specs.Values.{Scalar, boolean, short_short_int, short_short_uint, errata_short_int, short_int}
use Rattle.amqp_value.specs.Values.{short_uint, long_int, long_uint, errata_long_long_int, long_long_int, float, double}
use Rattle.amqp_value.specs.Values.{decimal, timestamp, void, Datum, scalar, long_string, byte_array, array, table}
use Rattle.amqp_value.specs.Values.{Items, items_of, no_items, item, Pairs, pairs_of, no_pairs, pair, depth}
use Rattle.amqp_value.specs.Values.{items_depth, pairs_depth}
use Rattle.amqp_value.specs.declared.tag.Tag.TheVariants.{Fixed}
use Rattle.amqp_value.specs.declared.tag.ScalarTag.{ScalarTag}
use Rattle.amqp_value.specs.declared.tag.ScalarTag.TheVariants as scalars
use Rattle.amqp_value.proofs.Elements.{Consumes, elements-nil, elements-next, value_at-consumes, named-consumes, named-ok}
use Rattle.amqp_value.proofs.Numbers.{number_length, number_read_whole, signed_read}
use Rattle.amqp_value.proofs.Tags.{scalar_octet, tag_of-octet_of}

-- ---- fields

prefix_of-again : (n end : ℕ) (prefix after : List ℕ) → length prefix ≡ n → prefix_of n end (prefix ++ after) ≡ Ok (prefix, after)
prefix_of-again n end prefix after len =
    let long : ltb (length (prefix ++ after)) n ≡ false = le-ltb _ _ (omega (arith, length-append prefix after)) in
    rw (long, take_at prefix after n len, drop_at prefix after n len) refl

counted-text : (end : ℕ) (text after : List ℕ) → length text < 2 ^ 32 → counted end (big_bytes 4 (length text) ++ (text ++ after)) ≡ Ok (text, after)
counted-text end text after below =
    let count = big_bytes 4 (length text) in
    let count_len : length count ≡ 4 = length-bytes_high_first 4 (length text) in
    let n : big_number 4 (count ++ (text ++ after)) ≡ length text = big_number-reads_back 4 (length text) (text ++ after) below in
    let long : ltb (length (count ++ (text ++ after))) 4 ≡ false = le-ltb _ _ (omega (arith, length-append count (text ++ after))) in
    let enough : ltb (length (count ++ (text ++ after)) - 4) (length text) ≡ false = le-ltb _ _ (omega (arith, length-append count (text ++ after), length-append text after)) in
    let rest : drop 4 (count ++ (text ++ after)) ≡ text ++ after = drop_at count (text ++ after) 4 count_len in
    rw (long, n, enough, rest, take_at text after (length text) refl, drop_at text after (length text) refl) refl

pub counted-again : (end : ℕ) (text field after : List ℕ) → EncodesLongString text field → counted end (field ++ after) ≡ Ok (text, after)
counted-again end text field after encodes =
    let grouped : field ++ after ≡ big_bytes 4 (length text) ++ (text ++ after) = ap (λ f. f ++ after) encodes.octets_are ∙ append_assoc (big_bytes 4 (length text)) text after in
    ap (counted end) grouped ∙ counted-text end text after encodes.fits

pub name_at-again : (end : ℕ) (name field after : List ℕ) → EncodesShortString name field → name_at end (field ++ after) ≡ Ok (name, after)
name_at-again end name field after encodes =
    let long : ltb (length (name ++ after)) (length name) ≡ false = le-ltb _ _ (omega (arith, length-append name after)) in
    ap (λ f. name_at end (f ++ after)) encodes.octets_are ∙ rw (long, take_at name after (length name) refl, drop_at name after (length name) refl) refl

-- ---- values of fixed size

-- the tag and the width by which a value is read
record IsReadAs (value : Scalar) (field : List ℕ) : Type 0 where
  tag : ScalarTag
  octet : scalar_octet tag ≡ scalar_tag value
  width : length field ≡ width_of tag
  same : scalar_of tag field ≡ value

truth_read : (holds : Bool) (field : List ℕ) → EncodesTruth holds field → IsReadAs (boolean holds) field
truth_read false field is = record { tag = scalars.Boolean; octet = refl; width = ap length is; same = ap (λ f. boolean (not (get_or f 0 0 == 0))) is }
truth_read true field encodes =
    let above : 0 < encodes.0 = encodes.1 in
    let other : (encodes.0 == 0) ≡ false = ne_eqb encodes.0 0 (λ e. omega arith) in
    record { tag = scalars.Boolean; octet = refl; width = ap length encodes.3; same = ap (λ f. boolean (not (get_or f 0 0 == 0))) encodes.3 ∙ ap (λ b. boolean (not b)) other }

one_read : (number : ℕ) (field : List ℕ) → EncodesNumber 1 number field → (length field ≡ 1) × (get_or field 0 0 ≡ number)
one_read number field encodes =
    let read : big_number 1 field ≡ number = number_read_whole 1 number field encodes in
    (number_length 1 number field encodes, omega (arith, read))

scalar_again : (value : Scalar) (field : List ℕ) → EncodesScalar value field → IsReadAs value field
scalar_again (boolean holds) field encodes = truth_read holds field encodes
scalar_again (short_short_int n) field encodes =
    let r = signed_read w8 n field refl encodes in
    let first : get_or field 0 0 ≡ big_number 1 field = omega arith in
    record { tag = scalars.ShortShortInt; octet = refl; width = r.0; same = ap short_short_int (ap (cast_signed w8) first ∙ r.1) }
scalar_again (short_short_uint n) field encodes = let r = one_read n field encodes in record { tag = scalars.ShortShortUint; octet = refl; width = r.0; same = ap short_short_uint r.1 }
scalar_again (errata_short_int n) field encodes = let r = signed_read w16 n field refl encodes in record { tag = scalars.ErrataShortInt; octet = refl; width = r.0; same = ap errata_short_int r.1 }
scalar_again (short_int n) field encodes = let r = signed_read w16 n field refl encodes in record { tag = scalars.ShortInt; octet = refl; width = r.0; same = ap short_int r.1 }
scalar_again (short_uint n) field encodes = record { tag = scalars.ShortUint; octet = refl; width = number_length 2 n field encodes; same = ap short_uint (number_read_whole 2 n field encodes) }
scalar_again (long_int n) field encodes = let r = signed_read w32 n field refl encodes in record { tag = scalars.LongInt; octet = refl; width = r.0; same = ap long_int r.1 }
scalar_again (long_uint n) field encodes = record { tag = scalars.LongUint; octet = refl; width = number_length 4 n field encodes; same = ap long_uint (number_read_whole 4 n field encodes) }
scalar_again (errata_long_long_int n) field encodes = let r = signed_read w64 n field refl encodes in record { tag = scalars.ErrataLongLongInt; octet = refl; width = r.0; same = ap errata_long_long_int r.1 }
scalar_again (long_long_int n) field encodes = let r = signed_read w64 n field refl encodes in record { tag = scalars.LongLongInt; octet = refl; width = r.0; same = ap long_long_int r.1 }
scalar_again (float text) field encodes = record { tag = scalars.Float; octet = refl; width = ap length encodes.octets_are ∙ encodes.fits; same = ap float encodes.octets_are }
scalar_again (double text) field encodes = record { tag = scalars.Double; octet = refl; width = ap length encodes.octets_are ∙ encodes.fits; same = ap double encodes.octets_are }
scalar_again (decimal scale number) field encodes =
    let first = encodes.0 in
    let second = encodes.1 in
    let one = one_read scale first encodes.3 in
    let one_len = one.0 in
    let four_len = number_length 4 number second encodes.4 in
    let whole : scalar_of scalars.Decimal (first ++ second) ≡ decimal scale number = decimal_read first second scale number one.0 one.1 (number_read_whole 4 number second encodes.4) in
    record { tag = scalars.Decimal; octet = refl; width = ap length encodes.2 ∙ length-append first second ∙ omega arith; same = ap (scalar_of scalars.Decimal) encodes.2 ∙ whole }
  where
    decimal_read : (first second : List ℕ) (scale number : ℕ) → length first ≡ 1 → get_or first 0 0 ≡ scale → big_number 4 second ≡ number → scalar_of scalars.Decimal (first ++ second) ≡ decimal scale number
    decimal_read [] second scale number len is rest = absurd (omega arith)
    decimal_read (x ∷ []) second scale number len is rest = rw (is, rest) refl
    decimal_read (x ∷ y ∷ first) second scale number len is rest = absurd (omega arith)
scalar_again (timestamp n) field encodes = record { tag = scalars.Timestamp; octet = refl; width = number_length 8 n field encodes; same = ap timestamp (number_read_whole 8 n field encodes) }
scalar_again void field is = record { tag = scalars.Void; octet = refl; width = ap length is; same = refl }

-- ---- values

pub list_of_items : Items → List Datum
list_of_items no_items = []
list_of_items (item value items) = value ∷ list_of_items items

pub items_of-list : (items : Items) → items_of (list_of_items items) ≡ items
unfolding list_of_items
items_of-list no_items = refl
items_of-list (item value items) = ap (item value) (items_of-list items)

pub list_of_pairs : Pairs → List (List ℕ × Datum)
list_of_pairs no_pairs = []
list_of_pairs (pair name value pairs) = (name, value) ∷ list_of_pairs pairs

pub pairs_of-list : (pairs : Pairs) → pairs_of (list_of_pairs pairs) ≡ pairs
unfolding list_of_pairs
pairs_of-list no_pairs = refl
pairs_of-list (pair name value pairs) = ap (pair name value) (pairs_of-list pairs)

pub list_of-items : (xs : List Datum) → list_of_items (items_of xs) ≡ xs
unfolding list_of_items
list_of-items [] = refl
list_of-items (x ∷ xs) = ap (λ ys. x ∷ ys) (list_of-items xs)

pub list_of-pairs : (xs : List (List ℕ × Datum)) → list_of_pairs (pairs_of xs) ≡ xs
unfolding list_of_pairs
list_of-pairs [] = refl
list_of-pairs (x ∷ xs) = ap (λ ys. x ∷ ys) (list_of-pairs xs)

-- a reader takes all that it says, and an octet at least
pub record IsComplete (levels : ℕ) (read : Reader Datum) : Type 0 where
  pub again : (end : ℕ) (value : Datum) (field after : List ℕ) → EncodesField value field → depth value ≤ levels → read end ((tag_octet value ∷ field) ++ after) ≡ Ok (value, after)
  pub consumes : (end : ℕ) → Consumes read end

pub elements-items_again : (levels : ℕ) (read : Reader Datum) → IsComplete levels read → (end : ℕ) (items : Items) (octets : List ℕ) → EncodesItems items octets → items_depth items ≤ levels
    → elements read end octets ≡ Ok (list_of_items items)
unfolding list_of_items
elements-items_again levels read complete end no_items octets is within = ap (elements read end) is ∙ elements-nil read end
elements-items_again levels read complete end (item value items) octets encodes within =
    let field = encodes.0 in
    let rest = encodes.1 in
    let first = complete.again end value field rest encodes.3 (omega arith) in
    let others = elements-items_again levels read complete end items rest encodes.4 (omega arith) in
    ap (elements read end) encodes.2 ∙ elements-next read end (complete.consumes end) ((tag_octet value ∷ field) ++ rest) (omega arith) ∙ rw (first, others) refl

pub elements-pairs_again : (levels : ℕ) (read : Reader Datum) → IsComplete levels read → (end : ℕ) (pairs : Pairs) (octets : List ℕ) → EncodesPairs pairs octets → pairs_depth pairs ≤ levels
    → elements (named read) end octets ≡ Ok (list_of_pairs pairs)
unfolding list_of_pairs
elements-pairs_again levels read complete end no_pairs octets is within = ap (elements (named read) end) is ∙ elements-nil (named read) end
elements-pairs_again levels read complete end (pair name value pairs) octets encodes within =
    let first = encodes.0 in
    let field = encodes.1 in
    let rest = encodes.2 in
    let named_is = name_at-again end name first ((tag_octet value ∷ field) ++ rest) encodes.4 in
    let value_is = complete.again end value field rest encodes.5 (omega arith) in
    let both = named-ok read end (first ++ ((tag_octet value ∷ field) ++ rest)) name ((tag_octet value ∷ field) ++ rest) rest value named_is value_is in
    let others = elements-pairs_again levels read complete end pairs rest encodes.6 (omega arith) in
    let long : 0 < length (first ++ ((tag_octet value ∷ field) ++ rest)) = omega (arith, length-append first ((tag_octet value ∷ field) ++ rest)) in
    ap (elements (named read) end) encodes.3 ∙ elements-next (named read) end (named-consumes read end (complete.consumes end)) (first ++ ((tag_octet value ∷ field) ++ rest)) long ∙ rw (both, others) refl

fixed-again : (inner : Option (Reader Datum)) (end : ℕ) (value : Scalar) (field after : List ℕ) → EncodesScalar value field → tagged inner end ((scalar_tag value ∷ field) ++ after) ≡ Ok (scalar value, after)
unfolding tagged after_tag
fixed-again inner end value field after encodes =
    let r = scalar_again value field encodes in
    let found : tag_of (scalar_tag value) ≡ Some (Fixed r.tag) = ap tag_of (sym r.octet) ∙ tag_of-octet_of (Fixed r.tag) in
    rw (found, prefix_of-again (width_of r.tag) end field after r.width, r.same) refl

bare-again : (end : ℕ) (value : Datum) (field after : List ℕ) → EncodesField value field → depth value ≤ 0 → tagged None end ((tag_octet value ∷ field) ++ after) ≡ Ok (value, after)
unfolding tagged after_tag
bare-again end (scalar value) field after encodes within = fixed-again None end value field after encodes
bare-again end (long_string text) field after encodes within = rw (counted-again end text field after encodes) refl
bare-again end (byte_array text) field after encodes within = rw (counted-again end text field after encodes) refl
bare-again end (array items) field after encodes within = absurd (omega arith)
bare-again end (table pairs) field after encodes within = absurd (omega arith)

nested-again : (levels : ℕ) (read : Reader Datum) → IsComplete levels read → (end : ℕ) (value : Datum) (field after : List ℕ) → EncodesField value field → depth value ≤ suc levels
    → tagged (Some read) end ((tag_octet value ∷ field) ++ after) ≡ Ok (value, after)
unfolding tagged after_tag
nested-again levels read complete end (scalar value) field after encodes within = fixed-again (Some read) end value field after encodes
nested-again levels read complete end (long_string text) field after encodes within = rw (counted-again end text field after encodes) refl
nested-again levels read complete end (byte_array text) field after encodes within = rw (counted-again end text field after encodes) refl
nested-again levels read complete end (array items) field after encodes within =
    let inside = elements-items_again levels read complete (end - length after) items encodes.0 encodes.2 (omega arith) in
    rw (counted-again end encodes.0 field after encodes.1, inside, items_of-list items) refl
nested-again levels read complete end (table pairs) field after encodes within =
    let inside = elements-pairs_again levels read complete (end - length after) pairs encodes.0 encodes.2 (omega arith) in
    rw (counted-again end encodes.0 field after encodes.1, inside, pairs_of-list pairs) refl

pub value_at-complete : (levels : ℕ) → IsComplete levels (value_at levels)
unfolding value_at
value_at-complete zero = record { again = bare-again; consumes = value_at-consumes zero }
value_at-complete (suc levels) = record { again = nested-again levels (value_at levels) (value_at-complete levels); consumes = value_at-consumes (suc levels) }

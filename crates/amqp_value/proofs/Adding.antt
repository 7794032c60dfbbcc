-- Reading a pair and adding it to those before.
use Rattle.std.proofs.Common.{◌≡◌, ◌∙◌, ap, ℕ, zero, suc, ◌-◌, ◌≤◌, List, [], ◌∷◌, length, take, drop, Some, Ok, ltb, false, refl, arith, rules, length-take}
use Rattle.std.proofs.lemmas.Bool.{le-ltb, ltb-false}
use Rattle.std.proofs.lemmas.List.{take_rest, length-drop}
use Rattle.byteorder.specs.Endian.{big_number}
use Rattle.amqp_value.specs.Reading.{Reader, counted, name_at, named, under, after_tag, tagged, tag_of, width_of, scalar_of, value_at}
use Rattle.amqp_value.specs.Values.{scalar, long_string}
use Rattle.amqp_value.specs.declared.tag.ScalarTag.{ScalarTag}
use Rattle.amqp_value.specs.declared.tag.Tag.TheVariants.{Fixed}
use Rattle.amqp_value.specs.declared.values.Value.{LongString, the_lemmas}
use Rattle.amqp_value.specs.View.{view}
use Rattle.amqp_value.proofs.Elements.{guard_ok, ok_is}

-- after a name, what is read under it
pub named-is : {X : Type 0} (read : Reader X) (end : ℕ) (octets name field : List ℕ) → name_at end octets ≡ Ok (name, field) → named read end octets ≡ under name (read end field)
unfolding named
named-is read end octets name field first = rw first refl

-- a name that lies whole in what follows its length
pub name-is : (end length_octet n : ℕ) (octets : List ℕ) → n ≡ length_octet → n ≤ length octets → name_at end (length_octet ∷ octets) ≡ Ok (take n octets, drop n octets)
name-is end length_octet n octets is fits =
    let there : ltb (length octets) n ≡ false = le-ltb _ _ fits in
    rw (← is, there) refl

-- the name that octets begin with stands after their first
pub name-after : (octets name field : List ℕ) → name_at 0 octets ≡ Ok (name, field) → take (length name) (drop 1 octets) ≡ name
name-after [] name field read = absurd cc
name-after (n ∷ octets) name field read =
    let fits = guard_ok (ltb (length octets) n) _ _ (name, field) read in
    let name_is : take n octets ≡ name = ap (λ x. x.0) (ok_is _ _ fits.1) in
    let long : length name ≡ n = omega (arith, ap length name_is, length-take n octets, ltb-false _ _ fits.0) in
    ap (λ k. take k octets) long ∙ name_is

-- what a count counts stands after its four octets
pub counted-after : (octets text after : List ℕ) → counted 0 octets ≡ Ok (text, after) → take (length text) (drop 4 octets) ≡ text
counted-after octets text after read =
    let n = big_number 4 octets in
    let whole = guard_ok (ltb (length octets) 4) _ _ (text, after) read in
    let fits = guard_ok (ltb (length octets - 4) n) _ _ (text, after) whole.1 in
    let text_is : take n (drop 4 octets) ≡ text = ap (λ x. x.0) (ok_is _ _ fits.1) in
    let long : length text ≡ n = omega (arith, ap length text_is, length-take n (drop 4 octets), length-drop 4 octets, ltb-false _ _ fits.0) in
    ap (λ k. take k (drop 4 octets)) long ∙ text_is

-- a long string of its own, as its datum
pub view-LongString : (text : List ℕ) → view (LongString text) ≡ long_string text
view-LongString text = search (rules, the_lemmas)

-- a count that fits what follows it
pub counted-is : (end : ℕ) (octets : List ℕ) → 4 ≤ length octets → big_number 4 octets ≤ length octets - 4
    → counted end octets ≡ Ok (take (big_number 4 octets) (drop 4 octets), drop (big_number 4 octets) (drop 4 octets))
counted-is end octets long fits =
    let first : ltb (length octets) 4 ≡ false = le-ltb _ _ long in
    let second : ltb (length octets - 4) (big_number 4 octets) ≡ false = le-ltb _ _ fits in
    rw (first, second) refl

-- a long string, however deep it stands
pub long_string-read : (levels end octet : ℕ) (rest text after : List ℕ) → octet ≡ 83 → counted end rest ≡ Ok (text, after) → value_at levels end (octet ∷ rest) ≡ Ok (long_string text, after)
unfolding value_at tagged after_tag
long_string-read zero end octet rest text after is read = rw (is, read) refl
long_string-read (suc levels) end octet rest text after is read = rw (is, read) refl

-- a long string that lies whole in what follows its tag, however deep it stands
pub text-read : (levels end octet n : ℕ) (rest text : List ℕ) → octet ≡ 83 → 4 ≤ length rest → n ≡ big_number 4 rest → text ≡ take (length rest - 4) (drop 4 rest) → n ≤ length text
    → value_at levels end (octet ∷ rest) ≡ Ok (long_string (take n text), take (length text - n) (drop n text))
text-read levels end octet n rest text is long is_n is_text there =
    let same : text ≡ drop 4 rest = is_text ∙ take_rest rest 4 in
    let fits : big_number 4 rest ≤ length rest - 4 = omega (arith, length-drop 4 rest, ap length same) in
    let read : counted end rest ≡ Ok (take n text, drop n text) = rw (is_n, same) (counted-is end rest long fits) in
    rw (take_rest text n) (long_string-read levels end octet rest (take n text) (drop n text) is read)

-- a value of fixed size that lies whole in what follows its tag
pub scalar-read : (levels end octet : ℕ) (rest : List ℕ) (tag : ScalarTag) → tag_of octet ≡ Some (Fixed tag) → width_of tag ≤ length rest
    → value_at levels end (octet ∷ rest) ≡ Ok (scalar (scalar_of tag (take (width_of tag) rest)), drop (width_of tag) rest)
unfolding value_at tagged after_tag
scalar-read zero end octet rest tag is long =
    let narrow : ltb (length rest) (width_of tag) ≡ false = le-ltb _ _ long in
    rw (is, narrow) refl
scalar-read (suc levels) end octet rest tag is long =
    let narrow : ltb (length rest) (width_of tag) ≡ false = le-ltb _ _ long in
    rw (is, narrow) refl

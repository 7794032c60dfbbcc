-- Octets that encode a whole, and their parts.
use Rattle.std.proofs.Common.{◌≡◌, ℕ, suc, ◌+◌, ◌-◌, ◌≤◌, ◌<◌, ltb, IsTrue, List, [], ◌∷◌, ◌++◌, length, take, drop}
use Rattle.std.proofs.Common.{Option, Some, None, Result, Ok, Err, refl, sym, ap, subst, ◌∙◌, arith, length-take}
use Rattle.std.proofs.Common.{length-drop}
use Rattle.std.specs.Result.{is_ok, result_unwrap_or}
use Rattle.std.proofs.lemmas.Bool.{ltb-false}
use Rattle.std.proofs.lemmas.List.{append-nil, take_all, drop_at}
use Rattle.byteorder.specs.Endian.{big_number}
use Rattle.amqp_value.specs.Checking.{measured}
use Rattle.amqp_value.specs.Encoding.{EncodesTable}
use Rattle.amqp_value.specs.Reading.{Reader, counted, name_at, width_of, scalar_of, elements, named, after_tag, tagged, tag_of, value_at, table_at}
use Rattle.amqp_value.specs.Values.{Datum, scalar, long_string, byte_array, array, table, items_of, Pairs, no_pairs, pairs_of}
use Rattle.amqp_value.specs.Whole.{items_encoded, pairs_encoded, table_encoded, AreItems, ArePairs, IsTable, BeginsTable, BeginsValue, BeginsCounted, Tagged}
use Rattle.amqp_value.specs.declared.fault.ValueFault.{ValueFault}
use Rattle.amqp_value.specs.declared.tag.Tag.{Tag}
use Rattle.amqp_value.specs.declared.tag.Tag.TheVariants.{Fixed, LongString, ByteArray, Array, Table}
use Rattle.amqp_value.specs.declared.tag.ScalarTag.{ScalarTag}
use Rattle.amqp_value.proofs.Complete.{list_of-items, list_of-pairs, elements-items_again, elements-pairs_again, value_at-complete}
use Rattle.amqp_value.proofs.Elements.{Consumes, bind_ok, guard_ok, ok_is, elements-next, elements-nil, value_at-consumes, pair-consumes}
use Rattle.amqp_value.proofs.Numbers.{IsBytes, IsBytes-take, IsBytes-drop, IsBytes-rest}
use Rattle.amqp_value.proofs.Sound.{counted-takes, elements-items, elements-pairs, value_at-sound}
use Rattle.amqp_value.proofs.TableLaws.{table_at-takes, table_at-again}

-- ---- readings that do not fail

pub ok_or : {X : Type 0} (r : Result X ValueFault) (d : X) → IsTrue (is_ok r) → r ≡ Ok (result_unwrap_or r d)
ok_or (Ok x) d h = refl
ok_or (Err e) d h = absurd cc

pub is_read : {X : Type 0} (r : Result X ValueFault) (x : X) → r ≡ Ok x → IsTrue (is_ok r)
is_read r x e = ap is_ok e

pub has_read : {X : Type 0} (r : Result X ValueFault) → IsTrue (is_ok r) → (x : X) × (r ≡ Ok x)
has_read (Ok x) h = (x, refl)
has_read (Err e) h = absurd cc

pub value_read : {X : Type 0} (r : Result X ValueFault) (d x : X) → r ≡ Ok x → result_unwrap_or r d ≡ x
value_read r d x e = ap (λ q. result_unwrap_or q d) e

-- ---- elements, whatever they were read with

pub items-whole : (levels end : ℕ) (octets : List ℕ) (xs : List Datum) → levels ≤ 31 → IsBytes octets → elements (value_at levels) end octets ≡ Ok xs → elements (value_at 31) 0 octets ≡ Ok xs
items-whole levels end octets xs few fits e =
    let sound = elements-items levels (value_at levels) (value_at-sound levels) end octets xs fits e in
    elements-items_again 31 (value_at 31) (value_at-complete 31) 0 (items_of xs) octets sound.0 (omega (arith, sound.1)) ∙ ap (λ ys. Ok ys) (list_of-items xs)

pub pairs-whole : (levels end : ℕ) (octets : List ℕ) (xs : List (List ℕ × Datum)) → levels ≤ 31 → IsBytes octets → elements (named (value_at levels)) end octets ≡ Ok xs
    → elements (named (value_at 31)) 0 octets ≡ Ok xs
pairs-whole levels end octets xs few fits e =
    let sound = elements-pairs levels (value_at levels) (value_at-sound levels) end octets xs fits e in
    elements-pairs_again 31 (value_at 31) (value_at-complete 31) 0 (pairs_of xs) octets sound.0 (omega (arith, sound.1)) ∙ ap (λ ys. Ok ys) (list_of-pairs xs)

-- ---- the first of them

pub record First {X : Type 0} (read : Reader X) (octets : List ℕ) : Type 0 where
  pub element : X
  pub after : List ℕ
  pub is_read : read 0 octets ≡ Ok (element, after)
  pub others : IsTrue (is_ok (elements read 0 after))
  pub list : result_unwrap_or (elements read 0 octets) [] ≡ element ∷ result_unwrap_or (elements read 0 after) []

first-of : {X : Type 0} (read : Reader X) → Consumes read 0 → (octets : List ℕ) → IsTrue (is_ok (elements read 0 octets)) → 0 < length octets → First read octets
first-of read h octets whole long =
    let all = has_read (elements read 0 octets) whole in
    let a = bind_ok (read 0 octets) _ all.0 (sym (elements-next read 0 h octets long) ∙ all.1) in
    let b = bind_ok (elements read 0 a.0.1) (λ others. Ok (a.0.0 ∷ others)) all.0 a.2 in
    record {
      element = a.0.0;
      after = a.0.1;
      is_read = a.1;
      others = is_read (elements read 0 a.0.1) b.0 b.1;
      list = value_read (elements read 0 octets) [] all.0 all.1 ∙ sym (ok_is _ _ b.2) ∙ ap (λ ys. a.0.0 ∷ ys) (sym (value_read (elements read 0 a.0.1) [] b.0 b.1));
    }

pub first-item : (octets : List ℕ) → AreItems octets → 0 < length octets → First (value_at 31) octets
first-item octets whole long = first-of (value_at 31) (value_at-consumes 31 0) octets whole long

pub first-pair : (octets : List ℕ) → ArePairs octets → 0 < length octets → First (named (value_at 31)) octets
first-pair octets whole long = first-of (named (value_at 31)) (pair-consumes 31 0) octets whole long

pub no-items : (octets : List ℕ) → length octets ≡ 0 → items_encoded octets ≡ []
no-items [] none = value_read (elements (value_at 31) 0 []) [] [] (elements-nil (value_at 31) 0)
no-items (octet ∷ octets) none = absurd (omega arith)

pub no-pairs : (octets : List ℕ) → length octets ≡ 0 → pairs_encoded octets ≡ []
no-pairs [] none = value_read (elements (named (value_at 31)) 0 []) [] [] (elements-nil (named (value_at 31)) 0)
no-pairs (octet ∷ octets) none = absurd (omega arith)

-- ---- a name and the value under it

pub record NameParts (octets : List ℕ) (named_value : List ℕ × Datum) (after : List ℕ) : Type 0 where
  pub field : List ℕ
  pub name_is : name_at 0 octets ≡ Ok (named_value.0, field)
  pub value_is : value_at 31 0 field ≡ Ok (named_value.1, after)

pub name-parts : (octets : List ℕ) (x : (List ℕ × Datum) × List ℕ) → named (value_at 31) 0 octets ≡ Ok x → NameParts octets x.0 x.1
unfolding named
name-parts octets x e =
    let n = bind_ok (name_at 0 octets) _ x e in
    let v = bind_ok (value_at 31 0 n.0.1) _ x n.2 in
    let P : ((List ℕ × Datum) × List ℕ) → Type 0 = λ y. NameParts octets y.0 y.1 in
    subst P (ok_is _ _ v.2) (record { field = n.0.1; name_is = n.1; value_is = v.1 })

-- ---- a table

pub record TableParts (octets : List ℕ) (pairs : Pairs) (n : ℕ) : Type 0 where
  pub four : 4 ≤ length octets
  pub count : n ≡ 4 + big_number 4 octets
  pub enough : n ≤ length octets
  pub own : table_at (take n octets) ≡ Ok (pairs, n)
  pub others : List (List ℕ × Datum)
  pub inside : elements (named (value_at 31)) 0 (take (big_number 4 octets) (drop 4 octets)) ≡ Ok others
  pub pairs_are : pairs ≡ pairs_of others

pub table-parts : (octets : List ℕ) (x : Pairs × ℕ) → IsBytes octets → table_at octets ≡ Ok x → TableParts octets x.0 x.1
unfolding table_at
table-parts octets x fits e =
    let n = big_number 4 octets in
    let body = take n (drop 4 octets) in
    let g = guard_ok (ltb (length octets) 4) _ _ x e in
    let k = guard_ok (ltb (length octets - 4) n) _ _ x g.1 in
    let b = bind_ok (elements (named (value_at 31)) (4 + n) body) _ x k.1 in
    let is : (pairs_of b.0, 4 + n) ≡ x = ok_is _ _ b.2 in
    let takes = table_at-takes octets x fits e in
    let bytes : IsBytes body = IsBytes-take n (drop 4 octets) (IsBytes-drop 4 octets fits) in
    let long : length (take x.1 octets) ≡ x.1 = omega (arith, length-take x.1 octets, takes.1) in
    let again = table_at-again x.0 (take x.1 octets) [] takes.0 in
    record {
      four = ltb-false _ _ g.0;
      count = sym (ap (λ y. y.1) is);
      enough = takes.1;
      own = ap table_at (sym (append-nil (take x.1 octets))) ∙ again ∙ ap (λ m. Ok (x.0, m)) long;
      others = b.0;
      inside = pairs-whole 31 (4 + n) body b.0 (omega arith) bytes b.1;
      pairs_are = sym (ap (λ y. y.0) is);
    }

-- a table whose size is known
sized : (r : Result (Pairs × ℕ) ValueFault) (n : ℕ) → measured r ≡ Ok n → r ≡ Ok ((result_unwrap_or r (no_pairs, 0)).0, n)
sized (Ok x) n e =
    let is : x.1 ≡ n = cc in
    ap (λ m. Ok (x.0, m)) is
sized (Err d) n e = absurd cc

pub table-reads : (octets : List ℕ) → IsTable octets → table_at octets ≡ Ok (table_encoded octets, length octets)
table-reads octets is = sized (table_at octets) (length octets) is

-- the table that octets begin with, taken from them
pub record OwnTable (octets own : List ℕ) : Type 0 where
  pub is_table : IsTable own
  pub reads : table_at octets ≡ Ok (table_encoded own, length own)

pub own-table : (octets : List ℕ) (x : Pairs × ℕ) → IsBytes octets → table_at octets ≡ Ok x → OwnTable octets (take x.1 octets)
own-table octets x fits e =
    let parts = table-parts octets x fits e in
    let own = take x.1 octets in
    let long : length own ≡ x.1 = omega (arith, length-take x.1 octets, parts.enough) in
    let pairs_are : table_encoded own ≡ x.0 = ap (λ y. y.0) (value_read (table_at own) (no_pairs, 0) (x.0, x.1) parts.own) in
    let sized_so : measured (table_at own) ≡ Ok (length own) = ap measured parts.own ∙ ap (λ m. Ok m) (sym long) in
    record { is_table = sized_so; reads = e ∙ rw (pairs_are, long) refl }

-- what stands after the count of a table
pub record TableBody (octets : List ℕ) : Type 0 where
  pub four : 4 ≤ length octets
  pub are_pairs : ArePairs (drop 4 octets)
  pub pairs_are : table_encoded octets ≡ pairs_of (pairs_encoded (drop 4 octets))

pub table-body : (octets : List ℕ) → IsBytes octets → IsTable octets → TableBody octets
table-body octets fits is =
    let parts = table-parts octets (table_encoded octets, length octets) fits (table-reads octets is) in
    let n = big_number 4 octets in
    let whole : take n (drop 4 octets) ≡ drop 4 octets = take_all n (drop 4 octets) (omega (arith, parts.count, length-drop 4 octets)) in
    let inside : elements (named (value_at 31)) 0 (drop 4 octets) ≡ Ok parts.others = ap (elements (named (value_at 31)) 0) (sym whole) ∙ parts.inside in
    record {
      four = parts.four;
      are_pairs = is_read (elements (named (value_at 31)) 0 (drop 4 octets)) parts.others inside;
      pairs_are = parts.pairs_are ∙ ap pairs_of (sym (value_read (elements (named (value_at 31)) 0 (drop 4 octets)) [] parts.others inside));
    }

-- ---- a value

value_at-tag : (levels end octet : ℕ) (rest : List ℕ) → value_at (suc levels) end (octet ∷ rest) ≡ after_tag (Some (value_at levels)) end (octet ∷ rest) rest (tag_of octet)
unfolding value_at tagged
value_at-tag levels end octet rest = refl

-- what stands after a known tag
after : (octet : ℕ) (rest : List ℕ) (tag : Tag) → tag_of octet ≡ Some tag → value_at 31 0 (octet ∷ rest) ≡ after_tag (Some (value_at 30)) 0 (octet ∷ rest) rest (Some tag)
after octet rest tag is = value_at-tag 30 0 octet rest ∙ ap (after_tag (Some (value_at 30)) 0 (octet ∷ rest) rest) is

pub begins-long : (octets : List ℕ) → BeginsValue octets → 0 < length octets
begins-long octets h = let x = has_read (value_at 31 0 octets) h in omega (arith, (value_at-consumes 31 0).consumes octets x.0 x.1)

some_tag : (inner : Option (Reader Datum)) (octets rest : List ℕ) (tag : Option Tag) (x : Datum × List ℕ) → after_tag inner 0 octets rest tag ≡ Ok x → (t : Tag) × (tag ≡ Some t)
unfolding after_tag
some_tag inner octets rest None x e = absurd cc
some_tag inner octets rest (Some t) x e = (t, refl)

pub begins-tag : (octet : ℕ) (rest : List ℕ) → BeginsValue (octet ∷ rest) → (tag : Tag) × (tag_of octet ≡ Some tag)
begins-tag octet rest h =
    let x = has_read (value_at 31 0 (octet ∷ rest)) h in
    some_tag (Some (value_at 30)) (octet ∷ rest) rest (tag_of octet) x.0 (sym (value_at-tag 30 0 octet rest) ∙ x.1)

-- a value of fixed size
pub record FixedParts (octet : ℕ) (rest : List ℕ) (tag : ScalarTag) : Type 0 where
  pub long : width_of tag ≤ length rest
  pub value_is : value_at 31 0 (octet ∷ rest) ≡ Ok (scalar (scalar_of tag (take (width_of tag) rest)), drop (width_of tag) rest)

pub fixed-parts : (octet : ℕ) (rest : List ℕ) (tag : ScalarTag) → BeginsValue (octet ∷ rest) → tag_of octet ≡ Some (Fixed tag) → FixedParts octet rest tag
unfolding after_tag
fixed-parts octet rest tag h is =
    let x = has_read (value_at 31 0 (octet ∷ rest)) h in
    let b = bind_ok _ _ x.0 (sym (after octet rest (Fixed tag) is) ∙ x.1) in
    let g = guard_ok (ltb (length rest) (width_of tag)) _ _ b.0 b.1 in
    record { long = ltb-false _ _ g.0; value_is = after octet rest (Fixed tag) is ∙ rw g.0 refl }

-- a value that is counted
pub record CountedParts (octet : ℕ) (rest : List ℕ) (value : List ℕ → Datum) : Type 0 where
  pub begins : BeginsCounted rest
  pub value_is : (text after : List ℕ) → counted 0 rest ≡ Ok (text, after) → value_at 31 0 (octet ∷ rest) ≡ Ok (value text, after)

pub string-parts : (octet : ℕ) (rest : List ℕ) → BeginsValue (octet ∷ rest) → tag_of octet ≡ Some LongString → CountedParts octet rest (λ text. long_string text)
unfolding after_tag
string-parts octet rest h is =
    let x = has_read (value_at 31 0 (octet ∷ rest)) h in
    let b = bind_ok (counted 0 rest) _ x.0 (sym (after octet rest LongString is) ∙ x.1) in
    record { begins = is_read (counted 0 rest) b.0 b.1; value_is = λ text rest_after read. after octet rest LongString is ∙ rw read refl }

pub bytes-parts : (octet : ℕ) (rest : List ℕ) → BeginsValue (octet ∷ rest) → tag_of octet ≡ Some ByteArray → CountedParts octet rest (λ text. byte_array text)
unfolding after_tag
bytes-parts octet rest h is =
    let x = has_read (value_at 31 0 (octet ∷ rest)) h in
    let b = bind_ok (counted 0 rest) _ x.0 (sym (after octet rest ByteArray is) ∙ x.1) in
    record { begins = is_read (counted 0 rest) b.0 b.1; value_is = λ text rest_after read. after octet rest ByteArray is ∙ rw read refl }

-- an array
pub record ArrayParts (octet : ℕ) (rest : List ℕ) : Type 0 where
  pub begins : BeginsCounted rest
  pub are_items : (body after : List ℕ) → counted 0 rest ≡ Ok (body, after) → AreItems body
  pub value_is : (body after : List ℕ) → counted 0 rest ≡ Ok (body, after) → value_at 31 0 (octet ∷ rest) ≡ Ok (array (items_of (items_encoded body)), after)

pub array-parts : (octet : ℕ) (rest : List ℕ) → IsBytes (octet ∷ rest) → BeginsValue (octet ∷ rest) → tag_of octet ≡ Some Array → ArrayParts octet rest
unfolding after_tag
array-parts octet rest fits h is =
    let x = has_read (value_at 31 0 (octet ∷ rest)) h in
    let b = bind_ok (counted 0 rest) _ x.0 (sym (after octet rest Array is) ∙ x.1) in
    let d = bind_ok (elements (value_at 30) (0 - length b.0.1) b.0.0) _ x.0 b.2 in
    let inside : elements (value_at 31) 0 b.0.0 ≡ Ok d.0 =
    items-whole 30 (0 - length b.0.1) b.0.0 d.0 (omega arith) (counted-takes 0 rest b.0 (IsBytes-rest octet rest fits) b.1).text_fits d.1 in
    let found : value_at 31 0 (octet ∷ rest) ≡ Ok (array (items_of (items_encoded b.0.0)), b.0.1) =
    x.1 ∙ sym d.2 ∙ ap (λ ys. Ok (array (items_of ys), b.0.1)) (sym (value_read (elements (value_at 31) 0 b.0.0) [] d.0 inside)) in
    record {
      begins = is_read (counted 0 rest) b.0 b.1;
      are_items = λ body rest_after read. subst (λ (y : List ℕ × List ℕ). AreItems y.0) (ok_is _ _ (sym b.1 ∙ read)) (is_read (elements (value_at 31) 0 b.0.0) d.0 inside);
      value_is = λ body rest_after read.
          subst (λ (y : List ℕ × List ℕ). value_at 31 0 (octet ∷ rest) ≡ Ok (array (items_of (items_encoded y.0)), y.1)) (ok_is _ _ (sym b.1 ∙ read)) found;
    }

-- a nested table
pub record NestedParts (octet : ℕ) (rest : List ℕ) : Type 0 where
  pub begins : BeginsTable rest
  pub value_is : (pairs : Pairs) (n : ℕ) → table_at rest ≡ Ok (pairs, n) → value_at 31 0 (octet ∷ rest) ≡ Ok (table pairs, drop n rest)

pub nested-parts : (octet : ℕ) (rest : List ℕ) → IsBytes (octet ∷ rest) → BeginsValue (octet ∷ rest) → tag_of octet ≡ Some Table → NestedParts octet rest
unfolding after_tag
nested-parts octet rest fits h is =
    let x = has_read (value_at 31 0 (octet ∷ rest)) h in
    let b = bind_ok (counted 0 rest) _ x.0 (sym (after octet rest Table is) ∙ x.1) in
    let d = bind_ok (elements (named (value_at 30)) (0 - length b.0.1) b.0.0) _ x.0 b.2 in
    let pairs = pairs_of d.0 in
    let found : value_at 31 0 (octet ∷ rest) ≡ Ok (table pairs, b.0.1) = x.1 ∙ sym d.2 in
    let value = (value_at-sound 31).takes 0 (octet ∷ rest) (table pairs, b.0.1) fits found in
    let tail : rest ≡ value.field ++ b.0.1 = ap (drop 1) value.parts in
    let encodes : EncodesTable pairs value.field = (omega (arith, value.within), value.encodes) in
    let reads : table_at rest ≡ Ok (pairs, length value.field) = ap table_at tail ∙ table_at-again pairs value.field b.0.1 encodes in
    let left : drop (length value.field) rest ≡ b.0.1 = ap (drop (length value.field)) tail ∙ drop_at value.field b.0.1 (length value.field) refl in
    let all : value_at 31 0 (octet ∷ rest) ≡ Ok (table pairs, drop (length value.field) rest) = found ∙ ap (λ r. Ok (table pairs, r)) (sym left) in
    record {
      begins = is_read (table_at rest) (pairs, length value.field) reads;
      value_is = λ other n read.
          subst (λ (y : Pairs × ℕ). value_at 31 0 (octet ∷ rest) ≡ Ok (table y.0, drop y.1 rest)) (ok_is _ _ (sym reads ∙ read)) all;
    }

-- ---- a tag, and the octets after it

pub tagged-of : (octets rest : List ℕ) (octet : ℕ) → BeginsValue octets → octets ≡ octet ∷ rest → (tag : Tag) × (tag_of octet ≡ Some tag)
tagged-of octets rest octet h is = begins-tag octet rest (subst BeginsValue is h)

pub fixed-of : (octets rest : List ℕ) (tag : ScalarTag) → BeginsValue octets → Tagged octets (Fixed tag) rest
    → (width_of tag ≤ length rest) × (value_at 31 0 octets ≡ Ok (scalar (scalar_of tag (take (width_of tag) rest)), drop (width_of tag) rest))
fixed-of octets rest tag h t =
    let parts = fixed-parts t.0 rest tag (subst BeginsValue t.1 h) t.2 in
    (parts.long, ap (value_at 31 0) t.1 ∙ parts.value_is)

pub string-of : (octets rest : List ℕ) → BeginsValue octets → Tagged octets LongString rest
    → BeginsCounted rest × ((text after : List ℕ) → counted 0 rest ≡ Ok (text, after) → value_at 31 0 octets ≡ Ok (long_string text, after))
string-of octets rest h t =
    let parts = string-parts t.0 rest (subst BeginsValue t.1 h) t.2 in
    (parts.begins, λ text left read. ap (value_at 31 0) t.1 ∙ parts.value_is text left read)

pub bytes-of : (octets rest : List ℕ) → BeginsValue octets → Tagged octets ByteArray rest
    → BeginsCounted rest × ((text after : List ℕ) → counted 0 rest ≡ Ok (text, after) → value_at 31 0 octets ≡ Ok (byte_array text, after))
bytes-of octets rest h t =
    let parts = bytes-parts t.0 rest (subst BeginsValue t.1 h) t.2 in
    (parts.begins, λ text left read. ap (value_at 31 0) t.1 ∙ parts.value_is text left read)

pub array-of : (octets rest : List ℕ) → IsBytes octets → BeginsValue octets → Tagged octets Array rest
    → BeginsCounted rest × ((body after : List ℕ) → counted 0 rest ≡ Ok (body, after) → AreItems body × (value_at 31 0 octets ≡ Ok (array (items_of (items_encoded body)), after)))
array-of octets rest fits h t =
    let parts = array-parts t.0 rest (subst IsBytes t.1 fits) (subst BeginsValue t.1 h) t.2 in
    (parts.begins, λ body left read. (parts.are_items body left read, ap (value_at 31 0) t.1 ∙ parts.value_is body left read))

pub nested-of : (octets rest : List ℕ) → IsBytes octets → BeginsValue octets → Tagged octets Table rest
    → BeginsTable rest × ((pairs : Pairs) (n : ℕ) → table_at rest ≡ Ok (pairs, n) → value_at 31 0 octets ≡ Ok (table pairs, drop n rest))
nested-of octets rest fits h t =
    let parts = nested-parts t.0 rest (subst IsBytes t.1 fits) (subst BeginsValue t.1 h) t.2 in
    (parts.begins, λ pairs n read. ap (value_at 31 0) t.1 ∙ parts.value_is pairs n read)

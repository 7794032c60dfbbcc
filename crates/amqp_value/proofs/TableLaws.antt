-- The two laws of reading a table: what is read is encoded so, and what is encoded so is read.
use Rattle.std.proofs.Common.{◌≡◌, ℕ, ◌+◌, ◌-◌, ◌≤◌, ltb, List, ◌++◌, length, take, drop, Result, Ok, Err, inl, inr}
use Rattle.std.proofs.Common.{refl, sym, ap, subst, ◌∙◌, arith, length-append, length-drop}
use Rattle.std.specs.Prelude.{IfOk, IfErr, ◌⊎◌}
use Rattle.std.proofs.lemmas.Bool.{ltb-false}
use Rattle.std.proofs.lemmas.List.{take_at}
use Rattle.byteorder.specs.Endian.{big_number, big_bytes}
use Rattle.byteorder.specs.Numbers.{length-bytes_high_first}
use Rattle.amqp_value.specs.Faults.{out_of_memory}
use Rattle.amqp_value.specs.Fields.{EncodesLongString}
use Rattle.amqp_value.specs.Reading.{Gives, counted, elements, named, value_at, table_at}
use Rattle.amqp_value.specs.Encoding.{EncodesTable}
use Rattle.amqp_value.specs.Tables.{table_view, read_view}
use Rattle.amqp_value.specs.Values.{Datum, Pairs, pairs_of, pairs_depth}
use Rattle.amqp_value.specs.declared.fault.ValueFault.{ValueFault}
use Rattle.amqp_value.specs.declared.tables.Table.{Table}
use Rattle.amqp_value.proofs.Complete.{pairs_of-list, elements-pairs_again, value_at-complete, counted-again}
use Rattle.amqp_value.proofs.Elements.{bind_ok, guard_ok, ok_is}
use Rattle.amqp_value.proofs.Numbers.{IsBytes, IsBytes-take, IsBytes-drop}
use Rattle.amqp_value.proofs.Sound.{counted-is, counted-takes, elements-pairs, value_at-sound}

pub table_at-takes : (octets : List ℕ) (x : Pairs × ℕ) → IsBytes octets → table_at octets ≡ Ok x → EncodesTable x.0 (take x.1 octets) × (x.1 ≤ length octets)
unfolding table_at
table_at-takes octets x fits e =
    let n = big_number 4 octets in
    let g = guard_ok (ltb (length octets) 4) _ _ x e in
    let k = guard_ok (ltb (length octets - 4) n) _ _ x g.1 in
    let b = bind_ok (elements (named (value_at 31)) (4 + n) (take n (drop 4 octets))) _ x k.1 in
    let counts : counted (length octets) octets ≡ Ok (take n (drop 4 octets), drop n (drop 4 octets)) = rw (g.0, k.0) refl in
    let takes = counted-takes (length octets) octets (take n (drop 4 octets), drop n (drop 4 octets)) fits counts in
    let inside = elements-pairs 31 (value_at 31) (value_at-sound 31) (4 + n) (take n (drop 4 octets)) b.0 takes.text_fits b.1 in
    let enough : n ≤ length octets - 4 = ltb-false _ _ k.0 in
    let four : 4 ≤ length octets = ltb-false _ _ g.0 in
    let field_len : length takes.field + length (drop n (drop 4 octets)) ≡ length octets = sym (ap length takes.parts ∙ length-append takes.field (drop n (drop 4 octets))) in
    let long : length takes.field ≡ 4 + n = omega (arith, field_len, length-drop n (drop 4 octets), length-drop 4 octets) in
    let prefix : take (4 + n) octets ≡ takes.field = ap (take (4 + n)) takes.parts ∙ take_at takes.field (drop n (drop 4 octets)) (4 + n) long in
    let P : (Pairs × ℕ) → Type 0 = λ y. EncodesTable y.0 (take y.1 octets) × (y.1 ≤ length octets) in
    subst P (ok_is _ _ b.2) ((omega (arith, inside.1), (take n (drop 4 octets), subst (EncodesLongString (take n (drop 4 octets))) (sym prefix) takes.encodes, inside.0)), omega arith)

pub table_at-again : (pairs : Pairs) (prefix after : List ℕ) → EncodesTable pairs prefix → table_at (prefix ++ after) ≡ Ok (pairs, length prefix)
unfolding table_at
table_at-again pairs prefix after encodes =
    let octets = prefix ++ after in
    let body = encodes.1.0 in
    let field = encodes.1.1 in
    let c = counted-is (length octets) octets body after (counted-again (length octets) body prefix after field) in
    let count_len : length (big_bytes 4 (length body)) ≡ 4 = length-bytes_high_first 4 (length body) in
    let prefix_len : length prefix ≡ length (big_bytes 4 (length body)) + length body = ap length field.octets_are ∙ length-append (big_bytes 4 (length body)) body in
    let whole : 4 + big_number 4 octets ≡ length prefix = ap (λ m. 4 + m) c.count_is ∙ omega arith in
    let inside = elements-pairs_again 31 (value_at 31) (value_at-complete 31) (4 + big_number 4 octets) pairs body encodes.1.2 (omega (arith, encodes.0)) in
    rw (c.four, c.enough, c.body_is, inside, pairs_of-list pairs, whole) refl

-- pairs that were read are no deeper than was allowed
pub pairs_within : (levels end n : ℕ) (octets body : List ℕ) (pairs : List (List ℕ × Datum)) → IsBytes octets → body ≡ take n (drop 4 octets) → elements (named (value_at levels)) end body ≡ Ok pairs
    → pairs_depth (pairs_of pairs) ≤ levels
pairs_within levels end n octets body pairs fits is e =
    let bytes : IsBytes body = subst IsBytes (sym is) (IsBytes-take n (drop 4 octets) (IsBytes-drop 4 octets fits)) in
    (elements-pairs levels (value_at levels) (value_at-sound levels) end body pairs bytes e).1

-- ---- what a call that gives this may promise

pub found : (octets : List ℕ) (r : Result (Table × ℕ) ValueFault) → IsBytes octets → Gives read_view r (table_at octets) → IfOk r (λ x. EncodesTable (table_view x.0) (take x.1 octets))
found octets (Ok x) fits given = (table_at-takes octets (read_view x) fits given).0
found octets (Err e) fits given = tt

pub within : (octets : List ℕ) (r : Result (Table × ℕ) ValueFault) → IsBytes octets → Gives read_view r (table_at octets) → IfOk r (λ x. x.1 ≤ length octets)
within octets (Ok x) fits given = (table_at-takes octets (read_view x) fits given).1
within octets (Err e) fits given = tt

pub only : (octets : List ℕ) (r : Result (Table × ℕ) ValueFault) → Gives read_view r (table_at octets) → (pairs : Pairs) (prefix after : List ℕ) → EncodesTable pairs prefix → octets ≡ prefix ++ after
    → Gives read_view r (Ok (pairs, length prefix))
only octets r given pairs prefix after encodes is = subst (Gives read_view r) (ap table_at is ∙ table_at-again pairs prefix after encodes) given

abbrev read_as : Result (Pairs × ℕ) ValueFault → Result (Pairs × ℕ) ValueFault
read_as r = r

refuted : (e : ValueFault) (x : Pairs × ℕ) → read_as (Ok x) ≡ read_as (Err e) → ⊥
refuted e x h = absurd cc

pub refused : (octets : List ℕ) (r : Result (Table × ℕ) ValueFault) → Gives read_view r (table_at octets)
    → IfErr r (λ e. (e ≡ out_of_memory) ⊎ ((pairs : Pairs) (prefix after : List ℕ) → EncodesTable pairs prefix → octets ≡ prefix ++ after → ⊥))
refused octets (Ok x) given = tt
refused octets (Err e) (inl memory) = inl memory
refused octets (Err e) (inr is) = inr (λ pairs prefix after encodes whole. refuted e (pairs, length prefix) (sym (table_at-again pairs prefix after encodes) ∙ ap table_at (sym whole) ∙ is))

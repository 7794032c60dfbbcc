-- A field that has octets of its own: what is read is encoded so, and what is encoded so is read.
use Rattle.std.proofs.Common.{◌≡◌, ℕ, ◌-◌, ◌≤◌, ltb, List, [], ◌∷◌, ◌++◌, length, take, drop, Result, Ok, Err, false, refl, sym, ap, subst, ◌∙◌, arith, length-take, length-append}
use Rattle.std.proofs.lemmas.Bool.{ltb-false, le-ltb}
use Rattle.std.proofs.lemmas.List.{take_at, drop_at, take-append-drop}
use Rattle.byteorder.specs.Endian.{big_number}
use Rattle.byteorder.specs.Numbers.{big_from-append, length-bytes_high_first}
use Rattle.amqp_value.proofs.Complete.{counted-again}
use Rattle.amqp_value.proofs.Elements.{guard_ok}
use Rattle.amqp_value.proofs.Numbers.{IsBytes, IsBytes-take, IsBytes-drop, number_encoded, number_read}
use Rattle.amqp_value.proofs.Sound.{counted-takes, name_at-takes}
use Rattle.amqp_value.proofs.TableLaws.{table_at-takes, table_at-again}
use Rattle.amqp_value.specs.Fields.{EncodesNumber, EncodesShortString, EncodesLongString}
use Rattle.amqp_value.specs.Reading.{counted, name_at, table_at}
use Rattle.amqp_value.specs.Encoding.{EncodesTable}
use Rattle.amqp_value.specs.Values.{Pairs}
use Rattle.amqp_value.specs.declared.fault.ValueFault.{ValueFault}
use Rattle.amqp_method.specs.Reading.{read_number, short_string_at, long_string_at, field_table_at, after_table}
use Rattle.amqp_method.specs.declared.faults.MethodFault.{MethodFault}

abbrev done : {A : Type 0} → A → Result A MethodFault
done x = Ok x

pub same_ok : {A : Type 0} (x y : A) → ◌≡◌ {A = Result A MethodFault} (Ok x) (Ok y) → x ≡ y
same_ok x y e = cc

-- octets that are an encoding and what stands after it
pub record Takes (Encodes : List ℕ → Type 0) (octets after : List ℕ) : Type 0 where
  pub prefix : List ℕ
  pub parts : octets ≡ prefix ++ after
  pub encodes : Encodes prefix
  pub after_fits : IsBytes after

pub read_number-takes : (n end : ℕ) (octets : List ℕ) (x : ℕ × List ℕ) → IsBytes octets → read_number n end octets ≡ Ok x → Takes (EncodesNumber n x.0) octets x.1
read_number-takes n end octets x fits e =
    let g = guard_ok (ltb (length octets) n) _ _ x e in
    let enough : n ≤ length octets = ltb-false _ _ g.0 in
    let prefix_len : length (take n octets) ≡ n = omega (arith, length-take n octets) in
    let same : big_number n (take n octets) ≡ big_number n octets = sym (big_from-append n (take n octets) (drop n octets) (omega arith)) ∙ ap (big_number n) (take-append-drop n octets) in
    let P : (ℕ × List ℕ) → Type 0 = λ y. Takes (EncodesNumber n y.0) octets y.1 in
    subst P (same_ok _ _ g.1) (record {
      prefix = take n octets;
      parts = sym (take-append-drop n octets);
      encodes = subst (λ m. EncodesNumber n m (take n octets)) same (number_encoded n (take n octets) prefix_len (IsBytes-take n octets fits));
      after_fits = IsBytes-drop n octets fits;
    })

pub read_number-again : (n end number : ℕ) (prefix after : List ℕ) → EncodesNumber n number prefix → read_number n end (prefix ++ after) ≡ Ok (number, after)
read_number-again n end number prefix after encoded =
    let long : length prefix ≡ n = ap length encoded.octets_are ∙ length-bytes_high_first n number in
    let enough : ltb (length (prefix ++ after)) n ≡ false = le-ltb _ _ (omega (arith, length-append prefix after)) in
    rw (enough, number_read n number prefix after encoded, drop_at prefix after n long) refl

pub short_string_at-takes : (end : ℕ) (octets : List ℕ) (x : List ℕ × List ℕ) → IsBytes octets → short_string_at end octets ≡ Ok x → Takes (EncodesShortString x.0) octets x.1
short_string_at-takes end [] x fits e = absurd cc
short_string_at-takes end (n ∷ octets) x fits e =
    let g = guard_ok (ltb (length octets) n) _ _ x e in
    let named : name_at end (n ∷ octets) ≡ Ok (take n octets, drop n octets) = rw g.0 refl in
    let takes = name_at-takes end (n ∷ octets) (take n octets, drop n octets) fits named in
    let P : (List ℕ × List ℕ) → Type 0 = λ y. Takes (EncodesShortString y.0) (n ∷ octets) y.1 in
    subst P (same_ok _ _ g.1) (record { prefix = takes.field; parts = takes.parts; encodes = takes.encodes; after_fits = takes.after_fits })

pub short_string_at-again : (end : ℕ) (text prefix after : List ℕ) → EncodesShortString text prefix → short_string_at end (prefix ++ after) ≡ Ok (text, after)
short_string_at-again end text prefix after encoded =
    let enough : ltb (length (text ++ after)) (length text) ≡ false = le-ltb _ _ (omega (arith, length-append text after)) in
    let is : short_string_at end (length text ∷ (text ++ after)) ≡ Ok (text, after) = rw (enough, take_at text after (length text) refl, drop_at text after (length text) refl) refl in
    ap (λ (o : List ℕ). short_string_at end (o ++ after)) encoded.octets_are ∙ is

pub long_string_at-takes : (end : ℕ) (octets : List ℕ) (x : List ℕ × List ℕ) → IsBytes octets → long_string_at end octets ≡ Ok x → Takes (EncodesLongString x.0) octets x.1
long_string_at-takes end octets x fits e =
    let g = guard_ok (ltb (length octets) 4) _ _ x e in
    let k = guard_ok (ltb (length octets - 4) (big_number 4 octets)) _ _ x g.1 in
    let n = big_number 4 octets in
    let counts : counted end octets ≡ Ok (take n (drop 4 octets), drop n (drop 4 octets)) = rw (g.0, k.0) refl in
    let takes = counted-takes end octets (take n (drop 4 octets), drop n (drop 4 octets)) fits counts in
    let P : (List ℕ × List ℕ) → Type 0 = λ y. Takes (EncodesLongString y.0) octets y.1 in
    subst P (same_ok _ _ k.1) (record { prefix = takes.field; parts = takes.parts; encodes = takes.encodes; after_fits = takes.after_fits })

value_ok : {A : Type 0} (x y : A) → ◌≡◌ {A = Result A ValueFault} (Ok x) (Ok y) → x ≡ y
value_ok x y e = cc

pub long_string_at-again : (end : ℕ) (text prefix after : List ℕ) → EncodesLongString text prefix → long_string_at end (prefix ++ after) ≡ Ok (text, after)
long_string_at-again end text prefix after encoded =
    let octets = prefix ++ after in
    let n = big_number 4 octets in
    let counts = counted-again end text prefix after encoded in
    let g = guard_ok (ltb (length octets) 4) _ _ _ counts in
    let k = guard_ok (ltb (length octets - 4) n) _ _ _ g.1 in
    let same : (take n (drop 4 octets), drop n (drop 4 octets)) ≡ (text, after) = value_ok _ _ k.1 in
    rw (g.0, k.0) (ap (λ (x : List ℕ × List ℕ). done x) same)

after_table-takes : (end : ℕ) (octets : List ℕ) (found : Result (Pairs × ℕ) ValueFault) (x : Pairs × List ℕ) → IsBytes octets → table_at octets ≡ found → after_table end octets found ≡ Ok x → Takes (EncodesTable x.0) octets x.1
after_table-takes end octets (Ok found) x fits is e =
    let takes = table_at-takes octets found fits is in
    let P : (Pairs × List ℕ) → Type 0 = λ y. Takes (EncodesTable y.0) octets y.1 in
    subst P (same_ok _ _ e) (record { prefix = take found.1 octets; parts = sym (take-append-drop found.1 octets); encodes = takes.0; after_fits = IsBytes-drop found.1 octets fits })
after_table-takes end octets (Err fault) x fits is e = absurd cc

pub field_table_at-takes : (end : ℕ) (octets : List ℕ) (x : Pairs × List ℕ) → IsBytes octets → field_table_at end octets ≡ Ok x → Takes (EncodesTable x.0) octets x.1
field_table_at-takes end octets x fits e = after_table-takes end octets (table_at octets) x fits refl e

pub field_table_at-again : (end : ℕ) (pairs : Pairs) (prefix after : List ℕ) → EncodesTable pairs prefix → field_table_at end (prefix ++ after) ≡ Ok (pairs, after)
field_table_at-again end pairs prefix after encoded = rw (table_at-again pairs prefix after encoded, drop_at prefix after (length prefix) refl) refl

-- Lengths that are counted value by value.
use Rattle.std.proofs.Common.{◌≡◌, ◌≢◌, ℕ, zero, suc, ◌+◌, ◌-◌, ◌==◌, ◌<◌, ◌≤◌, List, [], ◌∷◌, ◌++◌, length, drop, get_or, Bool, false, Option, refl, sym, ap, ◌∙◌, add-one, arith, length-append}
use Rattle.std.proofs.Math.Dec.{eqb-suc-zero}
use Rattle.std.proofs.lemmas.Bool.{ne_eqb}
use Rattle.std.proofs.lemmas.List.{drop_all}
use Rattle.amqp_value.specs.Lengths.{capped}
use Rattle.amqp_method.specs.Arguments.{Argument, bit, octet, short, long, long_long, short_string, long_string, table, kind_of}
use Rattle.amqp_method.specs.FirstFault.{left_by_bit, bits_left_by as bits_left_by}
use Rattle.amqp_method.specs.Lengths.{octets_of_bit, octets_of, values_length}
use Rattle.amqp_method.specs.Lent.{lent_view, lent_views}
use Rattle.amqp_method.specs.Plain.{plain_argument, plain_values, plain_property, plain_present, value_for, args_left_by}
use Rattle.amqp_method.specs.Writing.{Gathered, none_gathered, gathered_octets, written_values}
use Rattle.amqp_method.specs.declared.fields.Field.{Field}
use Rattle.amqp_method.specs.declared.properties.Lent.{Lent}
use Rattle.amqp_method.proofs.PlainLemmas.{written_values-plain}
use Rattle.amqp_method.proofs.PresentLemmas.{lent_here}
use Rattle.amqp_method.proofs.WritingLemmas.{values_from, values_here}

-- a bit in an octet that was begun
pub record InOctet (left : ℕ) : Type 0 where
  pub left_is : left_by_bit left ≡ left - 1
  pub octets_are : octets_of_bit left ≡ 0

pub bit_in_octet : (left : ℕ) → left ≢ 0 → InOctet left
bit_in_octet zero some = absurd (some refl)
bit_in_octet (suc left) some = record { left_is = omega arith; octets_are = refl }

-- ---- bits gathered, against bits left

abbrev bits : ℕ → ℕ → Gathered
bits number count = record { number = number; count = count }

-- octets are as many as are counted ahead: one is counted as a run begins, and written as it ends
record Ahead (values : List Argument) : Type 0 where
  fresh : (number : ℕ) → length (written_values values (bits number 0)) ≡ values_length values 0
  begun : (number count left : ℕ) → count + left ≡ 7 → length (written_values values (bits number (suc count))) ≡ suc (values_length values left)

own_ahead : (octets : List ℕ) (values : List Argument) → Ahead values → length (octets ++ written_values values none_gathered) ≡ length octets + values_length values 0
own_ahead octets values h = length-append octets (written_values values none_gathered) ∙ ap (λ (n : ℕ). length octets + n) (h.fresh 0)

gathered_begun : (number count : ℕ) → gathered_octets (bits number (suc count)) ≡ number ∷ []
gathered_begun number count = rw (eqb-suc-zero count) refl

begun_ahead : (octets : List ℕ) (number count : ℕ) (values : List Argument) → Ahead values
    → length ((gathered_octets (bits number (suc count)) ++ octets) ++ written_values values none_gathered) ≡ suc (length octets + values_length values 0)
begun_ahead octets number count values h = rw (gathered_begun number count) (ap suc (own_ahead octets values h))

one_more : (m n : ℕ) → m ≡ suc n → m ≡ 1 + n
one_more m n h = omega arith

none_more : (m n : ℕ) → m ≡ suc n → m ≡ suc (0 + n)
none_more m n h = omega arith

apart : (count left : ℕ) → count + suc left ≡ 7 → (suc count == 8) ≡ false
apart count left h = ne_eqb (suc count) 8 (λ e. absurd (omega arith))

ahead : (values : List Argument) → Ahead values
unfolding written_values
ahead [] = record { fresh = λ number. refl; begun = λ number count left h. ap length (gathered_begun number count) }
ahead (bit holds ∷ values) = record {
  fresh = λ number. one_more _ _ ((ahead values).begun _ 0 7 refl);
  begun = λ number count left h. bit_begun holds values number count left h (ahead values);
}
  where
    bit_begun : (holds : Bool) (values : List Argument) (number count left : ℕ) → count + left ≡ 7 → Ahead values → length (written_values (bit holds ∷ values) (bits number (suc count))) ≡ suc (values_length (bit holds ∷ values) left)
    bit_begun holds values number count zero h a =
        let full : count ≡ 7 = omega arith in
        rw full (ap suc (one_more _ _ (a.begun _ 0 7 refl)))
    bit_begun holds values number count (suc left) h a =
        let room : (suc count == 8) ≡ false = apart count left h in
        rw (room, add-one) (none_more _ _ (a.begun _ (suc count) left (omega arith)))
ahead (octet n ∷ values) = record { fresh = λ number. own_ahead (plain_argument (octet n)) values (ahead values); begun = λ number count left h. begun_ahead (plain_argument (octet n)) number count values (ahead values) }
ahead (short n ∷ values) = record { fresh = λ number. own_ahead (plain_argument (short n)) values (ahead values); begun = λ number count left h. begun_ahead (plain_argument (short n)) number count values (ahead values) }
ahead (long n ∷ values) = record { fresh = λ number. own_ahead (plain_argument (long n)) values (ahead values); begun = λ number count left h. begun_ahead (plain_argument (long n)) number count values (ahead values) }
ahead (long_long n ∷ values) = record { fresh = λ number. own_ahead (plain_argument (long_long n)) values (ahead values); begun = λ number count left h. begun_ahead (plain_argument (long_long n)) number count values (ahead values) }
ahead (short_string t ∷ values) = record { fresh = λ number. own_ahead (plain_argument (short_string t)) values (ahead values); begun = λ number count left h. begun_ahead (plain_argument (short_string t)) number count values (ahead values) }
ahead (long_string t ∷ values) = record { fresh = λ number. own_ahead (plain_argument (long_string t)) values (ahead values); begun = λ number count left h. begun_ahead (plain_argument (long_string t)) number count values (ahead values) }
ahead (table t ∷ values) = record { fresh = λ number. own_ahead (plain_argument (table t)) values (ahead values); begun = λ number count left h. begun_ahead (plain_argument (table t)) number count values (ahead values) }

pub plain_length : (values : List Argument) → length (plain_values values) ≡ values_length values 0
plain_length values = ap length (sym (written_values-plain values)) ∙ (ahead values).fresh 0

-- ---- field by field

-- octets were counted for some of the values, and the others are left
pub record CountsOn (octets left : ℕ) (values all : List Argument) : Type 0 where
  pub counted : ℕ
  pub octets_are : octets ≡ capped counted
  pub joined : counted + values_length values left ≡ values_length all 0

pub counting_begins : (all : List Argument) → CountsOn 0 0 all all
counting_begins all = record { counted = 0; octets_are = refl; joined = omega arith }

counts_value : (octets left next after : ℕ) (value : Argument) (values those all : List Argument) → those ≡ value ∷ values → next ≡ capped (octets + octets_of value left) → after ≡ bits_left_by (kind_of value) left
    → CountsOn octets left those all → CountsOn next after values all
counts_value octets left next after value values those all is next_is after_is w =
    let joined : w.counted + (octets_of value left + values_length values (bits_left_by (kind_of value) left)) ≡ values_length all 0 = rw is at w.joined in
    let octets_are = w.octets_are in
    record {
      counted = w.counted + octets_of value left;
      octets_are = omega arith;
      joined = rw after_is (omega arith);
    }

pub counts_field : (fields : List Field) (i : ℕ) (d : Field) (args others : List Argument) (octets left next after : ℕ) (all : List Argument) → i < length fields
    → others ≡ args_left_by (get_or fields i d).reserved args
    → next ≡ capped (octets + octets_of (value_for (get_or fields i d).reserved (get_or fields i d).kind args) left)
    → after ≡ bits_left_by (kind_of (value_for (get_or fields i d).reserved (get_or fields i d).kind args)) left
    → CountsOn octets left (values_from i fields args) all → CountsOn next after (values_from (i + 1) fields others) all
counts_field fields i d args others octets left next after all h others_are next_is after_is w =
    let value = value_for (get_or fields i d).reserved (get_or fields i d).kind args in
    counts_value octets left next after value (values_from (i + 1) fields others) (values_from i fields args) all
    (values_here fields i d args h ∙ ap (λ (a : List Argument). value ∷ values_from (i + 1) fields a) (sym others_are)) next_is after_is w

pub counting_ends : (fields : List Field) (i : ℕ) (args : List Argument) (octets left : ℕ) (all : List Argument) → length fields ≤ i → CountsOn octets left (values_from i fields args) all → octets ≡ capped (length (plain_values all))
counting_ends fields i args octets left all h w =
    let none : values_from i fields args ≡ [] = rw (drop_all i fields h) refl in
    let joined : w.counted + 0 ≡ values_length all 0 = rw none at w.joined in
    let octets_are = w.octets_are in
    let whole = plain_length all in
    omega arith

-- ---- properties

-- octets were counted for some of the properties, and the others are left
pub record PresentCounts (octets : ℕ) (properties all : List (Option Argument)) : Type 0 where
  pub counted : ℕ
  pub octets_are : octets ≡ capped counted
  pub joined : counted + length (plain_present properties) ≡ length (plain_present all)

pub counts_property : (properties : List (Option Lent)) (i : ℕ) (d : Option Lent) (octets more next : ℕ) (all : List (Option Argument)) → i < length properties → d ≡ get_or properties i d
    → more ≡ capped (length (plain_property (lent_view d))) → next ≡ capped (octets + more)
    → PresentCounts octets (lent_views (drop i properties)) all → PresentCounts next (lent_views (drop (i + 1) properties)) all
counts_property properties i d octets more next all h at more_is next_is w =
    let p = lent_view (get_or properties i d) in
    let here : more ≡ capped (length (plain_property p)) = more_is ∙ ap (λ (o : Option Lent). capped (length (plain_property (lent_view o)))) at in
    let others = lent_views (drop (i + 1) properties) in
    let joined : w.counted + length (plain_property p ++ plain_present others) ≡ length (plain_present all) = rw (lent_here properties i d h) at w.joined in
    let sum = length-append (plain_property p) (plain_present others) in
    let octets_are = w.octets_are in
    record { counted = w.counted + length (plain_property p); octets_are = omega arith; joined = omega arith }

pub properties_counted : (properties : List (Option Lent)) (i octets : ℕ) (all : List (Option Argument)) → length properties ≤ i → PresentCounts octets (lent_views (drop i properties)) all
    → octets ≡ capped (length (plain_present all))
properties_counted properties i octets all h w =
    let none : lent_views (drop i properties) ≡ [] = rw (drop_all i properties h) refl in
    let joined : w.counted + 0 ≡ length (plain_present all) = rw none at w.joined in
    let octets_are = w.octets_are in
    omega arith

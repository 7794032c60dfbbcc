-- What is the same is equal: so being the same is an equivalence.
use Rattle.std.proofs.Common.{◌≡◌, ◌&&◌, ◌==◌, Bool, true, false, true≢false, List, ℕ, ℤ, refl, sym, ap, subst, ◌∙◌}
use Rattle.std.proofs.lemmas.Bool.{eqb-true}
use Rattle.std.specs.Bool.{beq}
use Rattle.std.specs.Cmp.{IsEquivalence, both_ways, signed_Decides}
use Rattle.std.specs.Cmp.Lexicographic.{same_text, nat_list_eq_equiv}
use Rattle.std.specs.Ordering.{int_eq}
use Rattle.std.proofs.lemmas.Cmp.{nat_eq_equiv, int_eq_equiv}
use Rattle.std.specs.Str.{bytes_eq}
use Rattle.amqp_value.specs.Same.{same_scalar, same_datum, same_items, same_pairs}
use Rattle.amqp_value.specs.Values.{Scalar, boolean, short_short_int, short_short_uint, errata_short_int, short_int}
use Rattle.amqp_value.specs.Values.{short_uint, long_int, long_uint, errata_long_long_int, long_long_int, float, double}
use Rattle.amqp_value.specs.Values.{decimal, timestamp, void, Datum, scalar, long_string, byte_array, array, table}
use Rattle.amqp_value.specs.Values.{Items, no_items, item, Pairs, no_pairs, pair}

-- ---- both of two tests

first-true : (a b : Bool) → (a && b) ≡ true → a ≡ true
first-true true b e = refl
first-true false b e = e

second-true : (a b : Bool) → (a && b) ≡ true → b ≡ true
second-true true b e = e
second-true false b e = absurd (true≢false (sym e))

both : (a b : Bool) → a ≡ true → b ≡ true → (a && b) ≡ true
both true b e f = f
both false b e f = absurd (true≢false (sym e))

-- ---- the parts

pub truth-is : (a b : Bool) → beq a b ≡ true → a ≡ b
truth-is true true e = refl
truth-is false false e = refl
truth-is a b e = absurd (true≢false (sym e))

pub truth-self : (a : Bool) → beq a a ≡ true
truth-self true = refl
truth-self false = refl

pub octets-are : (a b : List ℕ) → bytes_eq a b ≡ true → a ≡ b
octets-are a b e = same_text a b (sym e)

pub octets-self : (a : List ℕ) → bytes_eq a a ≡ true
octets-self a = nat_list_eq_equiv.refl a

signed-is : (a b : ℤ) → int_eq a b ≡ true → a ≡ b
signed-is a b e = (signed_Decides a b).0 e

scalar-is : (s t : Scalar) → same_scalar s t ≡ true → s ≡ t
scalar-is (boolean a) (boolean b) e = ap boolean (truth-is a b e)
scalar-is (short_short_int a) (short_short_int b) e = ap short_short_int (signed-is a b e)
scalar-is (short_short_uint a) (short_short_uint b) e = ap short_short_uint (eqb-true a b e)
scalar-is (errata_short_int a) (errata_short_int b) e = ap errata_short_int (signed-is a b e)
scalar-is (short_int a) (short_int b) e = ap short_int (signed-is a b e)
scalar-is (short_uint a) (short_uint b) e = ap short_uint (eqb-true a b e)
scalar-is (long_int a) (long_int b) e = ap long_int (signed-is a b e)
scalar-is (long_uint a) (long_uint b) e = ap long_uint (eqb-true a b e)
scalar-is (errata_long_long_int a) (errata_long_long_int b) e = ap errata_long_long_int (signed-is a b e)
scalar-is (long_long_int a) (long_long_int b) e = ap long_long_int (signed-is a b e)
scalar-is (float a) (float b) e = ap float (octets-are a b e)
scalar-is (double a) (double b) e = ap double (octets-are a b e)
scalar-is (decimal scale a) (decimal other b) e =
    ap (λ s. decimal s a) (eqb-true scale other (first-true (scale == other) (a == b) e))
    ∙ ap (decimal other) (eqb-true a b (second-true (scale == other) (a == b) e))
scalar-is (timestamp a) (timestamp b) e = ap timestamp (eqb-true a b e)
scalar-is void void e = refl
scalar-is s t e = absurd (true≢false (sym e))

scalar-self : (s : Scalar) → same_scalar s s ≡ true
scalar-self (boolean a) = truth-self a
scalar-self (short_short_int a) = int_eq_equiv.refl a
scalar-self (short_short_uint a) = nat_eq_equiv.refl a
scalar-self (errata_short_int a) = int_eq_equiv.refl a
scalar-self (short_int a) = int_eq_equiv.refl a
scalar-self (short_uint a) = nat_eq_equiv.refl a
scalar-self (long_int a) = int_eq_equiv.refl a
scalar-self (long_uint a) = nat_eq_equiv.refl a
scalar-self (errata_long_long_int a) = int_eq_equiv.refl a
scalar-self (long_long_int a) = int_eq_equiv.refl a
scalar-self (float a) = octets-self a
scalar-self (double a) = octets-self a
scalar-self (decimal scale a) = both (scale == scale) (a == a) (nat_eq_equiv.refl scale) (nat_eq_equiv.refl a)
scalar-self (timestamp a) = nat_eq_equiv.refl a
scalar-self void = refl

-- ---- values

mutual
  pub datum-is : (a b : Datum) → same_datum a b ≡ true → a ≡ b
  datum-is (scalar a) (scalar b) e = ap scalar (scalar-is a b e)
  datum-is (long_string a) (long_string b) e = ap long_string (octets-are a b e)
  datum-is (byte_array a) (byte_array b) e = ap byte_array (octets-are a b e)
  datum-is (array a) (array b) e = ap array (items-are a b e)
  datum-is (table a) (table b) e = ap table (pairs-are a b e)
  datum-is a b e = absurd (true≢false (sym e))

  pub items-are : (a b : Items) → same_items a b ≡ true → a ≡ b
  items-are no_items no_items e = refl
  items-are (item a items) (item b others) e =
      ap (λ d. item d items) (datum-is a b (first-true (same_datum a b) (same_items items others) e))
      ∙ ap (item b) (items-are items others (second-true (same_datum a b) (same_items items others) e))
  items-are a b e = absurd (true≢false (sym e))

  pub pairs-are : (a b : Pairs) → same_pairs a b ≡ true → a ≡ b
  pairs-are no_pairs no_pairs e = refl
  pairs-are (pair name a pairs) (pair other b others) e =
      let later = second-true (bytes_eq name other) (same_datum a b && same_pairs pairs others) e in
      ap (λ n. pair n a pairs) (octets-are name other (first-true (bytes_eq name other)
      (same_datum a b && same_pairs pairs others) e))
      ∙ ap (λ d. pair other d pairs) (datum-is a b (first-true (same_datum a b) (same_pairs pairs others) later))
      ∙ ap (pair other b) (pairs-are pairs others (second-true (same_datum a b) (same_pairs pairs others) later))
  pairs-are a b e = absurd (true≢false (sym e))

mutual
  pub datum-self : (a : Datum) → same_datum a a ≡ true
  datum-self (scalar a) = scalar-self a
  datum-self (long_string a) = octets-self a
  datum-self (byte_array a) = octets-self a
  datum-self (array a) = items-self a
  datum-self (table a) = pairs-self a

  pub items-self : (a : Items) → same_items a a ≡ true
  items-self no_items = refl
  items-self (item a items) = both (same_datum a a) (same_items items items) (datum-self a) (items-self items)

  pub pairs-self : (a : Pairs) → same_pairs a a ≡ true
  pairs-self no_pairs = refl
  pairs-self (pair name a pairs) =
      both (bytes_eq name name) (same_datum a a && same_pairs pairs pairs) (octets-self name)
      (both (same_datum a a) (same_pairs pairs pairs) (datum-self a) (pairs-self pairs))

-- ---- an equivalence

pub equivalence : {K : Type 0} (same : K → K → Bool) → ((x y : K) → same x y ≡ true → x ≡ y)
    → ((x : K) → same x x ≡ true) → IsEquivalence same
equivalence same is self = record {
  refl = self;
  symm = λ x y. both_ways (same x y) (same y x) (λ e. subst (λ z. same z x ≡ true) (is x y e) (self x))
      (λ e. subst (λ z. same z y ≡ true) (is y x e) (self y));
  congr = λ x y z e. ap (λ w. same w z) (is x y e);
}

pub datum_equiv : IsEquivalence same_datum
datum_equiv = equivalence same_datum datum-is datum-self

pub items_equiv : IsEquivalence same_items
items_equiv = equivalence same_items items-are items-self

pub pairs_equiv : IsEquivalence same_pairs
pairs_equiv = equivalence same_pairs pairs-are pairs-self

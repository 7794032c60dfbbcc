-- What is the same is equal, so being the same is an equivalence.
use Rattle.std.proofs.Common.{◌≡◌, true, true≢false, Option, Some, None, refl, sym, ap}
use Rattle.std.proofs.lemmas.Bool.{eqb-true}
use Rattle.std.proofs.lemmas.Cmp.{nat_eq_equiv}
use Rattle.std.specs.Cmp.{IsEquivalence, on_equiv, and_equiv}
use Rattle.std.specs.Cmp.Lexicographic.{lists_equiv}
use Rattle.amqp_value.specs.Equality.{truth-is, truth-self, octets-are, octets-self, pairs-are, pairs-self, equivalence}
use Rattle.amqp_method.specs.Same.{same_argument, same_call, same_property, same_header}
use Rattle.amqp_method.specs.Arguments.{Argument, bit, octet, short, long, long_long, short_string, long_string, table, Call}
use Rattle.amqp_method.specs.Kinds.{class_of, id_of}
use Rattle.amqp_method.specs.Properties.{ContentHeader}

argument-is : (a b : Argument) → same_argument a b ≡ true → a ≡ b
argument-is (bit a) (bit b) e = ap bit (truth-is a b e)
argument-is (octet a) (octet b) e = ap octet (eqb-true a b e)
argument-is (short a) (short b) e = ap short (eqb-true a b e)
argument-is (long a) (long b) e = ap long (eqb-true a b e)
argument-is (long_long a) (long_long b) e = ap long_long (eqb-true a b e)
argument-is (short_string a) (short_string b) e = ap short_string (octets-are a b e)
argument-is (long_string a) (long_string b) e = ap long_string (octets-are a b e)
argument-is (table a) (table b) e = ap table (pairs-are a b e)
argument-is a b e = absurd (true≢false (sym e))

argument-self : (a : Argument) → same_argument a a ≡ true
argument-self (bit a) = truth-self a
argument-self (octet a) = nat_eq_equiv.refl a
argument-self (short a) = nat_eq_equiv.refl a
argument-self (long a) = nat_eq_equiv.refl a
argument-self (long_long a) = nat_eq_equiv.refl a
argument-self (short_string a) = octets-self a
argument-self (long_string a) = octets-self a
argument-self (table a) = pairs-self a

pub argument_equiv : IsEquivalence same_argument
argument_equiv = equivalence same_argument argument-is argument-self

property-is : (a b : Option Argument) → same_property a b ≡ true → a ≡ b
property-is None None e = refl
property-is (Some a) (Some b) e = ap (λ p. Some p) (argument-is a b e)
property-is a b e = absurd (true≢false (sym e))

property-self : (a : Option Argument) → same_property a a ≡ true
property-self None = refl
property-self (Some a) = argument-self a

property_equiv : IsEquivalence same_property
property_equiv = equivalence same_property property-is property-self

pub call_equiv : IsEquivalence same_call
call_equiv =
    and_equiv (and_equiv (on_equiv (λ (c : Call). class_of c.kind) nat_eq_equiv)
    (on_equiv (λ (c : Call). id_of c.kind) nat_eq_equiv))
    (on_equiv (λ (c : Call). c.args) (lists_equiv argument_equiv))

pub header_equiv : IsEquivalence same_header
header_equiv = and_equiv (on_equiv (λ (h : ContentHeader). h.body_size) nat_eq_equiv)
    (on_equiv (λ (h : ContentHeader). h.properties) (lists_equiv property_equiv))

-- A content header that is lent, property by property.
use Rattle.std.proofs.Common.{◌≡◌, ℕ, zero, suc, ◌<◌, List, [], ◌∷◌, length, Option, Some, None, refl, sym, ap, arith}
use Rattle.std.specs.Prelude.{MatchOption, get_or}
use Rattle.std.specs.Borrow.{Bor}
use Rattle.amqp_value.specs.Lent.{table_ref_view}
use Rattle.amqp_value.specs.Values.{Pairs}
use Rattle.amqp_value.specs.declared.table_ref.TableRef.{TableRef}
use Rattle.amqp_method.specs.Arguments.{Argument, bit, octet, short, long, long_long, short_string, long_string, table}
use Rattle.amqp_method.specs.HeaderChecking.{kind_at}
use Rattle.amqp_method.specs.HeaderRefView.{property_at}
use Rattle.amqp_method.specs.Places.{found, octet_of, long_long_of, short_string_of, table_of}
use Rattle.amqp_method.specs.Properties.{property_kinds, HaveKinds}
use Rattle.amqp_method.specs.declared.fields.FieldKind.{FieldKind}
use Rattle.amqp_method.specs.declared.fields.FieldKind.TheVariants.{Octet, LongLong, ShortStr, Table}
use Rattle.amqp_calls.specs.Headers.{long_long_there, octet_there, table_there, text_there}
use Rattle.amqp_calls.specs.WritingHeaders.{OfKind}

pub parted : (p : Option Argument) (properties : List (Option Argument)) (kind : FieldKind) (kinds : List FieldKind)
    → HaveKinds (p ∷ properties) (kind ∷ kinds) → OfKind p kind × HaveKinds properties kinds
parted None properties kind kinds h = (tt, h)
parted (Some value) properties kind kinds h = h

pub as_many : (properties : List (Option Argument)) (kinds : List FieldKind) → HaveKinds properties kinds → length properties ≡ length kinds
as_many [] [] h = refl
as_many [] (kind ∷ kinds) h = absurd h
as_many (p ∷ properties) [] h = absurd h
as_many (p ∷ properties) (kind ∷ kinds) h = ap suc (as_many properties kinds (parted p properties kind kinds h).1)

kind_of_place : (properties : List (Option Argument)) (kinds : List FieldKind) (i : ℕ) → HaveKinds properties kinds → i < length kinds
    → OfKind (property_at i properties) (get_or kinds i Octet)
kind_of_place [] [] i h here = absurd (omega (arith, here))
kind_of_place [] (kind ∷ kinds) i h here = absurd h
kind_of_place (p ∷ properties) [] i h here = absurd h
kind_of_place (p ∷ properties) (kind ∷ kinds) zero h here = (parted p properties kind kinds h).0
kind_of_place (p ∷ properties) (kind ∷ kinds) (suc i) h here =
    kind_of_place properties kinds i (parted p properties kind kinds h).1 (omega (arith, here))

-- the property at a place is of the kind there
pub at_kind : (properties : List (Option Argument)) (i : ℕ) → HaveKinds properties property_kinds → i < 14 → OfKind (property_at i properties) (kind_at i)
at_kind properties i h here = kind_of_place properties property_kinds i h here

-- fourteen properties, one after the other
pub listed : (properties : List (Option Argument)) → length properties ≡ 14 → (property_at 0 properties ∷ property_at 1 properties ∷ property_at 2 properties ∷ property_at 3 properties ∷ property_at 4 properties ∷ property_at 5 properties ∷ property_at 6 properties ∷ property_at 7 properties ∷ property_at 8 properties ∷ property_at 9 properties ∷ property_at 10 properties ∷ property_at 11 properties ∷ property_at 12 properties ∷ property_at 13 properties ∷ []) ≡ properties
listed [] e = absurd (omega (arith, e))
listed (p0 ∷ []) e = absurd (omega (arith, e))
listed (p0 ∷ p1 ∷ []) e = absurd (omega (arith, e))
listed (p0 ∷ p1 ∷ p2 ∷ []) e = absurd (omega (arith, e))
listed (p0 ∷ p1 ∷ p2 ∷ p3 ∷ []) e = absurd (omega (arith, e))
listed (p0 ∷ p1 ∷ p2 ∷ p3 ∷ p4 ∷ []) e = absurd (omega (arith, e))
listed (p0 ∷ p1 ∷ p2 ∷ p3 ∷ p4 ∷ p5 ∷ []) e = absurd (omega (arith, e))
listed (p0 ∷ p1 ∷ p2 ∷ p3 ∷ p4 ∷ p5 ∷ p6 ∷ []) e = absurd (omega (arith, e))
listed (p0 ∷ p1 ∷ p2 ∷ p3 ∷ p4 ∷ p5 ∷ p6 ∷ p7 ∷ []) e = absurd (omega (arith, e))
listed (p0 ∷ p1 ∷ p2 ∷ p3 ∷ p4 ∷ p5 ∷ p6 ∷ p7 ∷ p8 ∷ []) e = absurd (omega (arith, e))
listed (p0 ∷ p1 ∷ p2 ∷ p3 ∷ p4 ∷ p5 ∷ p6 ∷ p7 ∷ p8 ∷ p9 ∷ []) e = absurd (omega (arith, e))
listed (p0 ∷ p1 ∷ p2 ∷ p3 ∷ p4 ∷ p5 ∷ p6 ∷ p7 ∷ p8 ∷ p9 ∷ p10 ∷ []) e = absurd (omega (arith, e))
listed (p0 ∷ p1 ∷ p2 ∷ p3 ∷ p4 ∷ p5 ∷ p6 ∷ p7 ∷ p8 ∷ p9 ∷ p10 ∷ p11 ∷ []) e = absurd (omega (arith, e))
listed (p0 ∷ p1 ∷ p2 ∷ p3 ∷ p4 ∷ p5 ∷ p6 ∷ p7 ∷ p8 ∷ p9 ∷ p10 ∷ p11 ∷ p12 ∷ []) e = absurd (omega (arith, e))
listed (p0 ∷ p1 ∷ p2 ∷ p3 ∷ p4 ∷ p5 ∷ p6 ∷ p7 ∷ p8 ∷ p9 ∷ p10 ∷ p11 ∷ p12 ∷ p13 ∷ []) e = refl
listed (p0 ∷ p1 ∷ p2 ∷ p3 ∷ p4 ∷ p5 ∷ p6 ∷ p7 ∷ p8 ∷ p9 ∷ p10 ∷ p11 ∷ p12 ∷ p13 ∷ p14 ∷ others) e = absurd (omega (arith, e))

abbrev text_of : Option (List ℕ) → Option Argument
text_of None = None
text_of (Some text) = Some (short_string text)

abbrev table_in : Option Pairs → Option Argument
table_in None = None
table_in (Some pairs) = Some (table pairs)

-- ---- what a call that lends a property tells of it

pub text_told : (p : Option Argument) → OfKind p ShortStr → (r : Option (Bor (List ℕ))) → MatchOption r (found short_string_of p ≡ None) (λ text. found short_string_of p ≡ Some text.now) → text_there r ≡ p
text_told None k None h = refl
text_told None k (Some x) h = absurd cc
text_told (Some (bit holds)) k r h = absurd cc
text_told (Some (octet n)) k r h = absurd cc
text_told (Some (short n)) k r h = absurd cc
text_told (Some (long n)) k r h = absurd cc
text_told (Some (long_long n)) k r h = absurd cc
text_told (Some (short_string text)) k None h = absurd cc
text_told (Some (short_string text)) k (Some x) h = ap (λ (o : Option (List ℕ)). text_of o) (sym h)
text_told (Some (long_string text)) k r h = absurd cc
text_told (Some (table pairs)) k r h = absurd cc

pub table_told : (p : Option Argument) → OfKind p Table → (r : Option TableRef) → MatchOption r (found table_of p ≡ None) (λ t. found table_of p ≡ Some (table_ref_view t)) → table_there r ≡ p
table_told None k None h = refl
table_told None k (Some x) h = absurd cc
table_told (Some (bit holds)) k r h = absurd cc
table_told (Some (octet n)) k r h = absurd cc
table_told (Some (short n)) k r h = absurd cc
table_told (Some (long n)) k r h = absurd cc
table_told (Some (long_long n)) k r h = absurd cc
table_told (Some (short_string text)) k r h = absurd cc
table_told (Some (long_string text)) k r h = absurd cc
table_told (Some (table pairs)) k None h = absurd cc
table_told (Some (table pairs)) k (Some x) h = ap (λ (o : Option Pairs). table_in o) (sym h)

pub octet_told : (p : Option Argument) → OfKind p Octet → (r : Option ℕ) → r ≡ found octet_of p → octet_there r ≡ p
octet_told None k None h = refl
octet_told None k (Some x) h = absurd cc
octet_told (Some (bit holds)) k r h = absurd cc
octet_told (Some (octet n)) k None h = absurd cc
octet_told (Some (octet n)) k (Some x) h = ap octet_there h
octet_told (Some (short n)) k r h = absurd cc
octet_told (Some (long n)) k r h = absurd cc
octet_told (Some (long_long n)) k r h = absurd cc
octet_told (Some (short_string text)) k r h = absurd cc
octet_told (Some (long_string text)) k r h = absurd cc
octet_told (Some (table pairs)) k r h = absurd cc

pub long_long_told : (p : Option Argument) → OfKind p LongLong → (r : Option ℕ) → r ≡ found long_long_of p → long_long_there r ≡ p
long_long_told None k None h = refl
long_long_told None k (Some x) h = absurd cc
long_long_told (Some (bit holds)) k r h = absurd cc
long_long_told (Some (octet n)) k r h = absurd cc
long_long_told (Some (short n)) k r h = absurd cc
long_long_told (Some (long n)) k r h = absurd cc
long_long_told (Some (long_long n)) k None h = absurd cc
long_long_told (Some (long_long n)) k (Some x) h = ap long_long_there h
long_long_told (Some (short_string text)) k r h = absurd cc
long_long_told (Some (long_string text)) k r h = absurd cc
long_long_told (Some (table pairs)) k r h = absurd cc

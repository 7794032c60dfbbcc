-- A tag's octet, and the tag of an octet.
use Rattle.std.proofs.Common.{◌≡◌, ◌≢◌, ℕ, ◌==◌, Bool, true, false, cond, Option, Some, None, refl, sym, ap, ◌∙◌}
use Rattle.std.proofs.lemmas.Bool.{eqb-true, eqb-false}
use Rattle.amqp_value.specs.Reading.{tag_of}
use Rattle.amqp_value.specs.Encoding.{IsNoTag}
use Rattle.amqp_value.specs.declared.tag.Tag.{Tag}
use Rattle.amqp_value.specs.declared.tag.Tag.TheVariants.{Fixed, LongString, ByteArray, Array, Table}
use Rattle.amqp_value.specs.declared.tag.ScalarTag.{ScalarTag}
use Rattle.amqp_value.specs.declared.tag.ScalarTag.TheVariants as scalars

abbrev pub scalar_octet : ScalarTag → ℕ
scalar_octet scalars.Boolean = 116
scalar_octet scalars.ShortShortInt = 98
scalar_octet scalars.ShortShortUint = 66
scalar_octet scalars.ErrataShortInt = 115
scalar_octet scalars.ShortInt = 85
scalar_octet scalars.ShortUint = 117
scalar_octet scalars.LongInt = 73
scalar_octet scalars.LongUint = 105
scalar_octet scalars.ErrataLongLongInt = 108
scalar_octet scalars.LongLongInt = 76
scalar_octet scalars.Float = 102
scalar_octet scalars.Double = 100
scalar_octet scalars.Decimal = 68
scalar_octet scalars.Timestamp = 84
scalar_octet scalars.Void = 86

abbrev pub octet_of : Tag → ℕ
octet_of (Fixed tag) = scalar_octet tag
octet_of LongString = 83
octet_of ByteArray = 120
octet_of Array = 65
octet_of Table = 70

found : (octet k : ℕ) (here : Tag) (b : Bool) (other : Option Tag) → (octet == k) ≡ b → octet_of here ≡ k → ((tag : Tag) → other ≡ Some tag → octet ≡ octet_of tag)
    → (tag : Tag) → cond b (Some here) other ≡ Some tag → octet ≡ octet_of tag
found octet k here true other test is later tag e =
    let same : here ≡ tag = cc in
    eqb-true octet k test ∙ sym is ∙ ap octet_of same
found octet k here false other test is later tag e = later tag e

-- the tag of an octet has that octet
pub tag_of-octet : (octet : ℕ) (tag : Tag) → tag_of octet ≡ Some tag → octet ≡ octet_of tag
tag_of-octet octet =
    found octet 116 (Fixed scalars.Boolean) _ _ refl refl (
    found octet 98 (Fixed scalars.ShortShortInt) _ _ refl refl (
    found octet 66 (Fixed scalars.ShortShortUint) _ _ refl refl (
    found octet 115 (Fixed scalars.ErrataShortInt) _ _ refl refl (
    found octet 85 (Fixed scalars.ShortInt) _ _ refl refl (
    found octet 117 (Fixed scalars.ShortUint) _ _ refl refl (
    found octet 73 (Fixed scalars.LongInt) _ _ refl refl (
    found octet 105 (Fixed scalars.LongUint) _ _ refl refl (
    found octet 108 (Fixed scalars.ErrataLongLongInt) _ _ refl refl (
    found octet 76 (Fixed scalars.LongLongInt) _ _ refl refl (
    found octet 102 (Fixed scalars.Float) _ _ refl refl (
    found octet 100 (Fixed scalars.Double) _ _ refl refl (
    found octet 68 (Fixed scalars.Decimal) _ _ refl refl (
    found octet 84 (Fixed scalars.Timestamp) _ _ refl refl (
    found octet 86 (Fixed scalars.Void) _ _ refl refl (
    found octet 83 LongString _ _ refl refl (
    found octet 120 ByteArray _ _ refl refl (
    found octet 65 Array _ _ refl refl (
    found octet 70 Table _ _ refl refl (
    λ tag e. absurd cc)))))))))))))))))))

-- each tag is found at its octet
pub tag_of-octet_of : (tag : Tag) → tag_of (octet_of tag) ≡ Some tag
tag_of-octet_of (Fixed scalars.Boolean) = refl
tag_of-octet_of (Fixed scalars.ShortShortInt) = refl
tag_of-octet_of (Fixed scalars.ShortShortUint) = refl
tag_of-octet_of (Fixed scalars.ErrataShortInt) = refl
tag_of-octet_of (Fixed scalars.ShortInt) = refl
tag_of-octet_of (Fixed scalars.ShortUint) = refl
tag_of-octet_of (Fixed scalars.LongInt) = refl
tag_of-octet_of (Fixed scalars.LongUint) = refl
tag_of-octet_of (Fixed scalars.ErrataLongLongInt) = refl
tag_of-octet_of (Fixed scalars.LongLongInt) = refl
tag_of-octet_of (Fixed scalars.Float) = refl
tag_of-octet_of (Fixed scalars.Double) = refl
tag_of-octet_of (Fixed scalars.Decimal) = refl
tag_of-octet_of (Fixed scalars.Timestamp) = refl
tag_of-octet_of (Fixed scalars.Void) = refl
tag_of-octet_of LongString = refl
tag_of-octet_of ByteArray = refl
tag_of-octet_of Array = refl
tag_of-octet_of Table = refl

-- an octet that is no tag's
other_than : (octet k : ℕ) (here : Tag) (b : Bool) (other : Option Tag) → (octet == k) ≡ b → cond b (Some here) other ≡ None → (octet ≢ k) × (other ≡ None)
other_than octet k here true other test e = absurd cc
other_than octet k here false other test e = (eqb-false octet k test, e)

pub tag_of-none : (octet : ℕ) → tag_of octet ≡ None → IsNoTag octet
tag_of-none octet e =
    let t0 = other_than octet 116 _ _ _ refl e in
    let t1 = other_than octet 98 _ _ _ refl t0.1 in
    let t2 = other_than octet 66 _ _ _ refl t1.1 in
    let t3 = other_than octet 115 _ _ _ refl t2.1 in
    let t4 = other_than octet 85 _ _ _ refl t3.1 in
    let t5 = other_than octet 117 _ _ _ refl t4.1 in
    let t6 = other_than octet 73 _ _ _ refl t5.1 in
    let t7 = other_than octet 105 _ _ _ refl t6.1 in
    let t8 = other_than octet 108 _ _ _ refl t7.1 in
    let t9 = other_than octet 76 _ _ _ refl t8.1 in
    let t10 = other_than octet 102 _ _ _ refl t9.1 in
    let t11 = other_than octet 100 _ _ _ refl t10.1 in
    let t12 = other_than octet 68 _ _ _ refl t11.1 in
    let t13 = other_than octet 84 _ _ _ refl t12.1 in
    let t14 = other_than octet 86 _ _ _ refl t13.1 in
    let t15 = other_than octet 83 _ _ _ refl t14.1 in
    let t16 = other_than octet 120 _ _ _ refl t15.1 in
    let t17 = other_than octet 65 _ _ _ refl t16.1 in
    let t18 = other_than octet 70 _ _ _ refl t17.1 in
    (t0.0, (t1.0, (t2.0, (t3.0, (t4.0, (t5.0, (t6.0, (t7.0, (t8.0, (t9.0, (t10.0, (t11.0, (t12.0, (t13.0, (t14.0, (t15.0, (t16.0, (t17.0, (t18.0, tt)))))))))))))))))))

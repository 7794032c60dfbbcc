-- Writing a content header, property by property.
use Rattle.std.proofs.Common.{◌≡◌, ℕ, zero, suc, ◌+◌, ◌-◌, add-one, drop-cons, length-drop, ◌*◌, ◌^◌, ◌<◌, ◌≤◌, List, [], ◌∷◌, ◌++◌, length, map, take, drop, get_or, Option, Some, None, Result, Err, IfOk, IfErr, refl, sym, ap, subst, ◌∙◌, inr, arith}
use Rattle.std.proofs.Math.Nat.{pow-suc}
use Rattle.std.proofs.Math.Pow.{pow_mono}
use Rattle.std.proofs.Math.Seq.{take-length}
use Rattle.std.proofs.lemmas.List.{append-nil, append_assoc, length-map}
use Rattle.amqp_method.specs.Arguments.{Argument}
use Rattle.amqp_method.specs.HeaderChecking.{kind_at}
use Rattle.amqp_method.specs.Plain.{plain_header, plain_property, plain_present}
use Rattle.amqp_method.specs.Properties.{flags_of, header, property_kinds, HaveKinds}
use Rattle.amqp_method.specs.declared.fields.FieldKind.{FieldKind}
use Rattle.amqp_method.specs.declared.fields.FieldKind.TheVariants.{Octet}
use Rattle.amqp_calls.specs.Values.{argument_there}
use Rattle.amqp_calls.specs.Writing.{fault_of}
use Rattle.amqp_calls.specs.WritingHeaders.{bit_for, IsHeader, NotHeader, NotProperty, OfKind, WritesHeader}
use Rattle.amqp_calls.specs.declared.codec.owned.ArgFault.{ArgFault}
use Rattle.amqp_calls.specs.declared.codec.owned.ArgFault.TheVariants as arg
use Rattle.amqp_calls.specs.declared.codec.values.Value.{Value}
use Rattle.amqp_calls.specs.declared.codec.writing.WriteFault.{WriteFault}
use Rattle.amqp_calls.specs.declared.codec.writing.WriteFault.TheVariants.{UnknownKind, Misfit, Inside, Room, TooLong, OutOfMemory}
use Rattle.amqp_calls.proofs.LentHeaders.{parted}
use Rattle.amqp_calls.proofs.Unwritten.{at_place, put_writes}

-- the octets of one property more
pub present_next : (values : List Value) (n : ℕ) (d : Value) → n < length values
    → plain_present (map argument_there (take (suc n) values)) ≡ plain_present (map argument_there (take n values)) ++ plain_property (argument_there (get_or values n d))
present_next [] n d here = absurd (omega (arith, here))
present_next (v ∷ values) zero d here = append-nil (plain_property (argument_there v))
present_next (v ∷ values) (suc n) d here =
    ap (λ (o : List ℕ). plain_property (argument_there v) ++ o) (present_next values n d (omega (arith, here)))
    ∙ sym (append_assoc (plain_property (argument_there v)) (plain_present (map argument_there (take n values))) (plain_property (argument_there (get_or values n d))))

-- what was appended is one property more
pub appended_next : (values : List Value) (n : ℕ) (d : Value) (old before now : List ℕ) → n < length values → before ≡ old ++ plain_present (map argument_there (take n values))
    → now ≡ before ++ plain_property (argument_there (get_or values n d)) → now ≡ old ++ plain_present (map argument_there (take (n + 1) values))
appended_next values n d old before now here was more =
    let one = plain_property (argument_there (get_or values n d)) in
    let next : plain_present (map argument_there (take (n + 1) values)) ≡ plain_present (map argument_there (take n values)) ++ one = rw (add-one) (present_next values n d here) in
    more ∙ ap (λ (o : List ℕ). o ++ one) was ∙ append_assoc old (plain_present (map argument_there (take n values))) one ∙ ap (λ (o : List ℕ). old ++ o) (sym next)

-- ---- the kinds

joined : (p : Option Argument) (properties : List (Option Argument)) (kind : FieldKind) (kinds : List FieldKind) → OfKind p kind → HaveKinds properties kinds
    → HaveKinds (p ∷ properties) (kind ∷ kinds)
joined None properties kind kinds fit have = have
joined (Some value) properties kind kinds fit have = (fit, have)

kinds_longer : (values : List Value) (kinds : List FieldKind) (n : ℕ) (d : Value) → n < length values → n < length kinds
    → HaveKinds (map argument_there (take n values)) (take n kinds) → OfKind (argument_there (get_or values n d)) (get_or kinds n Octet)
    → HaveKinds (map argument_there (take (suc n) values)) (take (suc n) kinds)
kinds_longer [] kinds n d here there have fit = absurd (omega (arith, here))
kinds_longer (v ∷ values) [] n d here there have fit = absurd (omega (arith, there))
kinds_longer (v ∷ values) (kind ∷ kinds) zero d here there have fit = joined (argument_there v) [] kind [] fit tt
kinds_longer (v ∷ values) (kind ∷ kinds) (suc n) d here there have fit =
    let first = parted (argument_there v) (map argument_there (take n values)) kind (take n kinds) have in
    joined (argument_there v) (map argument_there (take (suc n) values)) kind (take (suc n) kinds) first.0
    (kinds_longer values kinds n d (omega (arith, here)) (omega (arith, there)) first.1 fit)

-- the properties up to a place, and the one there, are of their kinds
pub kinds_next : (values : List Value) (n : ℕ) (d : Value) (kind : FieldKind) → n < length values → n < 14 → kind ≡ kind_at n
    → HaveKinds (map argument_there (take n values)) (take n property_kinds) → OfKind (argument_there (get_or values n d)) kind
    → HaveKinds (map argument_there (take (n + 1) values)) (take (n + 1) property_kinds)
kinds_next values n d kind here within is have fit =
    rw (add-one) (kinds_longer values property_kinds n d here within have (subst (λ (k : FieldKind). OfKind (argument_there (get_or values n d)) k) is fit))

-- so are all of them
pub all_kinds : (values : List Value) (n : ℕ) → length values ≡ 14 → n ≡ 14 → HaveKinds (map argument_there (take n values)) (take n property_kinds)
    → HaveKinds (map argument_there values) property_kinds
all_kinds values n long end have =
    let all : take n values ≡ values = ap (λ (m : ℕ). take m values) (end ∙ sym long) ∙ take-length values in
    let kinds : take n property_kinds ≡ property_kinds = ap (λ (m : ℕ). take m property_kinds) end in
    subst (λ (ks : List FieldKind). HaveKinds (map argument_there values) ks) kinds
    (subst (λ (vs : List Value). HaveKinds (map argument_there vs) (take n property_kinds)) all have)

-- ---- the octets

pub not_header : (values : List Value) (place : ℕ) (d : Value) (kind : FieldKind) (fault : ArgFault) → place < length values → kind ≡ kind_at place
    → NotProperty kind (get_or values place d) fault → NotHeader values (fault_of place fault)
not_header values place d kind arg.Misfit here is not =
    inr (at_place values place d _ here (subst (λ (k : FieldKind). NotProperty k (get_or values place d) arg.Misfit) is not))
not_header values place d kind (arg.Inside e) here is not = at_place values place d _ here not
not_header values place d kind arg.OutOfMemory here is not = tt

pub header_put : (size : ℕ) (values : List Value) (old octets : List ℕ) → HaveKinds (map argument_there values) property_kinds
    → octets ≡ plain_header (header size (map argument_there values))
    → (put : Result ℕ WriteFault) (new : List ℕ) → IfOk put (λ n. (n ≡ length octets) × (take n new ≡ octets) × (drop n new ≡ drop n old))
    → IfErr put (λ e. (e ≡ Room) × (length old < length octets) × (new ≡ old)) → WritesHeader size values old put new
header_put size values old octets have is put new ok err = put_writes (IsHeader size values) ⊥ (NotHeader values) old octets (have, is) put new ok err

pub header_not : (size : ℕ) (values : List Value) (old : List ℕ) (fault : WriteFault) → NotHeader values fault → WritesHeader size values old (Err fault) old
header_not size values old UnknownKind not = absurd not
header_not size values old (Misfit place) not = (refl, not)
header_not size values old (Inside place e) not = (refl, not)
header_not size values old Room not = absurd not
header_not size values old TooLong not = absurd not
header_not size values old OutOfMemory not = refl

-- ---- the flags

flags_step : (p : Option Argument) (properties : List (Option Argument)) (flags bit : ℕ) → flags ≡ flags_of properties → bit ≡ 2 ^ (length properties + 2)
    → flags + bit_for p bit ≡ flags_of (p ∷ properties)
flags_step None properties flags bit e b = omega (arith, e)
flags_step (Some value) properties flags bit e b = omega (arith, e, b)

bit_within : (p : Option Argument) (bit : ℕ) → bit_for p bit ≤ bit
bit_within None bit = omega arith
bit_within (Some value) bit = omega arith

-- the flags of the properties from a place on, and the bit of the one before it
abbrev pub Flagged : List Value → ℕ → ℕ → ℕ → Type 0
Flagged values place flags bit = (place ≤ 14) × (flags ≡ flags_of (map argument_there (drop place values)))
    × (bit ≡ 2 ^ (length (drop place values) + 2)) × (flags < bit) × (bit ≤ 65536)

pub flags_next : (values : List Value) (place flags bit : ℕ) (d : Value) → length values ≡ 14 → 0 < place → Flagged values place flags bit
    → Flagged values (place - 1) (flags + bit_for (argument_there (get_or values (place - 1) d)) bit) (bit * 2)
flags_next values zero flags bit d long some kept = absurd (omega (arith, some))
flags_next values (suc m) flags bit d long some kept =
    let e : suc m - 1 ≡ m = omega arith in
    let here : m < length values = omega (arith, kept.0, long) in
    let at : drop m values ≡ get_or values m d ∷ drop (suc m) values = drop-cons values m d here in
    let k = length (drop (suc m) values) in
    let p = argument_there (get_or values m d) in
    let properties = map argument_there (drop (suc m) values) in
    let longer : length (drop m values) ≡ suc k = ap length at in
    let exponent : length (drop m values) + 2 ≡ suc (k + 2) = omega (arith, longer) in
    let up : bit * 2 ≡ 2 ^ (length (drop m values) + 2) =
    ap (λ (b : ℕ). b * 2) kept.2 ∙ sym (pow-suc 2 (k + 2)) ∙ ap (λ (n : ℕ). 2 ^ n) (sym exponent) in
    let bit_is : bit ≡ 2 ^ (length properties + 2) = kept.2 ∙ ap (λ (n : ℕ). 2 ^ (n + 2)) (sym (length-map (drop (suc m) values) argument_there)) in
    let flags_are : flags + bit_for p bit ≡ flags_of (map argument_there (drop m values)) =
    flags_step p properties flags bit kept.1 bit_is ∙ ap (λ (vs : List Value). flags_of (map argument_there vs)) (sym at) in
    let few : length (drop m values) + 2 ≤ 16 = omega (arith, length-drop m values, long) in
    let least : bit * 2 ≤ 65536 = subst (λ (b : ℕ). b ≤ 65536) (sym up) (pow_mono few) in
    let within = bit_within p bit in
    let less : flags + bit_for p bit < bit * 2 = omega (arith, kept.3, within) in
    rw e (omega (arith, kept.0), flags_are, up, less, least)

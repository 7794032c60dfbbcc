-- The properties of a content header that lies in its payload, one after the other: compared, and as text.
use Rattle.std.proofs.Common.{◌≡◌, ℕ, zero, suc, ◌+◌, ◌<◌, ◌≤◌, true, ◌&&◌, List, [], ◌∷◌, ◌++◌, length, drop, get_or, Option, Some, None, Ok, refl, sym, ap, ◌∙◌, append_assoc, arith}
use Rattle.std.specs.Prelude.{MatchOption}
use Rattle.std.proofs.lemmas.List.{append-nil, drop-drop, drop_all}
use Rattle.byteorder.specs.Endian.{big_number}
use Rattle.amqp_value.proofs.Elements.{bind_ok}
use Rattle.amqp_method.specs.Same.{same_property, same_properties}
use Rattle.amqp_method.specs.ArgRefView.{arg_ref_view}
use Rattle.amqp_method.specs.Arguments.{Argument}
use Rattle.amqp_method.specs.Checking.{AreBelow256}
use Rattle.amqp_method.specs.HeaderChecking.{size_read}
use Rattle.amqp_method.specs.HeaderReading.{has_flag, optional_at, properties_at, header_at}
use Rattle.amqp_method.specs.HeaderRefView.{properties_read, property_at, property_ref_view}
use Rattle.amqp_method.specs.Properties.{property_kinds}
use Rattle.amqp_method.specs.Texts.{property_text, properties_text}
use Rattle.amqp_method.specs.declared.arg_ref.ArgRef.{ArgRef}
use Rattle.amqp_method.specs.declared.fields.FieldKind.{FieldKind}
use Rattle.amqp_method.proofs.FieldLemmas.{same_ok}
use Rattle.amqp_method.proofs.HeaderRefs.{lent_properties}
use Rattle.amqp_method.proofs.TextLemmas.{names_here, none_left}

-- ---- there are as many as kinds

read_long : (kinds : List FieldKind) (flags end : ℕ) (octets : List ℕ) (x : List (Option Argument) × List ℕ) → properties_at kinds flags end octets ≡ Ok x → length x.0 ≡ length kinds
unfolding properties_at
read_long [] flags end octets x read = ap (λ (y : List (Option Argument) × List ℕ). length y.0) (sym (same_ok ([], octets) x read))
read_long (kind ∷ kinds) flags end octets x read =
    let a = bind_ok (optional_at (has_flag (length kinds + 2) flags) kind end octets) _ x read in
    let b = bind_ok (properties_at kinds flags end a.0.1) _ x a.2 in
    let same = same_ok (a.0.0 ∷ b.0.0, b.0.1) x b.2 in
    let later : length b.0.0 ≡ length kinds = read_long kinds flags end a.0.1 b.0 b.1 in
    ap (λ (y : List (Option Argument) × List ℕ). length y.0) (sym same) ∙ ap suc later

pub fourteen : (payload : List ℕ) (size flags : ℕ) → AreBelow256 payload → flags ≡ big_number 2 (drop 12 payload) → size_read (header_at payload) ≡ Ok size → length (properties_read (header_at payload)) ≡ 14
fourteen payload size flags below flagged reads = read_long property_kinds flags (length payload) (drop 14 payload) _ (lent_properties payload size flags below flagged reads).properties

-- ---- the one at a place, and those after it

pub lent_is : (lent : Option ArgRef) (p : Option Argument) → MatchOption lent (p ≡ None) (λ value. p ≡ Some (arg_ref_view value)) → p ≡ property_ref_view lent
lent_is None p is = is
lent_is (Some value) p is = is

at_drop : (i : ℕ) (ps : List (Option Argument)) → property_at 0 (drop i ps) ≡ property_at i ps
at_drop zero [] = refl
at_drop zero (p ∷ ps) = refl
at_drop (suc n) [] = refl
at_drop (suc n) (p ∷ ps) = at_drop n ps

here : (i : ℕ) (ps : List (Option Argument)) → i < length ps → drop i ps ≡ property_at i ps ∷ drop (i + 1) ps
here i [] h = absurd (omega arith)
here zero (p ∷ ps) h = refl
here (suc n) (p ∷ ps) h = let next : suc n + 1 ≡ suc (n + 1) = omega arith in rw next (here n ps (omega (arith, h)))

-- ---- compared

pub compared : (i : ℕ) (ps qs : List (Option Argument)) (p q : Option Argument) → i < length ps → i < length qs → property_at i ps ≡ p → property_at i qs ≡ q
    → same_properties (drop i ps) (drop i qs) ≡ (same_property p q && same_properties (drop (i + 1) ps) (drop (i + 1) qs))
compared i ps qs p q h k is at = rw (here i ps h, here i qs k, is, at) refl

pub all_compared : (i : ℕ) (ps qs : List (Option Argument)) → length ps ≤ i → length qs ≤ i → same_properties (drop i ps) (drop i qs) ≡ true
all_compared i ps qs h k = rw (drop_all i ps h, drop_all i qs k) refl

-- ---- as text

first-text : (name : List ℕ) (names : List (List ℕ)) (ps : List (Option Argument)) → properties_text (name ∷ names) ps ≡ property_text name (property_at 0 ps) ++ properties_text names (drop 1 ps)
first-text name names [] = sym (none_left names)
first-text name names (p ∷ ps) = refl

pub property-written : (names : List (List ℕ)) (ps : List (Option Argument)) (i : ℕ) (name done all : List ℕ) (p : Option Argument) → i < length names → name ≡ get_or names i [] → property_at i ps ≡ p
    → done ++ properties_text (drop i names) (drop i ps) ≡ all
    → (done ++ property_text name p) ++ properties_text (drop (i + 1) names) (drop (i + 1) ps) ≡ all
property-written names ps i name done all p h named at before =
    let later = properties_text (drop (i + 1) names) (drop (i + 1) ps) in
    let one : properties_text (drop i names) (drop i ps) ≡ property_text name p ++ later =
    ap (λ (ns : List (List ℕ)). properties_text ns (drop i ps)) (names_here names i [] h)
    ∙ first-text (get_or names i []) (drop (i + 1) names) (drop i ps)
    ∙ ap (λ (q : Option Argument). property_text (get_or names i []) q ++ properties_text (drop (i + 1) names) (drop 1 (drop i ps))) (at_drop i ps ∙ at)
    ∙ ap (λ (n : List ℕ). property_text n p ++ properties_text (drop (i + 1) names) (drop 1 (drop i ps))) (sym named)
    ∙ ap (λ (rest : List (Option Argument)). property_text name p ++ properties_text (drop (i + 1) names) rest) (drop-drop 1 i ps) in
    append_assoc done (property_text name p) later ∙ ap (λ (o : List ℕ). done ++ o) (sym one) ∙ before

pub properties-written : (names : List (List ℕ)) (ps : List (Option Argument)) (i : ℕ) (done all : List ℕ) → length names ≤ i → done ++ properties_text (drop i names) (drop i ps) ≡ all → done ≡ all
properties-written names ps i done all h before =
    let end : properties_text (drop i names) (drop i ps) ≡ [] = rw (drop_all i names h) refl in
    sym (append-nil done) ∙ ap (λ (o : List ℕ). done ++ o) (sym end) ∙ before

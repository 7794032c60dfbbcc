-- Properties written one by one.
use Rattle.std.proofs.Common.{◌≡◌, ℕ, suc, ◌+◌, ◌*◌, ◌^◌, ◌<◌, ◌≤◌, List, [], ◌∷◌, ◌++◌, length, take, drop, get_or, Bool, true, false, Option, Some, None, is_some, refl, sym, ap, ◌∙◌, append_assoc, add-one, drop-cons, arith, length-take}
use Rattle.std.proofs.lemmas.List.{append-nil, drop_all, take_at, take-append-le}
use Rattle.std.proofs.lemmas.Nat.{pow-add}
use Rattle.std.proofs.Math.Nat.{pow-le-pow_right}
use Rattle.amqp_method.specs.Arguments.{Argument}
use Rattle.amqp_method.specs.Lent.{lent_view, lent_views}
use Rattle.amqp_method.specs.Plain.{plain_property, plain_present, CountOfPropertyFits, CountsPresentFit}
use Rattle.amqp_method.specs.Properties.{flags_of}
use Rattle.amqp_method.specs.Writing.{PropertyFitting, PresentFitting}
use Rattle.amqp_method.specs.declared.properties.Lent.{Lent}

-- octets were written for some of the properties, and the others are left
pub record PresentOn (old done : List ℕ) (properties all : List (Option Argument)) : Type 0 where
  pub joined : done ++ plain_present properties ≡ old ++ plain_present all
  pub fits : PresentFitting properties → PresentFitting all
  pub counts : CountsPresentFit all → CountsPresentFit properties
  pub kept : take (length old) done ≡ old

pub present_begins : (old : List ℕ) (all : List (Option Argument)) → PresentOn old old all all
present_begins old all = record { joined = refl; fits = λ h. h; counts = λ h. h; kept = ap (take (length old)) (sym (append-nil old)) ∙ take_at old [] (length old) refl }

pub lent_here : (properties : List (Option Lent)) (i : ℕ) (d : Option Lent) → i < length properties → lent_views (drop i properties) ≡ lent_view (get_or properties i d) ∷ lent_views (drop (i + 1) properties)
lent_here properties i d h = rw (add-one, drop-cons properties i d) refl

pub present_next : (properties : List (Option Lent)) (i : ℕ) (d : Option Lent) (old done next : List ℕ) (all : List (Option Argument)) → i < length properties
    → next ≡ done ++ plain_property (lent_view (get_or properties i d)) → PropertyFitting (lent_view (get_or properties i d))
    → PresentOn old done (lent_views (drop i properties)) all → PresentOn old next (lent_views (drop (i + 1) properties)) all
present_next properties i d old done next all h next_is fits w =
    let p = lent_view (get_or properties i d) in
    let others = lent_views (drop (i + 1) properties) in
    let is = lent_here properties i d h in
    let joined : done ++ (plain_property p ++ plain_present others) ≡ old ++ plain_present all = rw is at w.joined in
    let long : length (take (length old) done) ≡ length old = ap length w.kept in
    let within : length old ≤ length done = omega (arith, long, length-take (length old) done) in
    record {
      joined = rw next_is (append_assoc done (plain_property p) (plain_present others) ∙ joined);
      fits = λ k. w.fits (rw is (fits, k));
      counts = λ k. let c : CountsPresentFit (p ∷ others) = rw is at (w.counts k) in c.1;
      kept = rw (next_is, take-append-le (length old) done (plain_property p) within) w.kept;
    }

pub present_count : (properties : List (Option Lent)) (i : ℕ) (d : Option Lent) (old done : List ℕ) (all : List (Option Argument)) → i < length properties
    → PresentOn old done (lent_views (drop i properties)) all → CountsPresentFit all → CountOfPropertyFits (lent_view (get_or properties i d))
present_count properties i d old done all h w fit =
    let c : CountsPresentFit (lent_view (get_or properties i d) ∷ lent_views (drop (i + 1) properties)) = rw (lent_here properties i d h) at (w.counts fit) in c.0

pub present_ended : (properties : List (Option Lent)) (i : ℕ) (old done : List ℕ) (all : List (Option Argument)) → length properties ≤ i → PresentOn old done (lent_views (drop i properties)) all → done ≡ old ++ plain_present all
present_ended properties i old done all h w =
    let none : lent_views (drop i properties) ≡ [] = rw (drop_all i properties h) refl in
    let joined : done ++ [] ≡ old ++ plain_present all = rw none at w.joined in
    sym (append-nil done) ∙ joined

pub present_fitting : (properties : List (Option Lent)) (i : ℕ) (old done : List ℕ) (all : List (Option Argument)) → length properties ≤ i → PresentOn old done (lent_views (drop i properties)) all → PresentFitting all
present_fitting properties i old done all h w = w.fits (rw (drop_all i properties h) tt)

-- ---- the flags

-- the flags of some of the properties are these, and the others are left
pub record FlagsOn (number count : ℕ) (properties all : List (Option Argument)) : Type 0 where
  pub joined : number * 2 ^ (length properties + 2) + flags_of properties ≡ flags_of all
  pub below : number < 2 ^ count

abbrev pub flag_value : Bool → ℕ
flag_value true = 1
flag_value false = 0

flag_here : (p : Option Lent) (properties : List (Option Argument)) → flags_of (lent_view p ∷ properties) ≡ flag_value (is_some p) * 2 ^ (length properties + 2) + flags_of properties
flag_here None properties = omega arith
flag_here (Some value) properties = omega arith

flag_value-lt : (b : Bool) → flag_value b < 2
flag_value-lt true = omega arith
flag_value-lt false = omega arith

pub flag_next : (properties : List (Option Lent)) (i : ℕ) (d : Option Lent) (number bit : ℕ) (all : List (Option Argument)) → i < length properties → bit ≡ flag_value (is_some (get_or properties i d))
    → FlagsOn number i (lent_views (drop i properties)) all → FlagsOn (2 * number + bit) (i + 1) (lent_views (drop (i + 1) properties)) all
flag_next properties i d number bit all h bit_is w =
    let p = get_or properties i d in
    let others = lent_views (drop (i + 1) properties) in
    let is = lent_here properties i d h in
    let joined : number * 2 ^ (suc (length others) + 2) + flags_of (lent_view p ∷ others) ≡ flags_of all = rw is at w.joined in
    let up : 2 ^ (suc (length others) + 2) ≡ 2 * 2 ^ (length others + 2) = let e : suc (length others) + 2 ≡ 1 + (length others + 2) = omega arith in rw e (pow-add 2 1 (length others + 2)) in
    let here = flag_here p others in
    let small = flag_value-lt (is_some p) in
    let below = w.below in
    let twice = pow-add 2 i 1 in
    record {
      joined = sum number bit (flag_value (is_some p)) (2 ^ (length others + 2)) (2 ^ (suc (length others) + 2)) (flags_of others) (flags_of (lent_view p ∷ others)) (flags_of all) bit_is up here joined;
      below = omega arith;
    }
  where
    sum : (n b f w v r s t : ℕ) → b ≡ f → v ≡ 2 * w → s ≡ f * w + r → n * v + s ≡ t → (2 * n + b) * w + r ≡ t
    sum n b f w v r s t b_is v_is s_is t_is =
        let e : (2 * n + f) * w + r ≡ n * (2 * w) + (f * w + r) = omega arith in
        rw b_is (e ∙ rw (sym v_is, sym s_is) t_is)

pub flags_ended : (properties : List (Option Lent)) (i number : ℕ) (all : List (Option Argument)) → length properties ≤ i → FlagsOn number i (lent_views (drop i properties)) all → 4 * number ≡ flags_of all
flags_ended properties i number all h w =
    let none : lent_views (drop i properties) ≡ [] = rw (drop_all i properties h) refl in
    let joined : number * 2 ^ (0 + 2) + 0 ≡ flags_of all = rw none at w.joined in
    let e : 4 * number ≡ number * 4 + 0 = omega arith in
    e ∙ joined

pub flags_small : (number i : ℕ) → number < 2 ^ i → i ≤ 14 → number < 2 ^ 14
flags_small number i below h = let le : 2 ^ i ≤ 2 ^ 14 = pow-le-pow_right {n = 2} (omega arith) h in omega arith

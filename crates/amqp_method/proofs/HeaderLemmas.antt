-- Content headers: what is read is encoded so, and what is encoded so is read.
use Rattle.std.proofs.Common.{◌≡◌, ℕ, suc, ◌+◌, ◌*◌, ◌/◌, ◌%◌, ◌^◌, ◌==◌, ◌<◌, cond, List, [], ◌∷◌, ◌++◌, length, map, replicate, Bool, true, false, Option, Some, None, Result, Ok, Err, inl, inr, refl, sym, ap, subst, ◌∙◌, append_assoc, arith}
use Rattle.std.specs.Prelude.{IfOk, IfErr, ◌⊎◌}
use Rattle.std.proofs.Math.Nat.{mod-lt, mod-eq_of_lt, one-le-pow, mul-add-mod_self_right}
use Rattle.std.proofs.lemmas.Nat.{mod-pow-add, pow-add, same_from_place}
use Rattle.std.proofs.lemmas.Bool.{eqb-true, eqb-false}
use Rattle.std.proofs.lemmas.List.{append-nil}
use Rattle.amqp_value.proofs.Elements.{bind_ok}
use Rattle.amqp_value.proofs.Numbers.{IsBytes}
use Rattle.amqp_value.specs.Fields.{EncodesNumber}
use Rattle.amqp_method.specs.Arguments.{Argument, bit, octet, short, long, long_long, short_string, long_string, table, kind_of}
use Rattle.amqp_method.specs.Faults.{out_of_memory}
use Rattle.amqp_method.specs.HeaderParts.{later_kinds}
use Rattle.amqp_method.specs.HeaderReading.{has_flag, optional_at, properties_at, header_at}
use Rattle.amqp_method.specs.Properties.{ContentHeader, header, HaveKinds, flags_of, EncodesPresent, EncodesHeader, property_kinds}
use Rattle.amqp_method.specs.Plain.{plain_argument, plain_start, plain_present, plain_header}
use Rattle.amqp_method.specs.Writing.{Fitting, PresentFitting}
use Rattle.byteorder.specs.Endian.{big_bytes}
use Rattle.amqp_method.specs.Reading.{Gives, no_bits, read_number, field_at}
use Rattle.amqp_method.specs.Encoding.{EncodesArgument}
use Rattle.amqp_method.specs.declared.faults.MethodFault.{MethodFault}
use Rattle.amqp_method.specs.declared.fields.FieldKind.{FieldKind}
use Rattle.amqp_method.proofs.FieldLemmas.{same_ok, read_number-takes, read_number-again}
use Rattle.amqp_method.proofs.ArgsLemmas.{HasOctets, field_alone-takes, field_alone-again}
use Rattle.amqp_method.proofs.MethodLemmas.{whole-ok}

-- ---- the flags

digit-lt : (n flags : ℕ) → flags / 2 ^ n % 2 < 2
digit-lt n flags = mod-lt (flags / 2 ^ n) (omega arith)

-- a number by its bit of weight 2 ^ (n + 2), and what is below it
split_bit : (n flags : ℕ) → flags % 2 ^ (suc n + 2) ≡ flags / 2 ^ (n + 2) % 2 * 2 ^ (n + 2) + flags % 2 ^ (n + 2)
split_bit n flags =
    let up : suc n + 2 ≡ 1 + (n + 2) = omega arith in
    rw up (mod-pow-add flags 1 (n + 2))

pow_positive : (n : ℕ) → 0 < 2 ^ n
pow_positive n = let h = one-le-pow n 2 (omega arith) in omega arith

set_bit : (n flags rest : ℕ) → has_flag (n + 2) flags ≡ true → flags % 2 ^ (n + 2) ≡ rest → flags % 2 ^ (suc n + 2) ≡ 2 ^ (n + 2) + rest
set_bit n flags rest b below =
    let one : flags / 2 ^ (n + 2) % 2 ≡ 1 = eqb-true _ 1 b in
    split_bit n flags ∙ rw (one, below) (omega arith)

clear_bit : (n flags rest : ℕ) → has_flag (n + 2) flags ≡ false → flags % 2 ^ (n + 2) ≡ rest → flags % 2 ^ (suc n + 2) ≡ rest
clear_bit n flags rest b below =
    let less = digit-lt (n + 2) flags in
    let not_one = eqb-false (flags / 2 ^ (n + 2) % 2) 1 b in
    let none : flags / 2 ^ (n + 2) % 2 ≡ 0 = omega arith in
    split_bit n flags ∙ rw (none, below) (omega arith)

flags_of-lt : (properties : List (Option Argument)) → flags_of properties < 2 ^ (length properties + 2)
flags_of-lt [] = omega arith
flags_of-lt (None ∷ properties) =
    let h = flags_of-lt properties in
    let up : 2 ^ (suc (length properties) + 2) ≡ 2 * 2 ^ (length properties + 2) = let e : suc (length properties) + 2 ≡ 1 + (length properties + 2) = omega arith in rw e (pow-add 2 1 (length properties + 2)) in
    omega arith
flags_of-lt (Some value ∷ properties) =
    let h = flags_of-lt properties in
    let up : 2 ^ (suc (length properties) + 2) ≡ 2 * 2 ^ (length properties + 2) = let e : suc (length properties) + 2 ≡ 1 + (length properties + 2) = omega arith in rw e (pow-add 2 1 (length properties + 2)) in
    omega arith

was_set : (n flags rest : ℕ) → rest < 2 ^ (n + 2) → flags % 2 ^ (suc n + 2) ≡ 2 ^ (n + 2) + rest → (has_flag (n + 2) flags ≡ true) × (flags % 2 ^ (n + 2) ≡ rest)
was_set n flags rest below is =
    let less : flags % 2 ^ (n + 2) < 2 ^ (n + 2) = mod-lt flags (pow_positive (n + 2)) in
    let both : flags / 2 ^ (n + 2) % 2 * 2 ^ (n + 2) + flags % 2 ^ (n + 2) ≡ 1 * 2 ^ (n + 2) + rest = sym (split_bit n flags) ∙ is ∙ omega arith in
    let same = same_from_place (flags / 2 ^ (n + 2) % 2) (flags % 2 ^ (n + 2)) 1 rest (2 ^ (n + 2)) less below both in
    (rw same.0 refl, same.1)

was_clear : (n flags rest : ℕ) → rest < 2 ^ (n + 2) → flags % 2 ^ (suc n + 2) ≡ rest → (has_flag (n + 2) flags ≡ false) × (flags % 2 ^ (n + 2) ≡ rest)
was_clear n flags rest below is =
    let less : flags % 2 ^ (n + 2) < 2 ^ (n + 2) = mod-lt flags (pow_positive (n + 2)) in
    let both : flags / 2 ^ (n + 2) % 2 * 2 ^ (n + 2) + flags % 2 ^ (n + 2) ≡ 0 * 2 ^ (n + 2) + rest = sym (split_bit n flags) ∙ is ∙ omega arith in
    let same = same_from_place (flags / 2 ^ (n + 2) % 2) (flags % 2 ^ (n + 2)) 0 rest (2 ^ (n + 2)) less below both in
    (rw same.0 refl, same.1)

-- the two lowest bits are clear
four_times : (n : ℕ) → 2 ^ (n + 2) ≡ 2 ^ n * 4
four_times n = pow-add 2 n 2

pub flags_of-clear : (properties : List (Option Argument)) → flags_of properties % 4 ≡ 0
flags_of-clear [] = refl
flags_of-clear (None ∷ properties) = flags_of-clear properties
flags_of-clear (Some value ∷ properties) = rw four_times (mul-add-mod_self_right (2 ^ length properties) 4 (flags_of properties) ∙ flags_of-clear properties)

-- ---- what is read is encoded so

-- all kinds have octets of their own
abbrev pub AllHaveOctets : List FieldKind → Type 0
AllHaveOctets [] = Unit {0}
AllHaveOctets (kind ∷ kinds) = HasOctets kind × AllHaveOctets kinds

pub record TakesProperties (kinds : List FieldKind) (flags : ℕ) (octets : List ℕ) (x : List (Option Argument) × List ℕ) : Type 0 where
  pub prefix : List ℕ
  pub parts : octets ≡ prefix ++ x.1
  pub counts : length x.0 ≡ length kinds
  pub kinds_are : HaveKinds x.0 kinds
  pub flags_are : flags % 4 ≡ 0 → flags % 2 ^ (length kinds + 2) ≡ flags_of x.0
  pub encoded : EncodesPresent x.0 prefix
  pub after_fits : IsBytes x.1

-- one property before the others
takes_next : (there : Bool) (kind : FieldKind) (kinds : List FieldKind) (flags end : ℕ) (octets : List ℕ) (p : Option Argument × List ℕ) (others : List (Option Argument)) (rest : List ℕ)
    → HasOctets kind → IsBytes octets → has_flag (length kinds + 2) flags ≡ there → optional_at there kind end octets ≡ Ok p
    → (IsBytes p.1 → TakesProperties kinds flags p.1 (others, rest)) → TakesProperties (kind ∷ kinds) flags octets (p.0 ∷ others, rest)
unfolding optional_at
takes_next false kind kinds flags end octets p others rest own fits set e inside =
    let P : (Option Argument × List ℕ) → Type 0 = λ q. (IsBytes q.1 → TakesProperties kinds flags q.1 (others, rest)) → TakesProperties (kind ∷ kinds) flags octets (q.0 ∷ others, rest) in
    subst P (same_ok _ _ e) (λ given.
    let t = given fits in
    record {
      prefix = t.prefix;
      parts = t.parts;
      counts = ap suc t.counts;
      kinds_are = t.kinds_are;
      flags_are = λ c. clear_bit (length kinds) flags _ set (t.flags_are c);
      encoded = t.encoded;
      after_fits = t.after_fits;
    }) inside
takes_next true kind kinds flags end octets p others rest own fits set e inside =
    let b = bind_ok (field_at kind no_bits end octets) _ p e in
    let a = field_alone-takes kind no_bits end octets b.0 own fits b.1 in
    let P : (Option Argument × List ℕ) → Type 0 = λ q. (IsBytes q.1 → TakesProperties kinds flags q.1 (others, rest)) → TakesProperties (kind ∷ kinds) flags octets (q.0 ∷ others, rest) in
    subst P (same_ok _ _ b.2) (λ given.
    let t = given a.takes.after_fits in
    record {
      prefix = a.takes.prefix ++ t.prefix;
      parts = a.takes.parts ∙ ap (λ (o : List ℕ). a.takes.prefix ++ o) t.parts ∙ sym (append_assoc a.takes.prefix t.prefix rest);
      counts = ap suc t.counts;
      kinds_are = (a.kind_is, t.kinds_are);
      flags_are = λ c. set_bit (length kinds) flags _ set (t.flags_are c) ∙ rw (sym t.counts) refl;
      encoded = (a.takes.prefix, t.prefix, refl, a.takes.encodes, t.encoded);
      after_fits = t.after_fits;
    }) inside

pub properties_at-takes : (kinds : List FieldKind) (flags end : ℕ) (octets : List ℕ) (x : List (Option Argument) × List ℕ) → AllHaveOctets kinds → IsBytes octets
    → properties_at kinds flags end octets ≡ Ok x → TakesProperties kinds flags octets x
unfolding properties_at
properties_at-takes [] flags end octets x own fits e =
    subst (TakesProperties [] flags octets) (same_ok _ _ e) (record { prefix = []; parts = refl; counts = refl; kinds_are = tt; flags_are = λ c. c; encoded = refl; after_fits = fits })
properties_at-takes (kind ∷ kinds) flags end octets x own fits e =
    let b = bind_ok (optional_at (has_flag (length kinds + 2) flags) kind end octets) _ x e in
    let d = bind_ok (properties_at kinds flags end b.0.1) _ x b.2 in
    subst (TakesProperties (kind ∷ kinds) flags octets) (same_ok _ _ d.2)
    (takes_next (has_flag (length kinds + 2) flags) kind kinds flags end octets b.0 d.0.0 d.0.1 own.0 fits refl b.1
    (λ after_fits. properties_at-takes kinds flags end b.0.1 d.0 own.1 after_fits d.1))

pub test_ok : {A : Type 0} (b : Bool) (x : Result A MethodFault) (e : MethodFault) (y : A) → cond b x (Err e) ≡ Ok y → (b ≡ true) × (x ≡ Ok y)
test_ok true x e y h = (refl, h)
test_ok false x e y h = absurd cc

pub all_own : AllHaveOctets property_kinds
all_own = (tt, (tt, (tt, (tt, (tt, (tt, (tt, (tt, (tt, (tt, (tt, (tt, (tt, (tt, tt))))))))))))))

pub header_at-takes : (octets : List ℕ) (h : ContentHeader) → IsBytes octets → header_at octets ≡ Ok h → EncodesHeader h octets
unfolding header_at
header_at-takes octets h fits e =
    let end = length octets in
    let a = bind_ok (read_number 2 end octets) _ h e in
    let class = read_number-takes 2 end octets a.0 fits a.1 in
    let c = test_ok (a.0.0 == 60) _ _ h a.2 in
    let b = bind_ok (read_number 2 end a.0.1) _ h c.1 in
    let weight = read_number-takes 2 end a.0.1 b.0 class.after_fits b.1 in
    let w = test_ok (b.0.0 == 0) _ _ h b.2 in
    let s = bind_ok (read_number 8 end b.0.1) _ h w.1 in
    let size = read_number-takes 8 end b.0.1 s.0 weight.after_fits s.1 in
    let f = bind_ok (read_number 2 end s.0.1) _ h s.2 in
    let flags = read_number-takes 2 end s.0.1 f.0 size.after_fits f.1 in
    let g = test_ok (f.0.0 % 4 == 0) _ _ h f.2 in
    let p = bind_ok (properties_at property_kinds f.0.0 end f.0.1) _ h g.1 in
    let t = properties_at-takes property_kinds f.0.0 end f.0.1 p.0 all_own flags.after_fits p.1 in
    let z = whole-ok end (header s.0.0 p.0.0) h p.0.1 p.2 in
    let small : f.0.0 < 2 ^ 16 = omega (arith, flags.encodes.fits) in
    let flags_is : f.0.0 ≡ flags_of p.0.0 = sym (mod-eq_of_lt small) ∙ t.flags_are (eqb-true (f.0.0 % 4) 0 g.0) in
    subst (λ y. EncodesHeader y octets) z.1 (record {
      class = class.prefix;
      weight = weight.prefix;
      size = size.prefix;
      flags = flags.prefix;
      rest = t.prefix;
      octets_are =
          class.parts ∙ ap (λ (o : List ℕ). class.prefix ++ o)
          (weight.parts ∙ ap (λ (o : List ℕ). weight.prefix ++ o)
          (size.parts ∙ ap (λ (o : List ℕ). size.prefix ++ o)
          (flags.parts ∙ ap (λ (o : List ℕ). flags.prefix ++ o) (t.parts ∙ ap (λ (o : List ℕ). t.prefix ++ o) z.0 ∙ append-nil t.prefix))));
      class_is = subst (λ n. EncodesNumber 2 n class.prefix) (eqb-true a.0.0 60 c.0) class.encodes;
      weight_is = subst (λ n. EncodesNumber 2 n weight.prefix) (eqb-true b.0.0 0 w.0) weight.encodes;
      size_is = size.encodes;
      kinds_are = t.kinds_are;
      flags_are = subst (λ n. EncodesNumber 2 n flags.prefix) flags_is flags.encodes;
      encoded = t.encoded;
    })

-- ---- what is encoded so is read

same_length : (properties : List (Option Argument)) (kinds : List FieldKind) → HaveKinds properties kinds → length properties ≡ length kinds
same_length [] [] h = refl
same_length [] (kind ∷ kinds) h = absurd h
same_length (p ∷ properties) [] h = absurd h
same_length (None ∷ properties) (kind ∷ kinds) h = ap suc (same_length properties kinds h)
same_length (Some value ∷ properties) (kind ∷ kinds) h = ap suc (same_length properties kinds h.1)

pub properties_at-again : (properties : List (Option Argument)) (kinds : List FieldKind) (flags end : ℕ) (prefix after : List ℕ) → HaveKinds properties kinds
    → flags % 2 ^ (length kinds + 2) ≡ flags_of properties → EncodesPresent properties prefix → properties_at kinds flags end (prefix ++ after) ≡ Ok (properties, after)
unfolding properties_at optional_at
properties_at-again [] [] flags end prefix after h f s = rw s refl
properties_at-again [] (kind ∷ kinds) flags end prefix after h f s = absurd h
properties_at-again (p ∷ properties) [] flags end prefix after h f s = absurd h
properties_at-again (None ∷ properties) (kind ∷ kinds) flags end prefix after h f s =
    let long = same_length properties kinds h in
    let below : flags_of properties < 2 ^ (length kinds + 2) = rw (← long) (flags_of-lt properties) in
    let w = was_clear (length kinds) flags (flags_of properties) below f in
    let inside = properties_at-again properties kinds flags end prefix after h w.1 s in
    rw (w.0, inside) refl
properties_at-again (Some value ∷ properties) (kind ∷ kinds) flags end prefix after h f s =
    let long = same_length properties kinds h.1 in
    let below : flags_of properties < 2 ^ (length kinds + 2) = rw (← long) (flags_of-lt properties) in
    let w = was_set (length kinds) flags (flags_of properties) below (f ∙ rw long refl) in
    let here : field_at kind no_bits end (prefix ++ after) ≡ Ok ((value, no_bits), s.1 ++ after) =
    ap (λ (o : List ℕ). field_at kind no_bits end (o ++ after)) s.2 ∙ ap (field_at kind no_bits end) (append_assoc s.0 s.1 after)
    ∙ rw (← h.0) (field_alone-again value no_bits end s.0 (s.1 ++ after) s.3) in
    let inside = properties_at-again properties kinds flags end s.1 after h.1 w.1 s.4 in
    rw (w.0, here, inside) refl

pub header_at-again : (octets : List ℕ) (h : ContentHeader) → EncodesHeader h octets → header_at octets ≡ Ok h
unfolding header_at
header_at-again octets h s =
    let end = length octets in
    let class : read_number 2 end octets ≡ Ok (60, s.weight ++ (s.size ++ (s.flags ++ s.rest))) =
    ap (read_number 2 end) s.octets_are ∙ read_number-again 2 end 60 s.class (s.weight ++ (s.size ++ (s.flags ++ s.rest))) s.class_is in
    let weight = read_number-again 2 end 0 s.weight (s.size ++ (s.flags ++ s.rest)) s.weight_is in
    let size = read_number-again 8 end h.body_size s.size (s.flags ++ s.rest) s.size_is in
    let flags = read_number-again 2 end (flags_of h.properties) s.flags s.rest s.flags_are in
    let clear = flags_of-clear h.properties in
    let small : flags_of h.properties < 2 ^ 16 = omega (arith, s.flags_are.fits) in
    let properties : properties_at property_kinds (flags_of h.properties) end s.rest ≡ Ok (h.properties, []) =
    ap (properties_at property_kinds (flags_of h.properties) end) (sym (append-nil s.rest))
    ∙ properties_at-again h.properties property_kinds (flags_of h.properties) end s.rest [] s.kinds_are (mod-eq_of_lt small) s.encoded in
    rw (class, weight, size, flags, clear, properties) refl

-- ---- as clauses of a call that gives what reading gives

pub header_found : {X : Type 0} (view : X → ContentHeader) (octets : List ℕ) (r : Result X MethodFault) → IsBytes octets → Gives view r (header_at octets) → IfOk r (λ x. EncodesHeader (view x) octets)
header_found view octets (Ok x) fits e = header_at-takes octets (view x) fits e
header_found view octets (Err e) fits h = tt

pub header_only : {X : Type 0} (view : X → ContentHeader) (octets : List ℕ) (r : Result X MethodFault) → Gives view r (header_at octets) → (h : ContentHeader) → EncodesHeader h octets → Gives view r (Ok h)
header_only view octets (Ok x) e h s = sym (header_at-again octets h s) ∙ e
header_only view octets (Err e) (inl memory) h s = inl memory
header_only view octets (Err e) (inr is) h s = inr (sym (header_at-again octets h s) ∙ is)

header_not_err : (h : ContentHeader) (e : MethodFault) → Ok h ≡ Err e → ⊥
header_not_err h e k = cc

pub header_refused : {X : Type 0} (view : X → ContentHeader) (octets : List ℕ) (r : Result X MethodFault) → Gives view r (header_at octets)
    → IfErr r (λ e. (e ≡ out_of_memory) ⊎ ((h : ContentHeader) → EncodesHeader h octets → ⊥))
header_refused view octets (Ok x) e = tt
header_refused view octets (Err e) (inl memory) = inl memory
header_refused view octets (Err e) (inr is) = inr (λ h s. header_not_err h e (sym (header_at-again octets h s) ∙ is))

-- ---- what is written is the plain encoding, and that is an encoding

pub header_written : (old prefix new : List ℕ) (body_size flags : ℕ) (properties all : List (Option Argument)) → flags ≡ flags_of properties → properties ≡ all
    → prefix ≡ old ++ plain_start body_size flags → new ≡ prefix ++ plain_present properties → new ≡ old ++ plain_header (header body_size all)
header_written old prefix new body_size flags properties all flags_is same a b =
    let one : new ≡ (old ++ plain_start body_size flags) ++ plain_present properties = b ∙ ap (λ (o : List ℕ). o ++ plain_present properties) a in
    one ∙ append_assoc old (plain_start body_size flags) (plain_present properties)
    ∙ ap (λ (n : ℕ). old ++ (plain_start body_size n ++ plain_present properties)) flags_is
    ∙ ap (λ (p : List (Option Argument)). old ++ plain_header (header body_size p)) same

fitting-encoded : (value : Argument) (kind : FieldKind) → HasOctets kind → kind_of value ≡ kind → Fitting value → EncodesArgument value (plain_argument value)
fitting-encoded (bit holds) kind own is f = absurd (subst HasOctets (sym is) own)
fitting-encoded (octet n) kind own is f = f
fitting-encoded (short n) kind own is f = f
fitting-encoded (long n) kind own is f = f
fitting-encoded (long_long n) kind own is f = f
fitting-encoded (short_string t) kind own is f = f
fitting-encoded (long_string t) kind own is f = f
fitting-encoded (table p) kind own is f = f

present-encoded : (properties : List (Option Argument)) (kinds : List FieldKind) → AllHaveOctets kinds → HaveKinds properties kinds → PresentFitting properties → EncodesPresent properties (plain_present properties)
present-encoded [] kinds own h f = refl
present-encoded (p ∷ properties) [] own h f = absurd h
present-encoded (None ∷ properties) (kind ∷ kinds) own h f = present-encoded properties kinds own.1 h f.1
present-encoded (Some value ∷ properties) (kind ∷ kinds) own h f =
    (plain_argument value, plain_present properties, refl, fitting-encoded value kind own.0 h.0 f.0, present-encoded properties kinds own.1 h.1 f.1)

pub header_encoded : (h : ContentHeader) → h.body_size < 2 ^ 64 → HaveKinds h.properties property_kinds → PresentFitting h.properties → EncodesHeader h (plain_header h)
header_encoded h size kinds fitting =
    let long = same_length h.properties property_kinds kinds in
    let below : flags_of h.properties < 2 ^ 16 = rw long at (flags_of-lt h.properties) in
    record {
      class = big_bytes 2 60;
      weight = big_bytes 2 0;
      size = big_bytes 8 h.body_size;
      flags = big_bytes 2 (flags_of h.properties);
      rest = plain_present h.properties;
      octets_are = refl;
      class_is = record { fits = omega arith; octets_are = refl };
      weight_is = record { fits = omega arith; octets_are = refl };
      size_is = record { fits = omega arith; octets_are = refl };
      kinds_are = kinds;
      flags_are = record { fits = omega arith; octets_are = refl };
      encoded = present-encoded h.properties property_kinds all_own kinds fitting;
    }

-- ---- no flags

-- where no flag is set, nothing is there
pub none_there : (end : ℕ) (octets : List ℕ) → properties_at property_kinds 0 end octets ≡ Ok (map (λ kind. None) property_kinds, octets)
unfolding properties_at optional_at
none_there end octets = refl

-- where no flag is set of those from the sixth property on, none of these is there
pub no_later : (flags end : ℕ) (octets : List ℕ) → flags % 2048 ≡ 0 → properties_at later_kinds flags end octets ≡ Ok (replicate 9 None, octets)
unfolding properties_at optional_at
no_later flags end octets low =
    let sixth : flags / 1024 % 2 ≡ 0 = omega (arith, low) in
    let seventh : flags / 512 % 2 ≡ 0 = omega (arith, low) in
    let eighth : flags / 256 % 2 ≡ 0 = omega (arith, low) in
    let ninth : flags / 128 % 2 ≡ 0 = omega (arith, low) in
    let tenth : flags / 64 % 2 ≡ 0 = omega (arith, low) in
    let eleventh : flags / 32 % 2 ≡ 0 = omega (arith, low) in
    let twelfth : flags / 16 % 2 ≡ 0 = omega (arith, low) in
    let thirteenth : flags / 8 % 2 ≡ 0 = omega (arith, low) in
    let fourteenth : flags / 4 % 2 ≡ 0 = omega (arith, low) in
    rw (sixth, seventh, eighth, ninth, tenth, eleventh, twelfth, thirteenth, fourteenth) refl

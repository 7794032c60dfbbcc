-- Views of content headers: the properties of octets that are known to be read.
use Rattle.std.proofs.Common.{◌≡◌, ℕ, zero, suc, ◌+◌, ◌-◌, ◌%◌, ◌^◌, ◌==◌, ◌<◌, ◌≤◌, List, [], ◌∷◌, length, drop, Bool, true, false, Option, Some, None, Result, Ok, Err, refl, sym, ap, subst, ◌∙◌, arith}
use Rattle.std.specs.Prelude.{IsOk, IsTrue, is_ok, MatchOption, replicate}
use Rattle.std.proofs.Math.Nat.{mod-eq_of_lt}
use Rattle.std.proofs.lemmas.Bool.{eqb-true, true≢false}
use Rattle.std.proofs.lemmas.List.{drop-drop, length-drop}
use Rattle.byteorder.specs.Endian.{big_number}
use Rattle.amqp_value.specs.Reading.{◌>>=◌, table_at}
use Rattle.amqp_value.specs.Values.{Pairs}
use Rattle.amqp_value.specs.declared.fault.ValueFault.{ValueFault}
use Rattle.amqp_value.proofs.Elements.{bind_ok}
use Rattle.amqp_value.proofs.Numbers.{IsBytes}
use Rattle.amqp_method.specs.Arguments.{Argument, table}
use Rattle.amqp_method.specs.HeaderChecking.{kind_at, size_read}
use Rattle.amqp_method.specs.HeaderReading.{has_flag, optional_at, properties_at, header_at}
use Rattle.amqp_method.specs.HeaderRefs.{PropertiesLeft, ReadsProperty}
use Rattle.amqp_method.specs.HeaderRefView.{properties_read, property_at, property_ref_view}
use Rattle.amqp_method.specs.ArgRefView.{arg_ref_view}
use Rattle.amqp_method.specs.declared.arg_ref.ArgRef.{ArgRef}
use Rattle.amqp_method.specs.Properties.{ContentHeader, header, EncodesHeader, property_kinds, flags_of}
use Rattle.amqp_method.specs.Reading.{Read, Bits, no_bits, read_number, after_table, ends_run, field_at}
use Rattle.amqp_value.specs.Whole.{BeginsTable}
use Rattle.amqp_method.specs.declared.faults.MethodFault.{MethodFault}
use Rattle.amqp_method.specs.declared.header_ref.HeaderRef.{HeaderRef}
use Rattle.amqp_method.specs.declared.fields.FieldKind.{FieldKind}
use Rattle.amqp_method.specs.declared.fields.FieldKind.TheVariants.{Table}
use Rattle.amqp_method.proofs.FieldLemmas.{same_ok, read_number-takes}
use Rattle.amqp_method.proofs.HeaderChecks.{kind_here, flag_of, flag_at}
use Rattle.amqp_method.proofs.HeaderLemmas.{properties_at-takes, all_own, header_at-again, test_ok, none_there, no_later}
use Rattle.amqp_method.proofs.MethodLemmas.{whole-ok}
use Rattle.amqp_method.proofs.RefLemmas.{is_number}

-- ---- a header

-- where the properties stand, and what is read there
pub record HasProperties (payload : List ℕ) (flags : ℕ) (h : ContentHeader) : Type 0 where
  pub long : 14 ≤ length payload
  pub flags_are : flags ≡ flags_of h.properties
  pub properties : properties_at property_kinds flags (length payload) (drop 14 payload) ≡ Ok (h.properties, [])

pub has_properties : (octets : List ℕ) (h : ContentHeader) → IsBytes octets → header_at octets ≡ Ok h → HasProperties octets (big_number 2 (drop 12 octets)) h
unfolding header_at
has_properties octets h fits e =
    let end = length octets in
    let a = bind_ok (read_number 2 end octets) _ h e in
    let class = read_number-takes 2 end octets a.0 fits a.1 in
    let first = is_number 2 end octets a.0 a.1 in
    let c = test_ok (a.0.0 == 60) _ _ h a.2 in
    let b = bind_ok (read_number 2 end a.0.1) _ h c.1 in
    let weight = read_number-takes 2 end a.0.1 b.0 class.after_fits b.1 in
    let second = is_number 2 end a.0.1 b.0 b.1 in
    let w = test_ok (b.0.0 == 0) _ _ h b.2 in
    let s = bind_ok (read_number 8 end b.0.1) _ h w.1 in
    let size = read_number-takes 8 end b.0.1 s.0 weight.after_fits s.1 in
    let third = is_number 8 end b.0.1 s.0 s.1 in
    let f = bind_ok (read_number 2 end s.0.1) _ h s.2 in
    let flags = read_number-takes 2 end s.0.1 f.0 size.after_fits f.1 in
    let fourth = is_number 2 end s.0.1 f.0 f.1 in
    let g = test_ok (f.0.0 % 4 == 0) _ _ h f.2 in
    let p = bind_ok (properties_at property_kinds f.0.0 end f.0.1) _ h g.1 in
    let t = properties_at-takes property_kinds f.0.0 end f.0.1 p.0 all_own flags.after_fits p.1 in
    let z = whole-ok end (header s.0.0 p.0.0) h p.0.1 p.2 in
    let small : f.0.0 < 2 ^ 16 = omega (arith, flags.encodes.fits) in
    let flags_is : f.0.0 ≡ flags_of p.0.0 = sym (mod-eq_of_lt small) ∙ t.flags_are (eqb-true (f.0.0 % 4) 0 g.0) in
    let after_weight : b.0.1 ≡ drop 4 octets = second.after ∙ ap (λ (o : List ℕ). drop 2 o) first.after ∙ drop-drop 2 2 octets in
    let after_size : s.0.1 ≡ drop 12 octets = third.after ∙ ap (λ (o : List ℕ). drop 8 o) after_weight ∙ drop-drop 8 4 octets in
    let after_flags : f.0.1 ≡ drop 14 octets = fourth.after ∙ ap (λ (o : List ℕ). drop 2 o) after_size ∙ drop-drop 2 12 octets in
    let number : f.0.0 ≡ big_number 2 (drop 12 octets) = fourth.number ∙ ap (λ (o : List ℕ). big_number 2 o) after_size in
    let read : properties_at property_kinds f.0.0 end (drop 14 octets) ≡ Ok (p.0.0, []) =
    ap (λ (o : List ℕ). properties_at property_kinds f.0.0 end o) (sym after_flags) ∙ p.1 ∙ ap (λ (o : List ℕ). Ok (p.0.0, o)) z.0 in
    subst (λ (n : ℕ). HasProperties octets n h) number
    (subst (λ (y : ContentHeader). HasProperties octets f.0.0 y) z.1 (record {
      long = omega (arith, fourth.long, ap length after_size, length-drop 12 octets);
      flags_are = flags_is;
      properties = read;
    }))

read_as : (read : Result ContentHeader MethodFault) (size : ℕ) → size_read read ≡ Ok size → read ≡ Ok (header size (properties_read read))
read_as (Ok h) size is = ap (λ (n : ℕ). Ok (header n h.properties)) (same_ok h.body_size size is)
read_as (Err e) size is = absurd cc

-- the header that is read, where the size of its body is known
pub header_read : (octets : List ℕ) (size : ℕ) → size_read (header_at octets) ≡ Ok size → header_at octets ≡ Ok (header size (properties_read (header_at octets)))
header_read octets size is = read_as (header_at octets) size is

pub lent_properties : (octets : List ℕ) (size flags : ℕ) → IsBytes octets → flags ≡ big_number 2 (drop 12 octets) → size_read (header_at octets) ≡ Ok size
    → HasProperties octets flags (header size (properties_read (header_at octets)))
lent_properties octets size flags fits flagged is =
    subst (λ (n : ℕ). HasProperties octets n (header size (properties_read (header_at octets)))) (sym flagged)
    (has_properties octets (header size (properties_read (header_at octets))) fits (header_read octets size is))

pub only_read : (octets : List ℕ) (size : ℕ) (h : ContentHeader) → size_read (header_at octets) ≡ Ok size → EncodesHeader h octets
    → header size (properties_read (header_at octets)) ≡ h
only_read octets size h is s = same_ok _ _ (sym (header_read octets size is) ∙ header_at-again octets h s)

-- ---- a property of a place

pub absent : (place flag flags end : ℕ) (octets : List ℕ) → flag + place ≡ 15 → has_flag flag flags ≡ false
    → optional_at (has_flag (15 - place) flags) (kind_at place) end octets ≡ Ok (None, octets)
unfolding optional_at
absent place flag flags end octets at unset = rw (flag_at place flag at, unset) refl

there : (place flag flags end : ℕ) (kind : FieldKind) (octets : List ℕ) → flag + place ≡ 15 → kind ≡ kind_at place → has_flag flag flags ≡ true
    → optional_at (has_flag (15 - place) flags) (kind_at place) end octets ≡ (field_at kind no_bits end octets >>= λ x. Ok (Some x.0.0, x.1))
unfolding optional_at
there place flag flags end kind octets at is set = rw (flag_at place flag at, set, is) refl

pub present_as : (place flag flags end : ℕ) (kind : FieldKind) (octets after : List ℕ) (value : Argument) (bits : Bits) → flag + place ≡ 15 → kind ≡ kind_at place
    → has_flag flag flags ≡ true → field_at kind no_bits end octets ≡ Ok ((value, bits), after)
    → optional_at (has_flag (15 - place) flags) (kind_at place) end octets ≡ Ok (Some value, after)
present_as place flag flags end kind octets after value bits at is set read =
    there place flag flags end kind octets at is set ∙ ap (λ (r : Read (Argument × Bits)). r >>= λ x. Ok (Some x.0.0, x.1)) read

no_ok : (e : MethodFault) → IsOk {T = Option Argument × List ℕ} {E = MethodFault} (Err e) → ⊥
no_ok e ok = cc

pub not_faulty : (place flag flags end : ℕ) (kind : FieldKind) (octets : List ℕ) (e : MethodFault) → flag + place ≡ 15 → kind ≡ kind_at place
    → has_flag flag flags ≡ true → IsOk (optional_at (has_flag (15 - place) flags) (kind_at place) end octets) → field_at kind no_bits end octets ≡ Err e → ⊥
not_faulty place flag flags end kind octets e at is set ok read =
    no_ok e (subst IsOk (there place flag flags end kind octets at is set ∙ ap (λ (r : Read (Argument × Bits)). r >>= λ x. Ok (Some x.0.0, x.1)) read) ok)

-- a property after what is read of its field
abbrev as_property : Read (Argument × Bits) → Read (Option Argument)
as_property read = read >>= λ x. Ok (Some x.0.0, x.1)

begins : (end : ℕ) (octets : List ℕ) (read : Result (Pairs × ℕ) ValueFault) → IsOk (as_property (ends_run table (after_table end octets read))) → IsTrue (is_ok read)
begins end octets (Ok x) ok = refl
begins end octets (Err e) ok = absurd cc

pub begins_table : (place flag flags end : ℕ) (kind : FieldKind) (octets : List ℕ) → flag + place ≡ 15 → kind ≡ kind_at place
    → has_flag flag flags ≡ true → IsOk (optional_at (has_flag (15 - place) flags) (kind_at place) end octets) → kind ≡ Table → BeginsTable octets
unfolding field_at
begins_table place flag flags end kind octets at is set ok is_table =
    let all : IsOk (as_property (field_at kind no_bits end octets)) = subst IsOk (there place flag flags end kind octets at is set) ok in
    begins end octets (table_at octets) (subst (λ (k : FieldKind). IsOk (as_property (field_at k no_bits end octets))) is_table all)

-- ---- property after property

record Split (i : ℕ) (all : List (Option Argument)) (p : Option Argument) (others : List (Option Argument)) : Type 0 where
  pub later : drop (i + 1) all ≡ others
  pub here : property_at i all ≡ p

split : (i : ℕ) (all : List (Option Argument)) (p : Option Argument) (others : List (Option Argument)) → drop i all ≡ p ∷ others → Split i all p others
split zero [] p others e = absurd cc
split zero (q ∷ all) p others e = record { later = cc; here = cc }
split (suc n) [] p others e = absurd cc
split (suc n) (q ∷ all) p others e =
    let s = split n all p others e in
    let next : suc n + 1 ≡ suc (n + 1) = omega arith in
    record { later = rw next s.later; here = s.here }

pub record Next (i flags end : ℕ) (octets : List ℕ) (all : List (Option Argument)) : Type 0 where
  pub reads : IsOk (optional_at (has_flag (15 - i) flags) (kind_at i) end octets)
  pub after : (p : Option Argument) (after : List ℕ) → optional_at (has_flag (15 - i) flags) (kind_at i) end octets ≡ Ok (p, after)
      → (properties_at (drop (i + 1) property_kinds) flags end after ≡ Ok (drop (i + 1) all, [])) × (drop i all ≡ p ∷ drop (i + 1) all)

ok_of : (read : Read (Option Argument)) (x : Option Argument × List ℕ) → read ≡ Ok x → IsOk read
ok_of read x is = rw is refl

pub next : (i flags end : ℕ) (octets : List ℕ) (all : List (Option Argument)) → i < 14
    → properties_at (drop i property_kinds) flags end octets ≡ Ok (drop i all, []) → Next i flags end octets all
unfolding properties_at
next i flags end octets all h read =
    let kinds = drop (i + 1) property_kinds in
    let flag = has_flag (15 - i) flags in
    let whole_read : (optional_at flag (kind_at i) end octets >>= λ x. (properties_at kinds flags end x.1 >>= λ y. Ok (x.0 ∷ y.0, y.1))) ≡ Ok (drop i all, []) =
    ap (λ (n : ℕ). optional_at (has_flag n flags) (kind_at i) end octets >>= λ x. (properties_at kinds flags end x.1 >>= λ y. Ok (x.0 ∷ y.0, y.1))) (sym (flag_of i h))
    ∙ ap (λ (k : List FieldKind). properties_at k flags end octets) (sym (kind_here i h)) ∙ read in
    let a = bind_ok (optional_at flag (kind_at i) end octets) _ (drop i all, []) whole_read in
    let b = bind_ok (properties_at kinds flags end a.0.1) _ (drop i all, []) a.2 in
    let same = same_ok (a.0.0 ∷ b.0.0, b.0.1) (drop i all, []) b.2 in
    let here_are : drop i all ≡ a.0.0 ∷ b.0.0 = sym (ap (λ (x : List (Option Argument) × List ℕ). x.0) same) in
    let s = split i all a.0.0 b.0.0 here_are in
    let done : b.0.1 ≡ [] = ap (λ (x : List (Option Argument) × List ℕ). x.1) same in
    record {
      reads = ok_of _ a.0 a.1;
      after = λ p after is.
          let here : a.0 ≡ (p, after) = same_ok a.0 (p, after) (sym a.1 ∙ is) in (
            ap (λ (x : Option Argument × List ℕ). properties_at kinds flags end x.1) (sym here) ∙ b.1
                ∙ ap (λ (o : List ℕ). Ok (b.0.0, o)) done ∙ ap (λ (o : List (Option Argument)). Ok (o, [])) (sym s.later),
            here_are ∙ ap (λ (x : Option Argument × List ℕ). x.0 ∷ b.0.0) here ∙ ap (λ (o : List (Option Argument)). p ∷ o) (sym s.later),
          );
    }

pub first_of : (i : ℕ) (all : List (Option Argument)) (p : Option Argument) → drop i all ≡ p ∷ drop (i + 1) all → property_at i all ≡ p
first_of i all p is = (split i all p (drop (i + 1) all) is).here

-- the properties of a view, from the first on
pub properties_lent : (h : HeaderRef) (octets : List ℕ) → octets ≡ drop 14 h.payload.now → PropertiesLeft h 0 octets
properties_lent h octets is =
    let p = lent_properties h.payload.now h.body_size h.flags h.below h.flagged h.reads in
    record {
      within = omega (arith, ap length is, length-drop 14 h.payload.now);
      reads = rw is p.properties;
    }

pub property_reads : (h : HeaderRef) (i : ℕ) (octets : List ℕ) → i < 14 → PropertiesLeft h i octets
    → IsOk (optional_at (has_flag (15 - i) h.flags) (kind_at i) (length h.payload.now) octets)
property_reads h i octets small left = (next i h.flags (length h.payload.now) octets (properties_read (header_at h.payload.now)) small left.reads).reads

pub property_read : (h : HeaderRef) (i : ℕ) (p : Option Argument) (octets after : List ℕ) → i < 14 → PropertiesLeft h i octets → length after ≤ length octets
    → optional_at (has_flag (15 - i) h.flags) (kind_at i) (length h.payload.now) octets ≡ Ok (p, after) → ReadsProperty h i p after
property_read h i p octets after small left within read =
    let n = (next i h.flags (length h.payload.now) octets (properties_read (header_at h.payload.now)) small left.reads).after p after read in
    record { is = n.1; left = record { within = omega (arith, within, left.within); reads = n.0 } }

-- where no flag is set, or none from the sixth property on
pub none_lent : (h : HeaderRef) → h.flags ≡ 0 → replicate 14 None ≡ properties_read (header_at h.payload.now)
none_lent h none =
    let p = lent_properties h.payload.now h.body_size h.flags h.below h.flagged h.reads in
    let end = length h.payload.now in
    let rest = drop 14 h.payload.now in
    let read : properties_at property_kinds 0 end rest ≡ Ok (properties_read (header_at h.payload.now), []) =
    subst (λ (n : ℕ). properties_at property_kinds n end rest ≡ Ok (properties_read (header_at h.payload.now), [])) none p.properties in
    ap (λ (x : List (Option Argument) × List ℕ). x.0) (same_ok _ _ (sym (none_there end rest) ∙ read))

pub none_later : (h : HeaderRef) (octets : List ℕ) → PropertiesLeft h 5 octets → h.flags % 2048 ≡ 0 → drop 5 (properties_read (header_at h.payload.now)) ≡ replicate 9 None
none_later h octets left low =
    sym (ap (λ (x : List (Option Argument) × List ℕ). x.0) (same_ok _ _ (sym (no_later h.flags (length h.payload.now) octets low) ∙ left.reads)))

-- the properties from the sixth on, which were read one after another
pub later_in_order : (all : List (Option Argument)) (o p q r s t u v w : Option Argument) → drop 5 all ≡ o ∷ drop 6 all → drop 6 all ≡ p ∷ drop 7 all
    → drop 7 all ≡ q ∷ drop 8 all → drop 8 all ≡ r ∷ drop 9 all → drop 9 all ≡ s ∷ drop 10 all → drop 10 all ≡ t ∷ drop 11 all
    → drop 11 all ≡ u ∷ drop 12 all → drop 12 all ≡ v ∷ drop 13 all → drop 13 all ≡ w ∷ drop 14 all → drop 14 all ≡ []
    → drop 5 all ≡ o ∷ p ∷ q ∷ r ∷ s ∷ t ∷ u ∷ v ∷ w ∷ []
later_in_order all o p q r s t u v w first second third fourth fifth sixth seventh eighth ninth none =
    first ∙ ap (λ (l : List (Option Argument)). o ∷ l)
    (second ∙ ap (λ (l : List (Option Argument)). p ∷ l)
    (third ∙ ap (λ (l : List (Option Argument)). q ∷ l)
    (fourth ∙ ap (λ (l : List (Option Argument)). r ∷ l)
    (fifth ∙ ap (λ (l : List (Option Argument)). s ∷ l)
    (sixth ∙ ap (λ (l : List (Option Argument)). t ∷ l)
    (seventh ∙ ap (λ (l : List (Option Argument)). u ∷ l)
    (eighth ∙ ap (λ (l : List (Option Argument)). v ∷ l)
    (ninth ∙ ap (λ (l : List (Option Argument)). w ∷ l) none))))))))

pub none_after : (h : HeaderRef) (octets : List ℕ) → PropertiesLeft h 14 octets → drop 14 (properties_read (header_at h.payload.now)) ≡ []
unfolding properties_at
none_after h octets left = sym (ap (λ (x : List (Option Argument) × List ℕ). x.0) (same_ok _ _ left.reads))

-- ---- a property whose flag is not set

none_unset : (set : Bool) (kind : FieldKind) (end : ℕ) (octets : List ℕ) (x : Option Argument × List ℕ) → set ≡ false
    → optional_at set kind end octets ≡ Ok x → x.0 ≡ None
unfolding optional_at
none_unset true kind end octets x unset read = absurd (true≢false unset)
none_unset false kind end octets x unset read = ap (λ (y : Option Argument × List ℕ). y.0) (sym (same_ok (None, octets) x read))

unset_none : (kinds : List FieldKind) (flags end : ℕ) (octets : List ℕ) (x : List (Option Argument) × List ℕ) (place flag : ℕ)
    → properties_at kinds flags end octets ≡ Ok x → flag + place ≡ length kinds + 1 → place < length kinds
    → has_flag flag flags ≡ false → property_at place x.0 ≡ None
unfolding properties_at
unset_none [] flags end octets x place flag read at small unset = absurd (omega (arith, small))
unset_none (kind ∷ kinds) flags end octets x zero flag read at small unset =
    let a = bind_ok (optional_at (has_flag (length kinds + 2) flags) kind end octets) _ x read in
    let b = bind_ok (properties_at kinds flags end a.0.1) _ x a.2 in
    let here : flag ≡ length kinds + 2 = omega (arith, at) in
    let none = none_unset (has_flag (length kinds + 2) flags) kind end octets a.0 (subst (λ (n : ℕ). has_flag n flags ≡ false) here unset) a.1 in
    ap (λ (y : List (Option Argument) × List ℕ). property_at zero y.0) (sym (same_ok (a.0.0 ∷ b.0.0, b.0.1) x b.2)) ∙ none
unset_none (kind ∷ kinds) flags end octets x (suc n) flag read at small unset =
    let a = bind_ok (optional_at (has_flag (length kinds + 2) flags) kind end octets) _ x read in
    let b = bind_ok (properties_at kinds flags end a.0.1) _ x a.2 in
    let later : flag + n ≡ length kinds + 1 = omega (arith, at) in
    let within : n < length kinds = omega (arith, small) in
    ap (λ (y : List (Option Argument) × List ℕ). property_at (suc n) y.0) (sym (same_ok (a.0.0 ∷ b.0.0, b.0.1) x b.2))
    ∙ unset_none kinds flags end a.0.1 b.0 n flag b.1 later within unset

pub not_there : (h : HeaderRef) (place flag : ℕ) → flag + place ≡ 15 → place < 14 → has_flag flag h.flags ≡ false
    → property_at place (properties_read (header_at h.payload.now)) ≡ None
not_there h place flag at small unset =
    let p = lent_properties h.payload.now h.body_size h.flags h.below h.flagged h.reads in
    unset_none property_kinds h.flags (length h.payload.now) (drop 14 h.payload.now) (properties_read (header_at h.payload.now), []) place flag
    p.properties at small unset

pub match_property : (lent : Option ArgRef) (p : Option Argument) → p ≡ property_ref_view lent → MatchOption lent (p ≡ None) (λ value. p ≡ Some (arg_ref_view value))
match_property None p is = is
match_property (Some value) p is = is

-- A field fails exactly when it says.
use Rattle.std.proofs.Common.{◌≡◌, ℕ, zero, suc, ◌-◌, ◌≤◌, ◌<◌, Bool, true, false, cond, ltb, List, [], ◌∷◌, length, Result, Ok, Err, inl, inr, refl, sym, ap, ◌∙◌, arith}
use Rattle.std.specs.Prelude.{◌⊎◌}
use Rattle.std.proofs.lemmas.Bool.{ltb-true, ltb-false, lt-ltb}
use Rattle.byteorder.specs.Endian.{big_number}
use Rattle.amqp_value.proofs.Elements.{bind_ok}
use Rattle.amqp_value.proofs.Numbers.{IsBytes}
use Rattle.amqp_value.proofs.OnlyTold.{first_fault_told}
use Rattle.amqp_value.proofs.Told.{table_at-told}
use Rattle.amqp_value.specs.FirstFault.{PassesCounted}
use Rattle.amqp_value.specs.Reading.{◌>>=◌, table_at}
use Rattle.amqp_value.specs.Values.{Pairs}
use Rattle.amqp_value.specs.declared.fault.ValueFault.{ValueFault}
use Rattle.amqp_method.specs.Arguments.{Argument, octet, short, long, long_long, short_string, long_string, table}
use Rattle.amqp_method.specs.FirstFault.{left_by_bit, bits_left_by, PassesShort, Passes, FaultInField, passes, inside}
use Rattle.amqp_method.specs.Reading.{Read, Bits, ends_at, read_number, short_string_at, long_string_at, after_table, read_bit, ends_run, field_at}
use Rattle.amqp_method.specs.declared.faults.MethodFault.{MethodFault}
use Rattle.amqp_method.specs.declared.fields.FieldKind.{FieldKind}
use Rattle.amqp_method.specs.declared.fields.FieldKind.TheVariants.{Bit, Octet, Short, Long, LongLong, ShortStr, LongStr, Table}
use Rattle.amqp_method.proofs.FieldLemmas.{same_ok}

-- ---- steps that failed

abbrev failed : {A : Type 0} → MethodFault → Result A MethodFault
failed e = Err e

pub err_is : {A : Type 0} (d e : MethodFault) → failed {A = A} d ≡ failed e → d ≡ e
err_is d e h = cc

-- the first step failed, or the second did
pub bind_err : {A B : Type 0} (r : Result A MethodFault) (f : A → Result B MethodFault) (e : MethodFault) → (r >>= f) ≡ Err e → (r ≡ Err e) ⊎ ((x : A) × (r ≡ Ok x) × (f x ≡ Err e))
bind_err {A = A} (Ok x) f e h = inr (x, refl, h)
bind_err {A = A} {B = B} (Err d) f e h = inl (ap (λ k. Err k) (err_is {A = B} d e h))

pub guard_err : {A : Type 0} (b : Bool) (d : MethodFault) (r : Result A MethodFault) (e : MethodFault) → cond b (Err d) r ≡ Err e → ((b ≡ true) × (e ≡ d)) ⊎ ((b ≡ false) × (r ≡ Err e))
guard_err {A = A} true d r e h = inl (refl, sym (err_is {A = A} d e h))
guard_err false d r e h = inr (refl, h)

pub no_err : {A : Type 0} (x : A) (e : MethodFault) → {P : Type 0} → Ok x ≡ failed e → P
no_err x e h = absurd cc

-- ---- numbers and strings

pub read_number-err : (n end : ℕ) (octets : List ℕ) (e : MethodFault) → read_number n end octets ≡ Err e → (length octets < n) × (e ≡ ends_at end octets)
read_number-err n end octets e h =
    elim (guard_err (ltb (length octets) n) _ _ e h) [
      | inl g ↦ (ltb-true _ _ g.0, g.1)
      | inr g ↦ no_err _ e g.1
    ]

pub read_number-fails : (n end : ℕ) (octets : List ℕ) → length octets < n → read_number n end octets ≡ Err (ends_at end octets)
read_number-fails n end octets few = rw (lt-ltb _ _ few) refl

short_string_at-err : (end : ℕ) (octets : List ℕ) (e : MethodFault) → short_string_at end octets ≡ Err e → PassesShort octets × (e ≡ ends_at end octets)
short_string_at-err end [] e h = (tt, sym (err_is {A = List ℕ × List ℕ} _ e h))
short_string_at-err end (n ∷ octets) e h =
    elim (guard_err (ltb (length octets) n) _ _ e h) [
      | inl g ↦ (ltb-true _ _ g.0, g.1)
      | inr g ↦ no_err _ e g.1
    ]

short_string_at-fails : (end : ℕ) (octets : List ℕ) → PassesShort octets → short_string_at end octets ≡ Err (ends_at end octets)
short_string_at-fails end [] passed = refl
short_string_at-fails end (n ∷ octets) passed = rw (lt-ltb _ _ passed) refl

long_string_at-err : (end : ℕ) (octets : List ℕ) (e : MethodFault) → long_string_at end octets ≡ Err e → PassesCounted octets × (e ≡ ends_at end octets)
long_string_at-err end octets e h =
    elim (guard_err (ltb (length octets) 4) _ _ e h) [
      | inl g ↦ (inl (ltb-true _ _ g.0), g.1)
      | inr g ↦ elim (guard_err (ltb (length octets - 4) (big_number 4 octets)) _ _ e g.1) [
        | inl k ↦ (let few = ltb-true _ _ k.0 in let four = ltb-false _ _ g.0 in inr (omega arith), k.1)
        | inr k ↦ no_err _ e k.1
      ]
    ]

long_string_at-fails : (end : ℕ) (octets : List ℕ) → PassesCounted octets → long_string_at end octets ≡ Err (ends_at end octets)
long_string_at-fails end octets (inl few) = rw (lt-ltb _ _ few) refl
long_string_at-fails end octets (inr few) = counted_at (ltb (length octets) 4) refl
  where
    counted_at : (b : Bool) → ltb (length octets) 4 ≡ b → long_string_at end octets ≡ Err (ends_at end octets)
    counted_at true is = rw is refl
    counted_at false is =
        let four : 4 ≤ length octets = ltb-false _ _ is in
        let passed : ltb (length octets - 4) (big_number 4 octets) ≡ true = lt-ltb _ _ (omega arith) in
        rw (is, passed) refl

-- ---- one field

-- the first of the octets stands here
abbrev pub place : ℕ → List ℕ → ℕ
place end octets = end - length octets

run_err : {X : Type 0} (make : X → Argument) (read : Read X) (e : MethodFault) → ends_run make read ≡ Err e → read ≡ Err e
run_err make read e h =
    elim (bind_err read _ e h) [
      | inl is ↦ is
      | inr b ↦ no_err _ e b.2
    ]

bit_err : (left packed end : ℕ) (octets : List ℕ) (e : MethodFault) → read_bit left packed end octets ≡ Err e → FaultInField Bit left (place end octets) octets e
bit_err zero packed end octets e h =
    elim (bind_err (read_number 1 end octets) _ e h) [
      | inl is ↦ (let n = read_number-err 1 end octets e is in passes (refl, n.0) n.1)
      | inr b ↦ no_err _ e b.2
    ]
bit_err (suc left) packed end octets e h = no_err _ e h

table_err : (left end : ℕ) (octets : List ℕ) (found : Result (Pairs × ℕ) ValueFault) (e : MethodFault) → IsBytes octets → table_at octets ≡ found → after_table end octets found ≡ Err e
    → FaultInField Table left (place end octets) octets e
table_err left end octets (Ok found) e fits is h = no_err _ e h
table_err left end octets (Err inner) e fits is h = inside inner refl (table_at-told octets inner fits is) (sym (err_is {A = Pairs × List ℕ} _ e h))

pub field_at-err : (kind : FieldKind) (bits : Bits) (end : ℕ) (octets : List ℕ) (e : MethodFault) → IsBytes octets → field_at kind bits end octets ≡ Err e
    → FaultInField kind bits.left (place end octets) octets e
unfolding field_at
field_at-err Bit bits end octets e fits h = bit_err bits.left bits.packed end octets e h
field_at-err Octet bits end octets e fits h = let n = read_number-err 1 end octets e (run_err octet _ e h) in passes n.0 n.1
field_at-err Short bits end octets e fits h = let n = read_number-err 2 end octets e (run_err short _ e h) in passes n.0 n.1
field_at-err Long bits end octets e fits h = let n = read_number-err 4 end octets e (run_err long _ e h) in passes n.0 n.1
field_at-err LongLong bits end octets e fits h = let n = read_number-err 8 end octets e (run_err long_long _ e h) in passes n.0 n.1
field_at-err ShortStr bits end octets e fits h = let n = short_string_at-err end octets e (run_err short_string _ e h) in passes n.0 n.1
field_at-err LongStr bits end octets e fits h = let n = long_string_at-err end octets e (run_err long_string _ e h) in passes n.0 n.1
field_at-err Table bits end octets e fits h = table_err bits.left end octets (table_at octets) e fits refl (run_err table _ e h)

passes_fails : (kind : FieldKind) (bits : Bits) (end : ℕ) (octets : List ℕ) → Passes kind bits.left octets → field_at kind bits end octets ≡ Err (ends_at end octets)
unfolding field_at
passes_fails Bit bits end octets p = rw (p.0, read_number-fails 1 end octets p.1) refl
passes_fails Octet bits end octets p = rw (read_number-fails 1 end octets p) refl
passes_fails Short bits end octets p = rw (read_number-fails 2 end octets p) refl
passes_fails Long bits end octets p = rw (read_number-fails 4 end octets p) refl
passes_fails LongLong bits end octets p = rw (read_number-fails 8 end octets p) refl
passes_fails ShortStr bits end octets p = rw (short_string_at-fails end octets p) refl
passes_fails LongStr bits end octets p = rw (long_string_at-fails end octets p) refl
passes_fails Table bits end octets p = absurd p

pub field_at-fails : (kind : FieldKind) (bits : Bits) (end : ℕ) (octets : List ℕ) (e : MethodFault) → FaultInField kind bits.left (place end octets) octets e → field_at kind bits end octets ≡ Err e
unfolding field_at
field_at-fails kind bits end octets e (passes p is) = passes_fails kind bits end octets p ∙ ap (λ d. Err d) (sym is)
field_at-fails kind bits end octets e (inside inner table_is first is) =
    ap (λ k. field_at k bits end octets) table_is ∙ rw (first_fault_told octets inner first, is) refl

-- ---- the bits that a field leaves

run_left : {X : Type 0} (make : X → Argument) (read : Read X) (x : (Argument × Bits) × List ℕ) → ends_run make read ≡ Ok x → x.0.1.left ≡ 0
run_left make read x h =
    let b = bind_ok read _ x h in
    sym (ap (λ (y : (Argument × Bits) × List ℕ). y.0.1.left) (same_ok _ _ b.2))

bit_left : (left packed end : ℕ) (octets : List ℕ) (x : (Argument × Bits) × List ℕ) → read_bit left packed end octets ≡ Ok x → x.0.1.left ≡ left_by_bit left
bit_left zero packed end octets x h =
    let b = bind_ok (read_number 1 end octets) _ x h in
    sym (ap (λ (y : (Argument × Bits) × List ℕ). y.0.1.left) (same_ok _ _ b.2))
bit_left (suc left) packed end octets x h = sym (ap (λ (y : (Argument × Bits) × List ℕ). y.0.1.left) (same_ok _ _ h))

pub field_at-left : (kind : FieldKind) (bits : Bits) (end : ℕ) (octets : List ℕ) (x : (Argument × Bits) × List ℕ) → field_at kind bits end octets ≡ Ok x → x.0.1.left ≡ bits_left_by kind bits.left
unfolding field_at
field_at-left Bit bits end octets x h = bit_left bits.left bits.packed end octets x h
field_at-left Octet bits end octets x h = run_left octet _ x h
field_at-left Short bits end octets x h = run_left short _ x h
field_at-left Long bits end octets x h = run_left long _ x h
field_at-left LongLong bits end octets x h = run_left long_long _ x h
field_at-left ShortStr bits end octets x h = run_left short_string _ x h
field_at-left LongStr bits end octets x h = run_left long_string _ x h
field_at-left Table bits end octets x h = run_left table _ x h

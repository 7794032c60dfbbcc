-- A fault that is told of a header is that of the first field that can't be read, and no other is told.
use Rattle.std.proofs.Common.{◌≡◌, ℕ, ◌+◌, ◌%◌, ◌==◌, ◌^◌, ◌<◌, Bool, true, false, cond, List, [], ◌∷◌, ◌++◌, length, drop, Option, Some, None, Result, Ok, Err, inl, inr, refl, sym, ap, subst, ◌∙◌, append_assoc, arith, length-append}
use Rattle.std.specs.Prelude.{IfErr, ◌⊎◌}
use Rattle.std.proofs.Math.Nat.{mod-eq_of_lt}
use Rattle.std.proofs.lemmas.Bool.{eqb-true, eqb-false, ne_eqb}
use Rattle.amqp_value.proofs.Elements.{bind_ok}
use Rattle.amqp_value.proofs.Numbers.{IsBytes}
use Rattle.amqp_value.specs.Fields.{EncodesNumber}
use Rattle.amqp_value.specs.Reading.{◌>>=◌}
use Rattle.amqp_value.specs.declared.fault.ValueFaultKind.TheVariants.{Ends}
use Rattle.amqp_method.specs.Arguments.{Argument}
use Rattle.amqp_method.specs.Faults.{out_of_memory}
use Rattle.amqp_method.specs.FirstFault.{FaultInField, BeginFlagged, EncodesPrefix, FirstFaultOfHeader, header_class_ends, not_basic, weight_ends, bad_weight, size_ends, flags_end, bad_flags, in_property, header_trailing}
use Rattle.amqp_method.specs.HeaderReading.{has_flag, optional_at, properties_at, flagged_at, weighed_at, classed_at, header_at}
use Rattle.amqp_method.specs.Properties.{ContentHeader, header, property_kinds, flags_of, EncodesPresent}
use Rattle.amqp_method.specs.Reading.{Gives, Read, no_bits, read_number, field_at}
use Rattle.amqp_method.specs.declared.faults.MethodFault.{MethodFault}
use Rattle.amqp_method.specs.declared.faults.MethodFaultKind.TheVariants.{Value, Trailing}
use Rattle.amqp_method.specs.declared.fields.FieldKind.{FieldKind}
use Rattle.amqp_method.proofs.ArgsLemmas.{HasOctets, field_alone-takes, field_alone-again}
use Rattle.amqp_method.proofs.FieldFaults.{err_is, bind_err, no_err, place, read_number-err, read_number-fails, field_at-err, field_at-fails}
use Rattle.amqp_method.proofs.FieldLemmas.{same_ok, read_number-takes, read_number-again}
use Rattle.amqp_method.proofs.HeaderLemmas.{AllHaveOctets, all_own, flags_of-clear, properties_at-takes, properties_at-again}
use Rattle.amqp_method.proofs.MethodFaults.{number_long, place_after, place_second, fault_place, whole-err, whole-fails}

-- ---- properties

-- whole properties, and then one at fault whose flag is set
record FailsAmong (kinds : List FieldKind) (flags end : ℕ) (octets : List ℕ) (e : MethodFault) : Type 0 where
  properties : List (Option Argument)
  here : FieldKind
  after : List FieldKind
  prefix : List ℕ
  rest : List ℕ
  flagged : BeginFlagged properties kinds flags
  next_is : drop (length properties) kinds ≡ here ∷ after
  flag_is : has_flag (length after + 2) flags ≡ true
  octets_are : octets ≡ prefix ++ rest
  encoded : EncodesPresent properties prefix
  fault_is : FaultInField here 0 (place end rest) rest e

-- the properties after one that was read
abbrev others_at : List FieldKind → ℕ → ℕ → Option Argument × List ℕ → Read (List (Option Argument))
others_at kinds flags end x = properties_at kinds flags end x.1 >>= λ y. Ok (x.0 ∷ y.0, y.1)

-- one property before the others, or at fault
next_err : (there : Bool) (kind : FieldKind) (kinds : List FieldKind) (flags end : ℕ) (octets : List ℕ) (e : MethodFault) → HasOctets kind → IsBytes octets → has_flag (length kinds + 2) flags ≡ there
    → ((rest : List ℕ) → IsBytes rest → properties_at kinds flags end rest ≡ Err e → FailsAmong kinds flags end rest e)
    → (optional_at there kind end octets >>= others_at kinds flags end) ≡ Err e → FailsAmong (kind ∷ kinds) flags end octets e
unfolding optional_at
next_err false kind kinds flags end octets e own fits set again h =
    elim (bind_err (properties_at kinds flags end octets) _ e h) [
      | inl later ↦ (
          let t = again octets fits later in
          record {
            properties = None ∷ t.properties;
            here = t.here;
            after = t.after;
            prefix = t.prefix;
            rest = t.rest;
            flagged = (set, t.flagged);
            next_is = t.next_is;
            flag_is = t.flag_is;
            octets_are = t.octets_are;
            encoded = t.encoded;
            fault_is = t.fault_is;
          })
      | inr none ↦ no_err _ e none.2
    ]
next_err true kind kinds flags end octets e own fits set again h =
    elim (bind_err (optional_at true kind end octets) _ e h) [
      | inl failed ↦ elim (bind_err (field_at kind no_bits end octets) _ e failed) [
        | inl is ↦ record {
          properties = [];
          here = kind;
          after = kinds;
          prefix = [];
          rest = octets;
          flagged = tt;
          next_is = refl;
          flag_is = set;
          octets_are = refl;
          encoded = refl;
          fault_is = field_at-err kind no_bits end octets e fits is;
        }
        | inr none ↦ no_err _ e none.2
      ]
      | inr b ↦ (
          let o = bind_ok (field_at kind no_bits end octets) _ b.0 b.1 in
          let a = field_alone-takes kind no_bits end octets o.0 own fits o.1 in
          let beyond : o.0.1 ≡ b.0.1 = ap (λ (y : Option Argument × List ℕ). y.1) (same_ok _ _ o.2) in
          elim (bind_err (properties_at kinds flags end b.0.1) _ e b.2) [
            | inl later ↦ (
                let t = again o.0.1 a.takes.after_fits (ap (λ (r : List ℕ). properties_at kinds flags end r) beyond ∙ later) in
                record {
                  properties = Some o.0.0.0 ∷ t.properties;
                  here = t.here;
                  after = t.after;
                  prefix = a.takes.prefix ++ t.prefix;
                  rest = t.rest;
                  flagged = (set, a.kind_is, t.flagged);
                  next_is = t.next_is;
                  flag_is = t.flag_is;
                  octets_are = a.takes.parts ∙ ap (λ (r : List ℕ). a.takes.prefix ++ r) t.octets_are ∙ sym (append_assoc a.takes.prefix t.prefix t.rest);
                  encoded = (a.takes.prefix, t.prefix, refl, a.takes.encodes, t.encoded);
                  fault_is = t.fault_is;
                })
            | inr none ↦ no_err _ e none.2
          ])
    ]

properties_at-err : (kinds : List FieldKind) (flags end : ℕ) (octets : List ℕ) (e : MethodFault) → AllHaveOctets kinds → IsBytes octets → properties_at kinds flags end octets ≡ Err e → FailsAmong kinds flags end octets e
unfolding properties_at
properties_at-err [] flags end octets e own fits h = no_err _ e h
properties_at-err (kind ∷ kinds) flags end octets e own fits h =
    next_err (has_flag (length kinds + 2) flags) kind kinds flags end octets e own.0 fits refl (λ rest rest_fits later. properties_at-err kinds flags end rest e own.1 rest_fits later) h

properties_at-fails : (properties : List (Option Argument)) (kinds : List FieldKind) (here : FieldKind) (after : List FieldKind) (flags end : ℕ) (prefix rest : List ℕ) (e : MethodFault) → BeginFlagged properties kinds flags
    → drop (length properties) kinds ≡ here ∷ after → has_flag (length after + 2) flags ≡ true → EncodesPresent properties prefix → FaultInField here 0 (place end rest) rest e
    → properties_at kinds flags end (prefix ++ rest) ≡ Err e
unfolding properties_at optional_at
properties_at-fails [] kinds here after flags end prefix rest e flagged next flag encoded fault =
    ap (λ (k : List FieldKind). properties_at k flags end (prefix ++ rest)) next ∙ rw (encoded, flag, field_at-fails here no_bits end rest e fault) refl
properties_at-fails (p ∷ properties) [] here after flags end prefix rest e flagged next flag encoded fault = absurd flagged
properties_at-fails (None ∷ properties) (kind ∷ kinds) here after flags end prefix rest e flagged next flag encoded fault =
    let inside = properties_at-fails properties kinds here after flags end prefix rest e flagged.1 next flag encoded fault in
    rw (flagged.0, inside) refl
properties_at-fails (Some value ∷ properties) (kind ∷ kinds) here after flags end prefix rest e flagged next flag s fault =
    let first : field_at kind no_bits end (prefix ++ rest) ≡ Ok ((value, no_bits), s.1 ++ rest) =
    ap (λ (o : List ℕ). field_at kind no_bits end (o ++ rest)) s.2 ∙ ap (field_at kind no_bits end) (append_assoc s.0 s.1 rest)
    ∙ rw (← flagged.1) (field_alone-again value no_bits end s.0 (s.1 ++ rest) s.3) in
    let inside = properties_at-fails properties kinds here after flags end s.1 rest e flagged.2 next flag s.4 fault in
    rw (flagged.0, first, inside) refl

-- ---- the fields at the start

test_err : {A : Type 0} (b : Bool) (x : Result A MethodFault) (d e : MethodFault) → cond b x (Err d) ≡ Err e → ((b ≡ true) × (x ≡ Err e)) ⊎ ((b ≡ false) × (e ≡ d))
test_err true x d e h = inl (refl, h)
test_err {A = A} false x d e h = inr (refl, sym (err_is {A = A} d e h))

prefix_long : (flags : ℕ) (prefix : List ℕ) → EncodesPrefix flags prefix → length prefix ≡ 14
prefix_long flags prefix s =
    let one = length-append s.class (s.weight ++ (s.size ++ s.word)) in
    let two = length-append s.weight (s.size ++ s.word) in
    let three = length-append s.size s.word in
    let class = number_long 2 _ s.class s.class_is in
    let weight = number_long 2 _ s.weight s.weight_is in
    let size = number_long 8 _ s.size s.size_is in
    let word = number_long 2 _ s.word s.flags_are in
    ap length s.octets_are ∙ omega arith

prefix_parts : (class weight size word rest : List ℕ) → (class ++ (weight ++ (size ++ word))) ++ rest ≡ class ++ (weight ++ (size ++ (word ++ rest)))
prefix_parts class weight size word rest = simp append_assoc

-- ---- headers

properties_told : (flags : ℕ) (octets prefix rest : List ℕ) (e : MethodFault) → octets ≡ prefix ++ rest → EncodesPrefix flags prefix → flags % 4 ≡ 0 → FailsAmong property_kinds flags (length octets) rest e → FirstFaultOfHeader octets e
properties_told flags octets prefix rest e is s clear t =
    let long = prefix_long flags prefix s in
    let total : length octets ≡ length prefix + length rest = ap length is ∙ length-append prefix rest in
    let beyond : length rest ≡ length t.prefix + length t.rest = ap length t.octets_are ∙ length-append t.prefix t.rest in
    let at : place (length octets) t.rest ≡ 14 + length t.prefix = omega arith in
    in_property flags prefix rest is s clear (record {
      properties = t.properties;
      here = t.here;
      after = t.after;
      prefix = t.prefix;
      rest = t.rest;
      flagged = t.flagged;
      next_is = t.next_is;
      flag_is = t.flag_is;
      octets_are = t.octets_are;
      encoded = t.encoded;
      fault_is = subst (λ p. FaultInField t.here 0 p t.rest e) at t.fault_is;
    })

flagged_told : (flags : ℕ) (octets prefix rest : List ℕ) (e : MethodFault) → octets ≡ prefix ++ rest → (s : EncodesPrefix flags prefix) → IsBytes rest → flagged_at (length octets) s.body_size rest flags ≡ Err e → FirstFaultOfHeader octets e
flagged_told flags octets prefix rest e is s fits h =
    elim (test_err (flags % 4 == 0) _ _ e h) [
      | inr bad ↦ bad_flags flags prefix rest is s (eqb-false (flags % 4) 0 bad.0) bad.1
      | inl good ↦ (
          let clear = eqb-true (flags % 4) 0 good.0 in
          elim (bind_err (properties_at property_kinds flags (length octets) rest) _ e good.1) [
            | inl failed ↦ properties_told flags octets prefix rest e is s clear (properties_at-err property_kinds flags (length octets) rest e all_own fits failed)
            | inr p ↦ (
                let t = properties_at-takes property_kinds flags (length octets) rest p.0 all_own fits p.1 in
                let w = whole-err (length octets) (header s.body_size p.0.0) p.0.1 e p.2 in
                let small : flags < 2 ^ 16 = omega (arith, s.flags_are.fits) in
                let flags_is : flags ≡ flags_of p.0.0 = sym (mod-eq_of_lt small) ∙ t.flags_are clear in
                let all = s.class ++ (s.weight ++ (s.size ++ (s.word ++ t.prefix))) in
                let parts : octets ≡ all ++ p.0.1 = is ∙ ap (λ (o : List ℕ). o ++ rest) s.octets_are ∙ ap (λ (o : List ℕ). (s.class ++ (s.weight ++ (s.size ++ s.word))) ++ o) t.parts ∙ simp append_assoc in
                header_trailing (header s.body_size p.0.0) all p.0.1 parts
                (record {
                  class = s.class;
                  weight = s.weight;
                  size = s.size;
                  flags = s.word;
                  rest = t.prefix;
                  octets_are = refl;
                  class_is = s.class_is;
                  weight_is = s.weight_is;
                  size_is = s.size_is;
                  kinds_are = t.kinds_are;
                  flags_are = subst (λ n. EncodesNumber 2 n s.word) flags_is s.flags_are;
                  encoded = t.encoded;
                })
                w.0 (w.1 ∙ fault_place (length all) (length octets) p.0.1 Trailing (place_after octets all p.0.1 parts)))
          ])
    ]

weighed_told : (octets first second rest : List ℕ) (weight : ℕ) (e : MethodFault) → octets ≡ first ++ (second ++ rest) → EncodesNumber 2 60 first → EncodesNumber 2 weight second → IsBytes rest
    → weighed_at (length octets) rest weight ≡ Err e → FirstFaultOfHeader octets e
weighed_told octets first second rest weight e is class_is weight_is fits h =
    let end = length octets in
    elim (test_err (weight == 0) _ _ e h) [
      | inr bad ↦ bad_weight weight first second rest is class_is weight_is (eqb-false weight 0 bad.0) bad.1
      | inl good ↦ (
          let none = subst (λ n. EncodesNumber 2 n second) (eqb-true weight 0 good.0) weight_is in
          let class_long = number_long 2 _ first class_is in
          let weight_long = number_long 2 _ second weight_is in
          let four : place end rest ≡ 4 = place_second octets first second rest is ∙ omega arith in
          elim (bind_err (read_number 8 end rest) _ e good.1) [
            | inl failed ↦ (let n = read_number-err 8 end rest e failed in size_ends first second rest is class_is none n.0 (n.1 ∙ fault_place 4 end rest (Value Ends) four))
            | inr s ↦ (
                let size = read_number-takes 8 end rest s.0 fits s.1 in
                let size_long = number_long 8 _ size.prefix size.encodes in
                let parts : octets ≡ first ++ (second ++ (size.prefix ++ s.0.1)) = is ∙ ap (λ (o : List ℕ). first ++ (second ++ o)) size.parts in
                let beyond : length rest ≡ length size.prefix + length s.0.1 = ap length size.parts ∙ length-append size.prefix s.0.1 in
                let total : length octets ≡ length first + length (second ++ rest) = ap length is ∙ length-append first (second ++ rest) in
                let both = length-append second rest in
                let twelve : place end s.0.1 ≡ 12 = omega arith in
                elim (bind_err (read_number 2 end s.0.1) _ e s.2) [
                  | inl failed ↦ (
                      let n = read_number-err 2 end s.0.1 e failed in
                      flags_end s.0.0 first second size.prefix s.0.1 parts class_is none size.encodes n.0 (n.1 ∙ fault_place 12 end s.0.1 (Value Ends) twelve))
                  | inr f ↦ (
                      let word = read_number-takes 2 end s.0.1 f.0 size.after_fits f.1 in
                      let prefix = first ++ (second ++ (size.prefix ++ word.prefix)) in
                      let all : octets ≡ prefix ++ f.0.1 = parts ∙ ap (λ (o : List ℕ). first ++ (second ++ (size.prefix ++ o))) word.parts ∙ simp append_assoc in
                      flagged_told f.0.0 octets prefix f.0.1 e all
                      (record {
                        body_size = s.0.0;
                        class = first;
                        weight = second;
                        size = size.prefix;
                        word = word.prefix;
                        octets_are = refl;
                        class_is = class_is;
                        weight_is = none;
                        size_is = size.encodes;
                        flags_are = word.encodes;
                      })
                      word.after_fits f.2)
                ])
          ])
    ]

pub header_at-told : (octets : List ℕ) (e : MethodFault) → IsBytes octets → header_at octets ≡ Err e → FirstFaultOfHeader octets e
unfolding header_at
header_at-told octets e fits h =
    let end = length octets in
    elim (bind_err (read_number 2 end octets) _ e h) [
      | inl is ↦ (let n = read_number-err 2 end octets e is in header_class_ends n.0 (n.1 ∙ fault_place 0 end octets (Value Ends) (place_after octets [] octets refl)))
      | inr a ↦ (
          let class = read_number-takes 2 end octets a.0 fits a.1 in
          elim (test_err (a.0.0 == 60) _ _ e a.2) [
            | inr bad ↦ not_basic a.0.0 class.prefix a.0.1 class.parts class.encodes (eqb-false a.0.0 60 bad.0) bad.1
            | inl good ↦ (
                let basic = subst (λ n. EncodesNumber 2 n class.prefix) (eqb-true a.0.0 60 good.0) class.encodes in
                elim (bind_err (read_number 2 end a.0.1) _ e good.1) [
                  | inl is ↦ (
                      let n = read_number-err 2 end a.0.1 e is in
                      weight_ends class.prefix a.0.1 class.parts basic n.0
                      (n.1 ∙ fault_place 2 end a.0.1 (Value Ends) (place_after octets class.prefix a.0.1 class.parts ∙ number_long 2 _ class.prefix class.encodes)))
                  | inr b ↦ (
                      let weight = read_number-takes 2 end a.0.1 b.0 class.after_fits b.1 in
                      weighed_told octets class.prefix weight.prefix b.0.1 b.0.0 e (class.parts ∙ ap (λ (o : List ℕ). class.prefix ++ o) weight.parts) basic weight.encodes weight.after_fits b.2)
                ])
          ])
    ]

-- ---- no other is told

class_read : (class : ℕ) (octets first rest : List ℕ) → octets ≡ first ++ rest → EncodesNumber 2 class first → header_at octets ≡ classed_at (length octets) rest class
unfolding header_at
class_read class octets first rest is class_is =
    let end = length octets in
    let one : read_number 2 end octets ≡ Ok (class, rest) = ap (read_number 2 end) is ∙ read_number-again 2 end class first rest class_is in
    rw one refl

weight_read : (weight : ℕ) (octets first second rest : List ℕ) → octets ≡ first ++ (second ++ rest) → EncodesNumber 2 60 first → EncodesNumber 2 weight second
    → header_at octets ≡ weighed_at (length octets) rest weight
weight_read weight octets first second rest is class_is weight_is =
    class_read 60 octets first (second ++ rest) is class_is ∙ rw (read_number-again 2 (length octets) weight second rest weight_is) refl

prefix_read : (flags : ℕ) (octets prefix rest : List ℕ) → octets ≡ prefix ++ rest → (s : EncodesPrefix flags prefix) → header_at octets ≡ flagged_at (length octets) s.body_size rest flags
prefix_read flags octets prefix rest is s =
    let end = length octets in
    let parts : octets ≡ s.class ++ (s.weight ++ (s.size ++ (s.word ++ rest))) = is ∙ ap (λ (o : List ℕ). o ++ rest) s.octets_are ∙ prefix_parts s.class s.weight s.size s.word rest in
    let size = read_number-again 8 end s.body_size s.size (s.word ++ rest) s.size_is in
    let word = read_number-again 2 end flags s.word rest s.flags_are in
    weight_read 0 octets s.class s.weight (s.size ++ (s.word ++ rest)) parts s.class_is s.weight_is ∙ rw (size, word) refl

pub first_fault_of_header : (octets : List ℕ) (e : MethodFault) → FirstFaultOfHeader octets e → header_at octets ≡ Err e
unfolding header_at
first_fault_of_header octets e (header_class_ends short is) =
    let end = length octets in
    rw (read_number-fails 2 end octets short) (ap (λ d. Err d) (fault_place 0 end octets (Value Ends) (place_after octets [] octets refl) ∙ sym is))
first_fault_of_header octets e (not_basic class first rest parts class_is other is) =
    class_read class octets first rest parts class_is ∙ rw (ne_eqb class 60 other) (ap (λ d. Err d) (sym is))
first_fault_of_header octets e (weight_ends first rest parts class_is short is) =
    let end = length octets in
    class_read 60 octets first rest parts class_is
    ∙ rw (read_number-fails 2 end rest short)
    (ap (λ d. Err d) (fault_place 2 end rest (Value Ends) (place_after octets first rest parts ∙ number_long 2 _ first class_is) ∙ sym is))
first_fault_of_header octets e (bad_weight weight first second rest parts class_is weight_is other is) =
    weight_read weight octets first second rest parts class_is weight_is ∙ rw (ne_eqb weight 0 other) (ap (λ d. Err d) (sym is))
first_fault_of_header octets e (size_ends first second rest parts class_is weight_is short is) =
    let end = length octets in
    let class_long = number_long 2 _ first class_is in
    let weight_long = number_long 2 _ second weight_is in
    let four : place end rest ≡ 4 = place_second octets first second rest parts ∙ omega arith in
    weight_read 0 octets first second rest parts class_is weight_is ∙ rw (read_number-fails 8 end rest short) (ap (λ d. Err d) (fault_place 4 end rest (Value Ends) four ∙ sym is))
first_fault_of_header octets e (flags_end size first second third rest parts class_is weight_is size_is short is) =
    let end = length octets in
    let class_long = number_long 2 _ first class_is in
    let weight_long = number_long 2 _ second weight_is in
    let size_long = number_long 8 _ third size_is in
    let total : length octets ≡ length first + length (second ++ (third ++ rest)) = ap length parts ∙ length-append first (second ++ (third ++ rest)) in
    let two = length-append second (third ++ rest) in
    let three = length-append third rest in
    let twelve : place end rest ≡ 12 = omega arith in
    weight_read 0 octets first second (third ++ rest) parts class_is weight_is
    ∙ rw (read_number-again 8 end size third rest size_is, read_number-fails 2 end rest short) (ap (λ d. Err d) (fault_place 12 end rest (Value Ends) twelve ∙ sym is))
first_fault_of_header octets e (bad_flags flags prefix rest parts s other is) =
    prefix_read flags octets prefix rest parts s ∙ rw (ne_eqb (flags % 4) 0 other) (ap (λ d. Err d) (sym is))
first_fault_of_header octets e (in_property flags prefix rest parts s clear t) =
    let end = length octets in
    let long = prefix_long flags prefix s in
    let total : length octets ≡ length prefix + length rest = ap length parts ∙ length-append prefix rest in
    let beyond : length rest ≡ length t.prefix + length t.rest = ap length t.octets_are ∙ length-append t.prefix t.rest in
    let at : 14 + length t.prefix ≡ place end t.rest = omega arith in
    let fault = subst (λ p. FaultInField t.here 0 p t.rest e) at t.fault_is in
    let fails : properties_at property_kinds flags end rest ≡ Err e =
    ap (λ (o : List ℕ). properties_at property_kinds flags end o) t.octets_are
    ∙ properties_at-fails t.properties property_kinds t.here t.after flags end t.prefix t.rest e t.flagged t.next_is t.flag_is t.encoded fault in
    prefix_read flags octets prefix rest parts s ∙ rw (clear, fails) refl
first_fault_of_header octets e (header_trailing h prefix rest parts s long is) =
    let end = length octets in
    let first = s.class ++ (s.weight ++ (s.size ++ s.flags)) in
    let all : octets ≡ first ++ (s.rest ++ rest) = parts ∙ ap (λ (o : List ℕ). o ++ rest) s.octets_are ∙ simp append_assoc in
    let encoded : EncodesPrefix (flags_of h.properties) first =
    record { body_size = h.body_size; class = s.class; weight = s.weight; size = s.size; word = s.flags; octets_are = refl; class_is = s.class_is; weight_is = s.weight_is; size_is = s.size_is; flags_are = s.flags_are } in
    let small : flags_of h.properties < 2 ^ 16 = omega (arith, s.flags_are.fits) in
    let properties = properties_at-again h.properties property_kinds (flags_of h.properties) end s.rest rest s.kinds_are (mod-eq_of_lt small) s.encoded in
    prefix_read (flags_of h.properties) octets first (s.rest ++ rest) all encoded
    ∙ rw (flags_of-clear h.properties, properties, whole-fails end (header h.body_size h.properties) rest long)
    (ap (λ d. Err d) (fault_place (length prefix) end rest Trailing (place_after octets prefix rest parts) ∙ sym is))

-- ---- as clauses of a call that gives what reading gives

pub header_fault : {X : Type 0} (view : X → ContentHeader) (octets : List ℕ) (r : Result X MethodFault) → IsBytes octets → Gives view r (header_at octets) → IfErr r (λ e. (e ≡ out_of_memory) ⊎ FirstFaultOfHeader octets e)
header_fault view octets (Ok x) fits given = tt
header_fault view octets (Err e) fits (inl memory) = inl memory
header_fault view octets (Err e) fits (inr is) = inr (header_at-told octets e fits is)

-- A fault in a table stands no further than the end of the octets.
use Rattle.std.proofs.Common.{◌≡◌, ℕ, zero, suc, ◌+◌, ◌-◌, ◌≤◌, cond, ltb, List, [], ◌∷◌, length, take, drop, Bool, true, false, Option, Some, None, Result, Ok, Err, refl, arith}
use Rattle.std.proofs.lemmas.Bool.{ltb-false}
use Rattle.byteorder.specs.Endian.{big_number}
use Rattle.amqp_value.specs.Reading.{◌>>=◌, Reader, fault_here, prefix_of, counted, name_at, tag_of, width_of, many, elements, named, after_tag, tagged, value_at, table_at}
use Rattle.amqp_value.specs.Values.{Datum}
use Rattle.amqp_value.specs.declared.fault.ValueFault.{ValueFault}
use Rattle.amqp_value.specs.declared.fault.ValueFaultKind.{ValueFaultKind}
use Rattle.amqp_value.specs.declared.fault.ValueFaultKind.TheVariants.{UnknownTag, PassesItsEnd, TooDeep}
use Rattle.amqp_value.specs.declared.tag.Tag.{Tag}
use Rattle.amqp_value.specs.declared.tag.Tag.TheVariants.{Fixed, LongString, ByteArray, Array, Table}

-- where an answer is a fault, its place is no further than this
abbrev IsWithin : {A : Type 0} → ℕ → Result A ValueFault → Type 0
IsWithin end (Ok x) = Unit {0}
IsWithin end (Err e) = e.at ≤ end

bind_within : {A B : Type 0} (end : ℕ) (r : Result A ValueFault) (f : A → Result B ValueFault) → IsWithin end r → ((x : A) → IsWithin end (f x)) → IsWithin end (r >>= f)
bind_within end (Ok x) f h k = k x
bind_within end (Err e) f h k = h

cond_within : {A : Type 0} (end : ℕ) (b : Bool) (x y : Result A ValueFault) → IsWithin end x → IsWithin end y → IsWithin end (cond b x y)
cond_within end true x y h k = h
cond_within end false x y h k = k

test_within : {A : Type 0} (end : ℕ) (b : Bool) (x y : Result A ValueFault) → (b ≡ true → IsWithin end x) → (b ≡ false → IsWithin end y) → IsWithin end (cond b x y)
test_within end true x y h k = h refl
test_within end false x y h k = k refl

further : {A : Type 0} (m n : ℕ) (r : Result A ValueFault) → m ≤ n → IsWithin m r → IsWithin n r
further m n (Ok x) le h = tt
further m n (Err e) le h = omega arith

here_within : (end : ℕ) (octets : List ℕ) (kind : ValueFaultKind) → (fault_here end octets kind).at ≤ end
here_within end octets kind = omega arith

prefix_of-within : (n end : ℕ) (octets : List ℕ) → IsWithin end (prefix_of n end octets)
prefix_of-within n end octets = cond_within end (ltb (length octets) n) _ _ (here_within end octets PassesItsEnd) tt

counted-within : (end : ℕ) (octets : List ℕ) → IsWithin end (counted end octets)
counted-within end octets =
    cond_within end (ltb (length octets) 4) _ _ (here_within end octets PassesItsEnd)
    (cond_within end (ltb (length octets - 4) (big_number 4 octets)) _ _ (here_within end octets PassesItsEnd) tt)

name_at-within : (end : ℕ) (octets : List ℕ) → IsWithin end (name_at end octets)
name_at-within end [] = here_within end [] PassesItsEnd
name_at-within end (n ∷ octets) = cond_within end (ltb (length octets) n) _ _ (here_within end (n ∷ octets) PassesItsEnd) tt

record Stays {X : Type 0} (read : Reader X) : Type 0 where
  within : (end : ℕ) (octets : List ℕ) → IsWithin end (read end octets)

many-within : {X : Type 0} (read : Reader X) → Stays read → (fuel end : ℕ) (octets : List ℕ) → IsWithin end (many read fuel end octets)
unfolding many
many-within read stays fuel end [] = tt
many-within read stays zero end (x ∷ octets) = tt
many-within read stays (suc fuel) end (x ∷ octets) =
    bind_within end (read end (x ∷ octets)) _ (stays.within end (x ∷ octets))
    (λ first. bind_within end (many read fuel end first.1) _ (many-within read stays fuel end first.1) (λ others. tt))

elements-within : {X : Type 0} (read : Reader X) → Stays read → (end : ℕ) (octets : List ℕ) → IsWithin end (elements read end octets)
unfolding elements
elements-within read stays end octets = many-within read stays (length octets) end octets

named-stays : {X : Type 0} (read : Reader X) → Stays read → Stays (named read)
unfolding named
named-stays read stays = record {
  within = λ end octets.
      bind_within end (name_at end octets) _ (name_at-within end octets) (λ name. bind_within end (read end name.1) _ (stays.within end name.1) (λ value. tt));
}

bare_within : (end : ℕ) (octets rest : List ℕ) (found : Option Tag) → IsWithin end (after_tag None end octets rest found)
unfolding after_tag
bare_within end octets rest None = here_within end octets UnknownTag
bare_within end octets rest (Some (Fixed tag)) = bind_within end (prefix_of (width_of tag) end rest) _ (prefix_of-within (width_of tag) end rest) (λ field. tt)
bare_within end octets rest (Some LongString) = bind_within end (counted end rest) _ (counted-within end rest) (λ text. tt)
bare_within end octets rest (Some ByteArray) = bind_within end (counted end rest) _ (counted-within end rest) (λ text. tt)
bare_within end octets rest (Some Array) = here_within end octets TooDeep
bare_within end octets rest (Some Table) = here_within end octets TooDeep

nested_within : (read : Reader Datum) → Stays read → (end : ℕ) (octets rest : List ℕ) (found : Option Tag) → IsWithin end (after_tag (Some read) end octets rest found)
unfolding after_tag
nested_within read stays end octets rest None = here_within end octets UnknownTag
nested_within read stays end octets rest (Some (Fixed tag)) = bind_within end (prefix_of (width_of tag) end rest) _ (prefix_of-within (width_of tag) end rest) (λ field. tt)
nested_within read stays end octets rest (Some LongString) = bind_within end (counted end rest) _ (counted-within end rest) (λ text. tt)
nested_within read stays end octets rest (Some ByteArray) = bind_within end (counted end rest) _ (counted-within end rest) (λ text. tt)
nested_within read stays end octets rest (Some Array) =
    bind_within end (counted end rest) _ (counted-within end rest)
    (λ body. bind_within end (elements read (end - length body.1) body.0) _
    (further (end - length body.1) end (elements read (end - length body.1) body.0) (omega arith) (elements-within read stays (end - length body.1) body.0)) (λ values. tt))
nested_within read stays end octets rest (Some Table) =
    bind_within end (counted end rest) _ (counted-within end rest)
    (λ body. bind_within end (elements (named read) (end - length body.1) body.0) _
    (further (end - length body.1) end (elements (named read) (end - length body.1) body.0) (omega arith) (elements-within (named read) (named-stays read stays) (end - length body.1) body.0)) (λ pairs. tt))

bare-tagged : (end : ℕ) (octets : List ℕ) → IsWithin end (tagged None end octets)
unfolding tagged
bare-tagged end [] = here_within end [] PassesItsEnd
bare-tagged end (x ∷ rest) = bare_within end (x ∷ rest) rest (tag_of x)

nested-tagged : (read : Reader Datum) → Stays read → (end : ℕ) (octets : List ℕ) → IsWithin end (tagged (Some read) end octets)
unfolding tagged
nested-tagged read stays end [] = here_within end [] PassesItsEnd
nested-tagged read stays end (x ∷ rest) = nested_within read stays end (x ∷ rest) rest (tag_of x)

value_at-stays : (levels : ℕ) → Stays (value_at levels)
unfolding value_at
value_at-stays zero = record { within = bare-tagged }
value_at-stays (suc levels) = record { within = nested-tagged (value_at levels) (value_at-stays levels) }

table_at-within : (octets : List ℕ) → IsWithin (length octets) (table_at octets)
unfolding table_at
table_at-within octets =
    test_within (length octets) (ltb (length octets) 4) _ _ (λ _. omega arith)
    (λ e. test_within (length octets) (ltb (length octets - 4) (big_number 4 octets)) _ _ (λ _. omega arith)
    (λ f.
    let four : 4 ≤ length octets = ltb-false _ _ e in
    let count : big_number 4 octets ≤ length octets - 4 = ltb-false _ _ f in
    let read = elements (named (value_at 31)) (4 + big_number 4 octets) (take (big_number 4 octets) (drop 4 octets)) in
    bind_within (length octets) read _
    (further (4 + big_number 4 octets) (length octets) read (omega arith) (elements-within (named (value_at 31)) (named-stays (value_at 31) (value_at-stays 31)) (4 + big_number 4 octets) (take (big_number 4 octets) (drop 4 octets))))
    (λ pairs. tt)))

pub table_fault-within : (octets : List ℕ) (e : ValueFault) → table_at octets ≡ Err e → e.at ≤ length octets
table_fault-within octets e is = rw is at (table_at-within octets)

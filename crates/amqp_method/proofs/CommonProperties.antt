-- The properties that most headers have, checked without a walk over all.
use Rattle.std.proofs.Common.{◌≡◌, ℕ, ◌+◌, ◌%◌, ◌==◌, List, [], ◌∷◌, length, drop, Bool, true, Ok, Err, Result, refl, ap, subst, sym, ◌∙◌, arith}
use Rattle.std.specs.Prelude.{IsTrue}
use Rattle.std.proofs.lemmas.Bool.Decides.{nat_tests}
use Rattle.amqp_value.specs.Checking.{measured}
use Rattle.amqp_value.specs.Reading.{◌>>=◌, table_at}
use Rattle.amqp_method.specs.Checking.{past_field}
use Rattle.amqp_method.specs.HeaderChecking.{kind_at}
use Rattle.amqp_method.specs.HeaderReading.{has_flag, optional_at, properties_at}
use Rattle.amqp_method.specs.Properties.{property_kinds}
use Rattle.amqp_method.specs.Reading.{Read, rest_of, field_table_at}
use Rattle.amqp_method.specs.declared.faults.MethodFault.{MethodFault}
use Rattle.amqp_method.specs.declared.fields.FieldKind.TheVariants.{Table}
use Rattle.amqp_method.proofs.CheckLemmas.{table_measured}
use Rattle.amqp_method.proofs.HeaderChecks.{past_next, there_after}
use Rattle.amqp_method.proofs.HeaderLemmas.{none_there, no_later}

abbrev no_bits_after : {X : Type 0} → Read X → Read ℕ
no_bits_after read = read >>= λ x. Ok (0, x.1)

abbrev no_bits_before : Result (List ℕ) MethodFault → Read ℕ
no_bits_before rest = rest >>= λ a. Ok (0, a)

run_past : {X : Type 0} (read : Read X) (after : List ℕ) → rest_of read ≡ Ok after → no_bits_after read ≡ Ok (0, after)
run_past (Ok x) after is = ap no_bits_before is
run_past (Err e) after is = absurd cc

table_past : (end n : ℕ) (octets : List ℕ) → Ok n ≡ measured (table_at octets) → past_field Table 0 end octets ≡ Ok (0, drop n octets)
unfolding past_field
table_past end n octets is = run_past (field_table_at end octets) (drop n octets) (table_measured end n octets is)

pub headers_past : (flag flags end n : ℕ) (octets after : List ℕ) → flag + 2 ≡ 15 → has_flag flag flags ≡ true → Ok n ≡ measured (table_at octets) → after ≡ drop n octets
    → rest_of (optional_at (has_flag 13 flags) (kind_at 2) end octets) ≡ Ok after
headers_past flag flags end n octets after at set is begins =
    there_after 2 flag flags end 0 Table octets after at refl set (table_past end n octets is ∙ ap (λ (o : List ℕ). Ok (0, o)) (sym begins))

-- no more than the first five
pub earlier_past : (flags end : ℕ) (octets first second third fourth fifth : List ℕ) → flags % 2048 ≡ 0
    → rest_of (optional_at (has_flag 15 flags) (kind_at 0) end octets) ≡ Ok first
    → rest_of (optional_at (has_flag 14 flags) (kind_at 1) end first) ≡ Ok second
    → rest_of (optional_at (has_flag 13 flags) (kind_at 2) end second) ≡ Ok third
    → rest_of (optional_at (has_flag 12 flags) (kind_at 3) end third) ≡ Ok fourth
    → rest_of (optional_at (has_flag 11 flags) (kind_at 4) end fourth) ≡ Ok fifth
    → rest_of (properties_at property_kinds flags end octets) ≡ Ok fifth
earlier_past flags end octets first second third fourth fifth low one two three four five =
    past_next 0 flags end octets first (omega arith) one ∙ past_next 1 flags end first second (omega arith) two
    ∙ past_next 2 flags end second third (omega arith) three ∙ past_next 3 flags end third fourth (omega arith) four
    ∙ past_next 4 flags end fourth fifth (omega arith) five ∙ ap rest_of (no_later flags end fifth low)

zero_is : (n : ℕ) → IsTrue (n == 0) → n ≡ 0
zero_is n h = grind (arith, nat_tests)

empty_is : (octets : List ℕ) → IsTrue (length octets == 0) → octets ≡ []
empty_is [] h = refl
empty_is (first ∷ others) h = absurd (omega (arith, zero_is (length (first ∷ others)) h))

-- nothing is left after them
pub none_after : (read : Result (List ℕ) MethodFault) (after : List ℕ) (empty : Bool) → read ≡ Ok after → empty ≡ (length after == 0) → IsTrue empty → read ≡ Ok []
none_after read after empty is ends holds = is ∙ ap (λ (o : List ℕ). Ok o) (empty_is after (subst IsTrue ends holds))

pub none_common : (flags end : ℕ) (octets : List ℕ) (empty : Bool) → flags ≡ 0 → empty ≡ (length octets == 0) → IsTrue empty
    → rest_of (properties_at property_kinds flags end octets) ≡ Ok []
none_common flags end octets empty none ends holds =
    none_after (rest_of (properties_at property_kinds flags end octets)) octets empty
    (ap (λ (f : ℕ). rest_of (properties_at property_kinds f end octets)) none ∙ ap rest_of (none_there end octets)) ends holds

-- Content headers that are read in one walk.
use Rattle.std.proofs.Common.{◌≡◌, ◌==◌, ℕ, List, [], ◌∷◌, length, drop, Option, Some, None, Ok, Result, refl, sym, ap, ◌∙◌, arith}
use Rattle.std.specs.Prelude.{IsTrue, replicate}
use Rattle.std.proofs.lemmas.Bool.{eqb-true}
use Rattle.std.proofs.lemmas.List.{drop_all}
use Rattle.amqp_value.specs.Reading.{◌>>=◌, table_at}
use Rattle.amqp_value.specs.Values.{Pairs}
use Rattle.amqp_value.specs.Tables.{table_view}
use Rattle.amqp_value.specs.declared.fault.ValueFault.{ValueFault}
use Rattle.amqp_value.specs.declared.tables.Table.{Table as Owned}
use Rattle.amqp_method.specs.Arguments.{Argument, table}
use Rattle.amqp_method.specs.HeaderChecking.{Starts}
use Rattle.amqp_method.specs.HeaderReading.{optional_at, properties_at, header_at}
use Rattle.amqp_method.specs.HeaderView.{headers_alone}
use Rattle.amqp_method.specs.Properties.{header, property_kinds}
use Rattle.amqp_method.specs.Reading.{Read, no_bits, after_table, ends_run, field_at, whole}
use Rattle.amqp_method.specs.declared.fields.FieldKind.TheVariants.{Table}
use Rattle.amqp_method.proofs.KnownFields.{table_field}
use Rattle.amqp_method.proofs.HeaderLemmas.{none_there}

-- a field table that has all of the octets
whole_table : (end : ℕ) (octets : List ℕ) (pairs : Pairs) → table_at octets ≡ Ok (pairs, length octets)
    → field_at Table no_bits end octets ≡ Ok ((table pairs, no_bits), [])
whole_table end octets pairs is =
    let none : drop (length octets) octets ≡ [] = drop_all (length octets) octets (omega arith) in
    table_field no_bits end octets ∙ ap (λ (r : Result (Pairs × ℕ) ValueFault). ends_run table (after_table end octets r)) is
    ∙ ap (λ (o : List ℕ). Ok ((table pairs, no_bits), o)) none

-- the headers alone are flagged
alone_read : (end : ℕ) (octets : List ℕ) (pairs : Pairs) → table_at octets ≡ Ok (pairs, length octets)
    → properties_at property_kinds 8192 end octets ≡ Ok (None ∷ None ∷ Some (table pairs) ∷ replicate 11 None, [])
unfolding properties_at optional_at
alone_read end octets pairs is =
    rw (whole_table end octets pairs is) refl

pub table_read : (end flags size : ℕ) (octets : List ℕ) (headers : Owned) → flags ≡ 8192 → size ≡ length octets
    → table_at octets ≡ Ok (table_view headers, size)
    → properties_at property_kinds flags end octets ≡ Ok (headers_alone (Some headers), [])
table_read end flags size octets headers alone all is =
    ap (λ (f : ℕ). properties_at property_kinds f end octets) alone
    ∙ alone_read end octets (table_view headers) (is ∙ ap (λ (n : ℕ). Ok (table_view headers, n)) all)

pub empty_is : (octets : List ℕ) → IsTrue (length octets == 0) → octets ≡ []
empty_is [] ends = refl
empty_is (first ∷ others) ends = absurd (let none = eqb-true (length (first ∷ others)) 0 ends in omega arith)

-- nothing is flagged, and nothing is there
pub nothing_read : (end flags : ℕ) (octets : List ℕ) → flags ≡ 0 → octets ≡ []
    → properties_at property_kinds flags end octets ≡ Ok (headers_alone None, [])
nothing_read end flags octets none ends =
    ap (λ (f : ℕ). properties_at property_kinds f end octets) none ∙ none_there end octets
    ∙ ap (λ (o : List ℕ). Ok (replicate 14 None, o)) ends

-- ---- the whole header

pub known : (payload octets : List ℕ) (size flags : ℕ) (properties : List (Option Argument)) → Starts payload size flags
    → octets ≡ drop 14 payload → properties_at property_kinds flags (length payload) octets ≡ Ok (properties, [])
    → header_at payload ≡ Ok (header size properties)
known payload octets size flags properties starts begins is =
    starts.reads
    ∙ ap (λ (r : Read (List (Option Argument))). r >>= λ x. whole (length payload) (header size x.0) x.1)
    (ap (λ (o : List ℕ). properties_at property_kinds flags (length payload) o) (sym begins) ∙ is)

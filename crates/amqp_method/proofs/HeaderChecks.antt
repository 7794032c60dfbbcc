-- Checking a content header finds what reading it finds.
use Rattle.std.proofs.Common.{◌≡◌, ℕ, ◌+◌, ◌-◌, ◌<◌, List, [], ◌∷◌, length, drop, true, false, Option, Some, Ok, Err, Result, refl, sym, ap, ◌∙◌, drop-cons, add-one, arith}
use Rattle.std.specs.Prelude.{IfOk, IfErr}
use Rattle.std.proofs.lemmas.List.{length-drop}
use Rattle.amqp_value.specs.Reading.{◌>>=◌}
use Rattle.amqp_value.proofs.Numbers.{IsBytes}
use Rattle.amqp_method.specs.Arguments.{Argument}
use Rattle.amqp_method.specs.Checking.{past_field}
use Rattle.amqp_method.specs.FirstFault.{FirstFaultOfHeader}
use Rattle.amqp_method.specs.HeaderChecking.{kind_at, size_read, Starts}
use Rattle.amqp_method.specs.HeaderReading.{has_flag, optional_at, properties_at, header_at}
use Rattle.amqp_method.specs.Properties.{ContentHeader, header, EncodesHeader, property_kinds}
use Rattle.amqp_method.specs.Reading.{Read, Bits, no_bits, field_at, nothing_after, rest_of, whole}
use Rattle.amqp_method.specs.declared.faults.MethodFault.{MethodFault}
use Rattle.amqp_method.specs.declared.fields.FieldKind.{FieldKind}
use Rattle.amqp_method.specs.declared.fields.FieldKind.TheVariants.{Octet}
use Rattle.amqp_method.proofs.CheckLemmas.{left_and_rest, past_field_same}
use Rattle.amqp_method.proofs.FieldLemmas.{same_ok}
use Rattle.amqp_method.proofs.HeaderFaults.{header_at-told, first_fault_of_header}
use Rattle.amqp_method.proofs.HeaderLemmas.{header_at-takes, header_at-again}

-- ---- a property

rest_past : (read : Read (Argument × Bits)) → (left_and_rest read >>= λ x. Ok x.1) ≡ rest_of (read >>= λ x. Ok (Some x.0.0, x.1))
rest_past (Ok x) = refl
rest_past (Err e) = refl

-- the octets after a property that is there
pub past_there : (kind : FieldKind) (end : ℕ) (octets : List ℕ) → (past_field kind 0 end octets >>= λ x. Ok x.1) ≡ rest_of (optional_at true kind end octets)
unfolding optional_at
past_there kind end octets =
    ap (λ (r : Read ℕ). r >>= λ x. Ok x.1) (past_field_same kind no_bits end octets) ∙ rest_past (field_at kind no_bits end octets)

-- ---- the loop over the properties

pub kind_here : (i : ℕ) → i < 14 → drop i property_kinds ≡ kind_at i ∷ drop (i + 1) property_kinds
kind_here i h = rw (add-one, drop-cons property_kinds i Octet) refl

-- the octets after the others
abbrev past_others : List FieldKind → ℕ → ℕ → Read (Option Argument) → Result (List ℕ) MethodFault
past_others kinds flags end read = rest_of read >>= λ after. rest_of (properties_at kinds flags end after)

keeps : (p : Option Argument) (read : Read (List (Option Argument))) → rest_of (read >>= λ y. Ok (p ∷ y.0, y.1)) ≡ rest_of read
keeps p (Ok y) = refl
keeps p (Err e) = refl

past_first : (kinds : List FieldKind) (flags end : ℕ) (read : Read (Option Argument))
    → rest_of (read >>= λ x. (properties_at kinds flags end x.1 >>= λ y. Ok (x.0 ∷ y.0, y.1))) ≡ past_others kinds flags end read
past_first kinds flags end (Ok x) = keeps x.0 (properties_at kinds flags end x.1)
past_first kinds flags end (Err e) = refl

pub flag_of : (i : ℕ) → i < 14 → length (drop (i + 1) property_kinds) + 2 ≡ 15 - i
flag_of i h = omega (arith, length-drop (i + 1) property_kinds)

-- the octets after the properties from one on: those after it, and after the others
pub past_here : (i flags end : ℕ) (octets : List ℕ) → i < 14
    → rest_of (properties_at (drop i property_kinds) flags end octets)
    ≡ past_others (drop (i + 1) property_kinds) flags end (optional_at (has_flag (15 - i) flags) (kind_at i) end octets)
unfolding properties_at
past_here i flags end octets h =
    rw (kind_here i h)
    (past_first (drop (i + 1) property_kinds) flags end (optional_at (has_flag (length (drop (i + 1) property_kinds) + 2) flags) (kind_at i) end octets)
    ∙ ap (λ (n : ℕ). past_others (drop (i + 1) property_kinds) flags end (optional_at (has_flag n flags) (kind_at i) end octets)) (flag_of i h))

pub past_next : (i flags end : ℕ) (octets after : List ℕ) → i < 14 → rest_of (optional_at (has_flag (15 - i) flags) (kind_at i) end octets) ≡ Ok after
    → rest_of (properties_at (drop i property_kinds) flags end octets) ≡ rest_of (properties_at (drop (i + 1) property_kinds) flags end after)
past_next i flags end octets after h is =
    past_here i flags end octets h ∙ ap (λ (r : Result (List ℕ) MethodFault). r >>= λ a. rest_of (properties_at (drop (i + 1) property_kinds) flags end a)) is

pub past_fault : (i flags end : ℕ) (octets : List ℕ) (e : MethodFault) → i < 14 → rest_of (optional_at (has_flag (15 - i) flags) (kind_at i) end octets) ≡ Err e
    → rest_of (properties_at (drop i property_kinds) flags end octets) ≡ Err e
past_fault i flags end octets e h is =
    past_here i flags end octets h ∙ ap (λ (r : Result (List ℕ) MethodFault). r >>= λ a. rest_of (properties_at (drop (i + 1) property_kinds) flags end a)) is

-- ---- the whole

size_of_whole : (end size : ℕ) (properties : List (Option Argument)) (octets : List ℕ)
    → size_read (whole end (header size properties) octets) ≡ (nothing_after end octets >>= λ _. Ok size)
size_of_whole end size properties [] = refl
size_of_whole end size properties (first ∷ others) = refl

size_of_read : (end size : ℕ) (read : Read (List (Option Argument)))
    → size_read (read >>= λ x. whole end (header size x.0) x.1) ≡ (rest_of read >>= λ after. (nothing_after end after >>= λ _. Ok size))
size_of_read end size (Ok x) = size_of_whole end size x.0 x.1
size_of_read end size (Err e) = refl

-- the size that is read, where the octets after the properties are known
pub size_past : (payload : List ℕ) (size flags : ℕ) → Starts payload size flags
    → size_read (header_at payload)
    ≡ (rest_of (properties_at property_kinds flags (length payload) (drop 14 payload)) >>= λ after. (nothing_after (length payload) after >>= λ _. Ok size))
size_past payload size flags starts =
    ap size_read starts.reads ∙ size_of_read (length payload) size (properties_at property_kinds flags (length payload) (drop 14 payload))

pub size_fault : (payload rest : List ℕ) (size flags : ℕ) (e : MethodFault) → Starts payload size flags → rest ≡ drop 14 payload
    → rest_of (properties_at property_kinds flags (length payload) rest) ≡ Err e → size_read (header_at payload) ≡ Err e
size_fault payload rest size flags e starts begins is =
    size_past payload size flags starts
    ∙ ap (λ (r : Result (List ℕ) MethodFault). r >>= λ after. (nothing_after (length payload) after >>= λ _. Ok size))
    (ap (λ (o : List ℕ). rest_of (properties_at property_kinds flags (length payload) o)) (sym begins) ∙ is)

pub size_ends : (payload rest after : List ℕ) (size flags : ℕ) (ended : Result (Unit {0}) MethodFault) → Starts payload size flags → rest ≡ drop 14 payload
    → rest_of (properties_at property_kinds flags (length payload) rest) ≡ Ok after → nothing_after (length payload) after ≡ ended
    → size_read (header_at payload) ≡ (ended >>= λ _. Ok size)
size_ends payload rest after size flags ended starts begins is ends =
    size_past payload size flags starts
    ∙ ap (λ (r : Result (List ℕ) MethodFault). r >>= λ after. (nothing_after (length payload) after >>= λ _. Ok size))
    (ap (λ (o : List ℕ). rest_of (properties_at property_kinds flags (length payload) o)) (sym begins) ∙ is)
    ∙ ap (λ (r : Result (Unit {0}) MethodFault). r >>= λ _. Ok size) ends

-- ---- as clauses of the calls that check

header_of_size : (read : Result ContentHeader MethodFault) (size : ℕ) → size_read read ≡ Ok size → (properties : List (Option Argument)) × (read ≡ Ok (header size properties))
header_of_size (Ok h) size e = (h.properties, ap (λ (n : ℕ). Ok (header n h.properties)) (same_ok h.body_size size e))
header_of_size (Err e) size is = absurd cc

pub fault_of_size : (read : Result ContentHeader MethodFault) (e : MethodFault) → size_read read ≡ Err e → read ≡ Err e
fault_of_size (Ok h) e is = absurd cc
fault_of_size (Err f) e is = cc

ok_not_err : (h : ContentHeader) (e : MethodFault) → Ok h ≡ Err e → ⊥
ok_not_err h e is = cc

pub check_found : (octets : List ℕ) (r : Result ℕ MethodFault) → IsBytes octets → r ≡ size_read (header_at octets)
    → IfOk r (λ size. (properties : List (Option Argument)) × EncodesHeader (header size properties) octets)
check_found octets (Ok size) fits is =
    let read = header_of_size (header_at octets) size (sym is) in
    (read.0, header_at-takes octets (header size read.0) fits read.1)
check_found octets (Err e) fits is = tt

pub check_only : (octets : List ℕ) (r : Result ℕ MethodFault) → r ≡ size_read (header_at octets) → (h : ContentHeader) → EncodesHeader h octets → r ≡ Ok h.body_size
check_only octets r is h s = is ∙ ap size_read (header_at-again octets h s)

pub check_refused : (octets : List ℕ) (r : Result ℕ MethodFault) → r ≡ size_read (header_at octets) → IfErr r (λ e. (h : ContentHeader) → EncodesHeader h octets → ⊥)
check_refused octets (Ok size) is = tt
check_refused octets (Err e) is = λ h s. ok_not_err h e (sym (header_at-again octets h s) ∙ fault_of_size (header_at octets) e (sym is))

pub check_fault : (octets : List ℕ) (r : Result ℕ MethodFault) → IsBytes octets → r ≡ size_read (header_at octets) → IfErr r (λ e. FirstFaultOfHeader octets e)
check_fault octets (Ok size) fits is = tt
check_fault octets (Err e) fits is = header_at-told octets e fits (fault_of_size (header_at octets) e (sym is))

pub check_told : (octets : List ℕ) (r : Result ℕ MethodFault) → r ≡ size_read (header_at octets) → (e : MethodFault) → FirstFaultOfHeader octets e → r ≡ Err e
check_told octets r is e f = is ∙ ap size_read (first_fault_of_header octets e f)

-- ---- a property of a place, by its flag

pub flag_at : (place flag : ℕ) → flag + place ≡ 15 → 15 - place ≡ flag
flag_at place flag h = omega (arith, h)

pub not_there : (place flag flags end : ℕ) (octets : List ℕ) → flag + place ≡ 15 → has_flag flag flags ≡ false
    → rest_of (optional_at (has_flag (15 - place) flags) (kind_at place) end octets) ≡ Ok octets
unfolding optional_at
not_there place flag flags end octets at unset = rw (flag_at place flag at, unset) refl

pub there_as : (place flag flags end : ℕ) (kind : FieldKind) (octets : List ℕ) → flag + place ≡ 15 → kind ≡ kind_at place → has_flag flag flags ≡ true
    → rest_of (optional_at (has_flag (15 - place) flags) (kind_at place) end octets) ≡ (past_field kind 0 end octets >>= λ x. Ok x.1)
there_as place flag flags end kind octets at is set = rw (flag_at place flag at, set, is) (sym (past_there (kind_at place) end octets))

pub there_after : (place flag flags end left : ℕ) (kind : FieldKind) (octets after : List ℕ) → flag + place ≡ 15 → kind ≡ kind_at place → has_flag flag flags ≡ true
    → past_field kind 0 end octets ≡ Ok (left, after) → rest_of (optional_at (has_flag (15 - place) flags) (kind_at place) end octets) ≡ Ok after
there_after place flag flags end left kind octets after at is set past =
    there_as place flag flags end kind octets at is set ∙ ap (λ (r : Read ℕ). r >>= λ x. Ok x.1) past

pub there_fault : (place flag flags end : ℕ) (kind : FieldKind) (octets : List ℕ) (e : MethodFault) → flag + place ≡ 15 → kind ≡ kind_at place → has_flag flag flags ≡ true
    → past_field kind 0 end octets ≡ Err e → rest_of (optional_at (has_flag (15 - place) flags) (kind_at place) end octets) ≡ Err e
there_fault place flag flags end kind octets e at is set past =
    there_as place flag flags end kind octets at is set ∙ ap (λ (r : Read ℕ). r >>= λ x. Ok x.1) past

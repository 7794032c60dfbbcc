-- The methods that most are, checked by calls for their fields.
use Rattle.std.proofs.Common.{◌≡◌, ℕ, List, [], ◌∷◌, length, Option, Some, Ok, Err, Result, ap, ◌∙◌}
use Rattle.std.specs.Prelude.{IfSome}
use Rattle.std.specs.Result.{result_ok}
use Rattle.amqp_value.specs.Reading.{◌>>=◌}
use Rattle.amqp_method.specs.Checking.{kind_read, past_field, past_fields}
use Rattle.amqp_method.specs.Kinds.{fields_of, kind_with}
use Rattle.amqp_method.specs.Methods.{FieldRow, row}
use Rattle.amqp_method.specs.Reading.{Read, Equals, read_number, nothing_after, call_at, method_at}
use Rattle.amqp_method.specs.declared.faults.MethodFault.{MethodFault}
use Rattle.amqp_method.specs.declared.fields.FieldKind.TheVariants.{Bit, Short, LongLong, ShortStr}
use Rattle.amqp_method.specs.declared.kinds.Kind.{Kind}
use Rattle.amqp_method.specs.declared.kinds.Kind.TheVariants.{BasicPublish, BasicDeliver, BasicAck}
use Rattle.amqp_method.proofs.CheckLemmas.{kind_past}
use Rattle.amqp_method.proofs.KindLemmas.{kind_with-own}

-- ---- one field after another

past_first : (f : FieldRow) (fields : List FieldRow) (left end more : ℕ) (octets after : List ℕ)
    → past_field f.kind left end octets ≡ Ok (more, after) → past_fields (f ∷ fields) left end octets ≡ past_fields fields more end after
unfolding past_fields
past_first f fields left end more octets after is = ap (λ (r : Read ℕ). r >>= λ x. past_fields fields x.0 end x.1) is

past_last : (f : FieldRow) (left end more : ℕ) (octets after : List ℕ)
    → past_field f.kind left end octets ≡ Ok (more, after) → past_fields (f ∷ []) left end octets ≡ Ok after
unfolding past_fields
past_last f left end more octets after is = ap (λ (r : Read ℕ). r >>= λ x. past_fields [] x.0 end x.1) is

-- ---- nothing after the last

kind_ends : (end : ℕ) (kind : Kind) (octets after : List ℕ) (ended : Result (Unit {0}) MethodFault)
    → past_fields (fields_of kind) 0 end octets ≡ Ok after → Equals (λ x. x) ended (nothing_after end after)
    → IfSome (result_ok ended) (λ done. kind_read (call_at end octets (Some kind)) ≡ Ok kind)
kind_ends end kind octets after (Ok done) past ends =
    kind_past end kind octets
    ∙ ap (λ (p : Result (List ℕ) MethodFault). p >>= λ after. (nothing_after end after >>= λ _. Ok kind)) past
    ∙ ap (λ (n : Result (Unit {0}) MethodFault). n >>= λ _. Ok kind) ends
kind_ends end kind octets after (Err e) past ends = tt

pub ack_ends : (end a b : ℕ) (octets first second : List ℕ) (ended : Result (Unit {0}) MethodFault)
    → past_field LongLong 0 end octets ≡ Ok (a, first) → past_field Bit a end first ≡ Ok (b, second)
    → Equals (λ x. x) ended (nothing_after end second)
    → IfSome (result_ok ended) (λ done. kind_read (call_at end octets (Some BasicAck)) ≡ Ok BasicAck)
ack_ends end a b octets first second ended one two ends =
    kind_ends end BasicAck octets second ended
    (past_first _ _ 0 end a octets first one ∙ past_last _ a end b first second two)
    ends

pub publish_ends : (end a b c d e : ℕ) (octets first second third fourth fifth : List ℕ) (ended : Result (Unit {0}) MethodFault)
    → past_field Short 0 end octets ≡ Ok (a, first) → past_field ShortStr a end first ≡ Ok (b, second)
    → past_field ShortStr b end second ≡ Ok (c, third) → past_field Bit c end third ≡ Ok (d, fourth)
    → past_field Bit d end fourth ≡ Ok (e, fifth)
    → Equals (λ x. x) ended (nothing_after end fifth)
    → IfSome (result_ok ended) (λ done. kind_read (call_at end octets (Some BasicPublish)) ≡ Ok BasicPublish)
publish_ends end a b c d e octets first second third fourth fifth ended one two three four five ends =
    kind_ends end BasicPublish octets fifth ended
    (past_first _ _ 0 end a octets first one ∙ past_first _ _ a end b first second two ∙ past_first _ _ b end c second third three
    ∙ past_first _ _ c end d third fourth four ∙ past_last _ d end e fourth fifth five)
    ends

pub deliver_ends : (end a b c d e : ℕ) (octets first second third fourth fifth : List ℕ) (ended : Result (Unit {0}) MethodFault)
    → past_field ShortStr 0 end octets ≡ Ok (a, first) → past_field LongLong a end first ≡ Ok (b, second)
    → past_field Bit b end second ≡ Ok (c, third) → past_field ShortStr c end third ≡ Ok (d, fourth)
    → past_field ShortStr d end fourth ≡ Ok (e, fifth)
    → Equals (λ x. x) ended (nothing_after end fifth)
    → IfSome (result_ok ended) (λ done. kind_read (call_at end octets (Some BasicDeliver)) ≡ Ok BasicDeliver)
deliver_ends end a b c d e octets first second third fourth fifth ended one two three four five ends =
    kind_ends end BasicDeliver octets fifth ended
    (past_first _ _ 0 end a octets first one ∙ past_first _ _ a end b first second two ∙ past_first _ _ b end c second third three
    ∙ past_first _ _ c end d third fourth four ∙ past_last _ d end e fourth fifth five)
    ends

-- ---- the whole

same_some : {X : Type 0} (x y : X) → Some x ≡ Some y → y ≡ x
same_some x y e = cc

-- what is read, where a call answers it
pub read_there : {X Y : Type 0} (view : X → Y) (r : Result X MethodFault) (x : X) (read : Result Y MethodFault)
    → Equals view r read → Some x ≡ result_ok r → read ≡ Ok (view x)
read_there view (Ok y) x read is there = is ∙ ap (λ z. Ok (view z)) (same_some x y there)
read_there view (Err e) x read is there = absurd cc

pub method_read : (octets first second : List ℕ) (class id : ℕ) (kind : Kind)
    → read_number 2 (length octets) octets ≡ Ok (class, first) → read_number 2 (length octets) first ≡ Ok (id, second)
    → class ≡ (row kind).class → id ≡ (row kind).id
    → kind_read (call_at (length octets) second (Some kind)) ≡ Ok kind → kind_read (method_at octets) ≡ Ok kind
unfolding method_at
method_read octets first second class id kind one two class_is id_is read =
    ap (λ (r : Read ℕ). kind_read (r >>= λ c. (read_number 2 (length octets) c.1 >>= λ i. call_at (length octets) i.1 (kind_with c.0 i.0)))) one
    ∙ ap (λ (r : Read ℕ). kind_read (r >>= λ i. call_at (length octets) i.1 (kind_with class i.0))) two
    ∙ ap (λ (n : ℕ). kind_read (call_at (length octets) second (kind_with n id))) class_is
    ∙ ap (λ (n : ℕ). kind_read (call_at (length octets) second (kind_with (row kind).class n))) id_is
    ∙ ap (λ (k : Option Kind). kind_read (call_at (length octets) second k)) (kind_with-own kind)
    ∙ read

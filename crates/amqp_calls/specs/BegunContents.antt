-- Contents that C begins through a lending end behind a handle. Read before: what it is that such an end begins one
-- (`LentAsks` of `amqp_core`), and what a content behind a handle is (`Contents`).
use Rattle.std.specs.Prelude.{◌≡◌, ◌<◌, ℕ, List, [], length, true, false, Option, Some, None, Result, Ok, Err, IfOk}
use Rattle.amqp_method.specs.Arguments.{Argument, Call}
use Rattle.amqp_method.specs.Encoding.{EncodesMethod}
use Rattle.amqp_method.specs.FirstFault.{FirstFaultOfHeader, FirstFaultOfMethod}
use Rattle.amqp_method.specs.Kinds.{has_content}
use Rattle.amqp_method.specs.Properties.{ContentHeader, EncodesHeader}
use Rattle.amqp_outbox.specs.BodyToCome.{octets_left}
use Rattle.amqp_outbox.specs.declared.body.BodyWriter.{BodyWriter}
use Rattle.amqp_core.specs.Asks.Outcomes.{content_asked}
use Rattle.amqp_core.specs.Stream.LentAsks.{Begins, LendsContent}
use Rattle.amqp_core.specs.declared.faults.LendFault.{LendFault}
use Rattle.amqp_core.specs.declared.faults.LendFault.TheVariants as faults
use Rattle.amqp_core.specs.declared.roles.Role.{Ghosts}
use Rattle.amqp_core.specs.declared.stream.StreamEnd.{StreamEnd}
use Rattle.amqp_handle.specs.declared.content.Content.{Content}
use Rattle.amqp_handle.specs.declared.held.Held.{Held}
use Rattle.amqp_handle.specs.declared.held.Held.TheVariants as held
use Rattle.amqp_handle.specs.declared.kept.HeldEnd.{HeldEnd}
use Rattle.amqp_handle.specs.declared.kept.Kept.{Kept}
use Rattle.amqp_calls.specs.Contents.{body_left}
use Rattle.amqp_calls.specs.EndNumbers.{ask_status}
use Rattle.amqp_calls.specs.HeldEnds.{Does}
use Rattle.amqp_calls.specs.Messages.{unmade_status, NotRead}
use Rattle.amqp_calls.specs.declared.ends.messages.Unmade.{Unmade}

abbrev pub lend_status : LendFault → ℕ
lend_status (faults.Refused fault) = ask_status fault
lend_status faults.Waits = 11

-- the writer is kept, or the content keeps the one that it had
abbrev pub ToldBegun : Result BodyWriter LendFault → ℕ → (old new : Content) → Type 0
ToldBegun (Ok writer) status old new = (status ≡ 0) × (new.writer ≡ Some writer)
ToldBegun (Err fault) status old new =
    (status ≡ lend_status fault) × (new.writer ≡ old.writer) × (new.octets.items ≡ [])

-- an end begins a content with a body of so many octets
pub record BeginsKept {R H : Type 0} {G : Ghosts R H} (old : Kept (StreamEnd R H G)) (before : Content)
    (channel : ℕ) (call : Call) (size : ℕ) (properties : List (Option Argument)) (status : ℕ)
    (new : Kept (StreamEnd R H G)) (after : Content) : Type 0 where
  -- it answers this, and is left so: whatever the body will be, the content is put and counts as written
  pub answer : Result BodyWriter LendFault
  pub begins : (body : List ℕ) → length body ≡ size
      → LendsContent old.end.value (content_asked channel call properties body) (Begins [] after.octets.items body)
      answer new.end.value
  pub left : IfOk answer (λ writer. octets_left writer ≡ size)
  -- the answer is told, and the writer is kept
  pub told : ToldBegun answer status before after
  -- what is gathered stays
  pub gathering : new.gathering ≡ old.gathering

-- a content with this method: its header can't be read, and nothing changes; or it can, and the content is begun
pub data BeginsCall {R H : Type 0} {G : Ghosts R H} (old : Kept (StreamEnd R H G)) (before : Content)
    (channel : ℕ) (call : Call) (header_octets : List ℕ) (status : ℕ)
    (new : Kept (StreamEnd R H G)) (after : Content) : Type 0 where
  unread : (fault : Unmade) → NotRead (FirstFaultOfHeader header_octets) fault → status ≡ unmade_status fault
      → new ≡ old → after ≡ before → BeginsCall old before channel call header_octets status new after
  headed : (h : ContentHeader) → EncodesHeader h header_octets
      → BeginsKept old before channel call h.body_size h.properties status new after
      → BeginsCall old before channel call header_octets status new after

-- no content follows the method, and nothing changes; or one does
pub data BeginsAfter {R H : Type 0} {G : Ghosts R H} (old : Kept (StreamEnd R H G)) (before : Content)
    (channel : ℕ) (call : Call) (header_octets : List ℕ) (status : ℕ)
    (new : Kept (StreamEnd R H G)) (after : Content) : Type 0 where
  alone : status ≡ 9 → has_content call.kind ≡ false → new ≡ old → after ≡ before
      → BeginsAfter old before channel call header_octets status new after
  follows : has_content call.kind ≡ true → BeginsCall old before channel call header_octets status new after
      → BeginsAfter old before channel call header_octets status new after

-- Octets of the body that was begun are still to come, or the octets aren't a method, and nothing changes; or they are,
-- and the content is begun, if one follows the method.
pub data BeginsOne {R H : Type 0} {G : Ghosts R H} (old : Kept (StreamEnd R H G)) (before : Content)
    (channel : ℕ) (method_octets header_octets : List ℕ) (status : ℕ)
    (new : Kept (StreamEnd R H G)) (after : Content) : Type 0 where
  waits : status ≡ 11 → 0 < body_left before → new ≡ old → after ≡ before
      → BeginsOne old before channel method_octets header_octets status new after
  unread : (fault : Unmade) → NotRead (FirstFaultOfMethod method_octets) fault → status ≡ unmade_status fault
      → new ≡ old → after ≡ before → BeginsOne old before channel method_octets header_octets status new after
  read : (call : Call) → EncodesMethod call method_octets
      → BeginsAfter old before channel call header_octets status new after
      → BeginsOne old before channel method_octets header_octets status new after

-- with the content of an open handle; any other is refused
abbrev pub BeginsWith : {R H : Type 0} {G : Ghosts R H} → Kept (StreamEnd R H G) → Option Held → ℕ
    → (method_octets header_octets : List ℕ) → ℕ → Kept (StreamEnd R H G) → Option Held → Type 0
BeginsWith old None channel method header status new after = (status ≡ 1) × (new ≡ old) × (after ≡ None)
BeginsWith old (Some (held.Splitter s)) channel method header status new after =
    (status ≡ 3) × (new ≡ old) × (after ≡ Some (held.Splitter s))
BeginsWith old (Some (held.Content c)) channel method header status new None = ⊥
BeginsWith old (Some (held.Content c)) channel method header status new (Some (held.Splitter s)) = ⊥
BeginsWith old (Some (held.Content c)) channel method header status new (Some (held.Content now)) =
    BeginsOne old c channel method header status new now

-- by the end of an open handle
abbrev pub BeginsEnd : Option HeldEnd → Option Held → ℕ → (method_octets header_octets : List ℕ) → ℕ
    → Option HeldEnd → Option Held → Type 0
BeginsEnd old before channel method header status new after =
    Does status (λ R H G kept now. BeginsWith kept before channel method header status now after) old new
    × (old ≡ None → after ≡ before)

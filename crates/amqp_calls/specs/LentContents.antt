-- Contents that C has a lending end lend, for writes of several slices. Read before: what it is that such an end lends
-- one (`LentAsks` of `amqp_core`), and how a content is begun (`BegunContents`).
use Rattle.std.specs.Prelude.{◌≡◌, ◌≢◌, ◌<◌, ◌++◌, ℕ, List, [], ◌∷◌, length, take, drop, true, false, Option}
use Rattle.std.specs.Prelude.{Some, None, Result, Ok, Err, ◌⊎◌}
use Rattle.amqp_method.specs.Arguments.{Argument, Call}
use Rattle.amqp_method.specs.Encoding.{EncodesMethod}
use Rattle.amqp_method.specs.FirstFault.{FirstFaultOfHeader, FirstFaultOfMethod}
use Rattle.amqp_method.specs.Kinds.{has_content}
use Rattle.amqp_method.specs.Properties.{ContentHeader, EncodesHeader}
use Rattle.amqp_outbox.specs.LentFrames.{content_left}
use Rattle.amqp_outbox.specs.declared.lent.ContentFrames.{ContentFrames}
use Rattle.amqp_core.specs.Asks.Outcomes.{content_asked}
use Rattle.amqp_core.specs.Stream.LentAsks.{Lend, LendsContent}
use Rattle.amqp_core.specs.declared.faults.LendFault.{LendFault}
use Rattle.amqp_core.specs.declared.roles.Role.{Ghosts}
use Rattle.amqp_core.specs.declared.stream.StreamEnd.{StreamEnd}
use Rattle.amqp_handle.specs.declared.content.Content.{Content}
use Rattle.amqp_handle.specs.declared.held.Held.{Held}
use Rattle.amqp_handle.specs.declared.held.Held.TheVariants as held
use Rattle.amqp_handle.specs.declared.kept.HeldEnd.{HeldEnd}
use Rattle.amqp_handle.specs.declared.kept.Kept.{Kept}
use Rattle.amqp_calls.specs.BegunContents.{lend_status}
use Rattle.amqp_calls.specs.Contents.{body_left}
use Rattle.amqp_calls.specs.HeldEnds.{Does}
use Rattle.amqp_calls.specs.Messages.{unmade_status, NotRead}
use Rattle.amqp_calls.specs.declared.ends.slices.Piece.{Piece}
use Rattle.amqp_calls.specs.declared.ends.messages.Unmade.{Unmade}

-- the octets of pieces, one after the other
abbrev pub joined : List Piece → List ℕ
joined [] = []
joined (piece ∷ pieces) = piece.octets.now ++ joined pieces

-- So many pieces of these octets stand in the first places, and the others stay. Status 12 says that there was no place
-- for the rest.
pub record Places (octets : List ℕ) (pieces : List Piece) (status count : ℕ) (now : List Piece) : Type 0 where
  pub rest : List ℕ
  pub joined_are : joined (take count now) ++ rest ≡ octets
  pub as_many : length now ≡ length pieces
  pub others : drop count now ≡ drop count pieces
  pub told : ((status ≡ 0) × (rest ≡ [])) ⊎ ((status ≡ 12) × (0 < length rest))

-- the frames are given piece by piece, or why they aren't
abbrev pub ToldLent : Result ContentFrames LendFault → (pieces : List Piece) → ℕ → (count : ℕ) → (now : List Piece)
    → Type 0
ToldLent (Ok frames) pieces status count now = Places (content_left frames) pieces status count now
ToldLent (Err fault) pieces status count now = (status ≡ lend_status fault) × (now ≡ pieces)

-- an end lends a content
pub record LendsKept {R H : Type 0} {G : Ghosts R H} (old : Kept (StreamEnd R H G)) (channel : ℕ) (call : Call)
    (properties : List (Option Argument)) (body : List ℕ) (pieces : List Piece) (status count : ℕ) (now : List Piece)
    (new : Kept (StreamEnd R H G)) : Type 0 where
  -- it answers this, and is left so: the content is put and counts as written
  pub answer : Result ContentFrames LendFault
  pub lends : LendsContent old.end.value (content_asked channel call properties body) Lend answer new.end.value
  -- the answer is told
  pub told : ToldLent answer pieces status count now
  -- what is gathered stays
  pub gathering : new.gathering ≡ old.gathering

-- the header says another size than the body's, and nothing changes; or the content is lent
pub data LendsSized {R H : Type 0} {G : Ghosts R H} (old : Kept (StreamEnd R H G)) (channel : ℕ) (call : Call)
    (h : ContentHeader) (body : List ℕ) (pieces : List Piece) (status count : ℕ) (now : List Piece)
    (new : Kept (StreamEnd R H G)) : Type 0 where
  other : h.body_size ≢ length body → status ≡ 9 → new ≡ old → now ≡ pieces
      → LendsSized old channel call h body pieces status count now new
  sized : h.body_size ≡ length body → LendsKept old channel call h.properties body pieces status count now new
      → LendsSized old channel call h body pieces status count now new

-- the header can't be read, or it can
pub data LendsCall {R H : Type 0} {G : Ghosts R H} (old : Kept (StreamEnd R H G)) (channel : ℕ) (call : Call)
    (header_octets body : List ℕ) (pieces : List Piece) (status count : ℕ) (now : List Piece)
    (new : Kept (StreamEnd R H G)) : Type 0 where
  unread : (fault : Unmade) → NotRead (FirstFaultOfHeader header_octets) fault → status ≡ unmade_status fault
      → new ≡ old → now ≡ pieces → LendsCall old channel call header_octets body pieces status count now new
  headed : (h : ContentHeader) → EncodesHeader h header_octets
      → LendsSized old channel call h body pieces status count now new
      → LendsCall old channel call header_octets body pieces status count now new

-- no content follows the method, or one does
pub data LendsAfter {R H : Type 0} {G : Ghosts R H} (old : Kept (StreamEnd R H G)) (channel : ℕ) (call : Call)
    (header_octets body : List ℕ) (pieces : List Piece) (status count : ℕ) (now : List Piece)
    (new : Kept (StreamEnd R H G)) : Type 0 where
  alone : status ≡ 9 → has_content call.kind ≡ false → new ≡ old → now ≡ pieces
      → LendsAfter old channel call header_octets body pieces status count now new
  follows : has_content call.kind ≡ true → LendsCall old channel call header_octets body pieces status count now new
      → LendsAfter old channel call header_octets body pieces status count now new

-- Octets of the body that was begun with the content are still to come, or the method can't be read, and nothing
-- changes; or it can.
pub data LendsOne {R H : Type 0} {G : Ghosts R H} (old : Kept (StreamEnd R H G)) (before : Content) (channel : ℕ)
    (method_octets header_octets body : List ℕ) (pieces : List Piece) (status count : ℕ) (now : List Piece)
    (new : Kept (StreamEnd R H G)) : Type 0 where
  waits : status ≡ 11 → 0 < body_left before → new ≡ old → now ≡ pieces
      → LendsOne old before channel method_octets header_octets body pieces status count now new
  unread : (fault : Unmade) → NotRead (FirstFaultOfMethod method_octets) fault → status ≡ unmade_status fault
      → new ≡ old → now ≡ pieces
      → LendsOne old before channel method_octets header_octets body pieces status count now new
  read : (call : Call) → EncodesMethod call method_octets
      → LendsAfter old channel call header_octets body pieces status count now new
      → LendsOne old before channel method_octets header_octets body pieces status count now new

-- with the content of an open handle; any other is refused
abbrev pub LendsWith : {R H : Type 0} {G : Ghosts R H} → Kept (StreamEnd R H G) → Option Held → ℕ
    → (method_octets header_octets body : List ℕ) → List Piece → ℕ → (count : ℕ) → List Piece → Kept (StreamEnd R H G)
    → Type 0
LendsWith old None channel method header body pieces status count now new =
    (status ≡ 1) × (new ≡ old) × (now ≡ pieces)
LendsWith old (Some (held.Splitter s)) channel method header body pieces status count now new =
    (status ≡ 3) × (new ≡ old) × (now ≡ pieces)
LendsWith old (Some (held.Content c)) channel method header body pieces status count now new =
    LendsOne old c channel method header body pieces status count now new

-- by the end of an open handle
abbrev pub LendsEnd : Option HeldEnd → Option Held → ℕ → (method_octets header_octets body : List ℕ) → List Piece → ℕ
    → (count : ℕ) → List Piece → Option HeldEnd → Type 0
LendsEnd old content channel method header body pieces status count now new =
    Does status (λ R H G kept next. LendsWith kept content channel method header body pieces status count now next) old
    new × (old ≡ None → now ≡ pieces)

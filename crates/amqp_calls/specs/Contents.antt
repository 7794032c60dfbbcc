-- What a content behind a handle is, and what calls with it do. Read before: what is still to be written of a body
-- (`BodyToCome` of `amqp_outbox`).
use Rattle.std.specs.Prelude.{◌≡◌, ◌≢◌, ◌+◌, ◌-◌, ◌^◌, ◌<◌, ◌⊎◌, ℕ, List, [], length, min, Option, Some, None}
use Rattle.amqp_outbox.specs.BodyToCome.{octets_left, still_to_write, Goes}
use Rattle.amqp_outbox.specs.declared.body.BodyWriter.{BodyWriter}
use Rattle.amqp_handle.specs.declared.content.Content.{Content}
use Rattle.amqp_handle.specs.declared.held.Held.{Held}
use Rattle.amqp_handle.specs.declared.held.Held.TheVariants as held

-- how many octets of the body are still to come
abbrev left_by : Option BodyWriter → ℕ
left_by None = 0
left_by (Some writer) = octets_left writer

abbrev pub body_left : Content → ℕ
body_left content = left_by content.writer

-- a content before any is begun
abbrev IsFresh : Option Held → Type 0
IsFresh None = ⊥
IsFresh (Some (held.Splitter s)) = ⊥
IsFresh (Some (held.Content c)) = (c.writer ≡ None) × (c.octets.items ≡ [])

-- a closed handle is opened, or memory is refused; an open one stays
abbrev pub OpensContent : Option Held → ℕ → Option Held → Type 0
OpensContent old status new =
    ((status ≡ 0) × (old ≡ None) × IsFresh new)
    ⊎ (((status ≡ 2) × (old ≢ None) × (new ≡ old)) ⊎ ((status ≡ 4) × (old ≡ None) × (new ≡ old)))

-- the content of an open handle meets P; any other handle is refused
abbrev pub OfContent : Option Held → (Content → Type 0) → (status : ℕ) → Type 0
OfContent None P status = status ≡ 1
OfContent (Some (held.Splitter s)) P status = status ≡ 3
OfContent (Some (held.Content c)) P status = P c

-- a count with so many octets more as are still to be written
abbrev AddedTo : Option BodyWriter → (count now : ℕ) → Type 0
AddedTo None count now = now ≡ count
AddedTo (Some writer) count now =
    (body : List ℕ) → length body ≡ octets_left writer
    → now ≡ min (count + length (still_to_write writer body)) (2 ^ 64 - 1)

abbrev pub AddsTo : Content → (count now : ℕ) → Type 0
AddsTo content count now = AddedTo content.writer count now

-- A part of the body that a writer writes. It is written, in the place of what is there; or it is longer than what is
-- left, and nothing changes; or memory is refused, and nothing is there.
pub data WritesPart (writer : BodyWriter) (old : Content) (part : List ℕ) (status : ℕ) (new : Content) : Type 0 where
  written : (next : BodyWriter) → status ≡ 0 → new.writer ≡ Some next → Goes writer [] part next new.octets.items
      → WritesPart writer old part status new
  too_long : status ≡ 9 → octets_left writer < length part → new ≡ old → WritesPart writer old part status new
  refused : status ≡ 4 → new.writer ≡ old.writer → new.octets.items ≡ [] → WritesPart writer old part status new

-- before a content is begun there is nothing to write
abbrev pub PartBy : Option BodyWriter → (old : Content) → List ℕ → ℕ → (new : Content) → Type 0
PartBy None old part status new = (status ≡ 8) × (new ≡ old)
PartBy (Some writer) old part status new = WritesPart writer old part status new

abbrev pub WritesOne : (old : Content) → List ℕ → ℕ → (new : Content) → Type 0
WritesOne old part status new = PartBy old.writer old part status new

abbrev pub WritesBody : Option Held → List ℕ → ℕ → Option Held → Type 0
WritesBody None part status new = (status ≡ 1) × (new ≡ None)
WritesBody (Some (held.Splitter s)) part status new = (status ≡ 3) × (new ≡ Some (held.Splitter s))
WritesBody (Some (held.Content c)) part status None = ⊥
WritesBody (Some (held.Content c)) part status (Some (held.Splitter s)) = ⊥
WritesBody (Some (held.Content c)) part status (Some (held.Content now)) = WritesOne c part status now

-- the octets to write next
abbrev pub OctetsOf : Option Held → ℕ → List ℕ → Type 0
OctetsOf held status octets = OfContent held (λ c. (status ≡ 0) × (octets ≡ c.octets.items)) status

-- What is left to be lent.
use Rattle.std.proofs.Common.{◌≡◌, ℕ, suc, ◌+◌, ◌<◌, List, [], ◌∷◌, ◌++◌, length, get_or, drop, All, refl, sym, ap, ap₂, ◌∙◌, subst, arith, append_assoc}
use Rattle.std.proofs.Math.Seq.{drop-cons}
use Rattle.amqp_frame.specs.Frame.{Frame, octets}
use Rattle.amqp_frame.specs.Splitting.{stream}
use Rattle.amqp_outbox.specs.PiecesQueues.{frame_of, frames_of, IsChunk}
use Rattle.amqp_outbox.specs.declared.queues.Chunk.{Chunk}
use Rattle.amqp_model.specs.Output.Arrangement.{arranged}
use Rattle.amqp_outbox.specs.PiecesQueues.{on_channels, row_of_queues}
use Rattle.amqp_outbox.specs.PiecesRing.{row_in}
use Rattle.amqp_outbox.specs.declared.queues.Queue.{Queue}
use Rattle.amqp_outbox.specs.declared.queues.Queues.{Queues}
use Rattle.amqp_outbox.specs.declared.ring.Ring.{Ring}
use Rattle.amqp_outbox.proofs.OutboxRows.{stream-append}
use Rattle.amqp_outbox.proofs.PiecesWrites.{some-octets}

-- the next chunk of a list, and the octets after it
pub chunk-lends : (items : List Chunk) (lent : ℕ) (chunk : Chunk) (piece : List ℕ) → All IsChunk items → lent < length items → chunk ≡ get_or items lent chunk → piece ≡ chunk.octets.items
    → (stream (frames_of (drop lent items)) ≡ piece ++ stream (frames_of (drop (lent + 1) items))) × (0 < length piece)
chunk-lends items lent chunk piece a h is e =
    let whole = subst IsChunk (sym is) (a lent chunk h) in
    let same : suc lent ≡ lent + 1 = omega arith in
    let first = drop-cons items lent chunk h in (
      ap (λ xs. stream (frames_of xs)) first
          ∙ ap₂ (λ x y. x ++ y) (ap (λ (x : Chunk). octets (frame_of x)) (sym is) ∙ (whole.encoded ∙ sym e)) (ap (λ n. stream (frames_of (drop n items))) same),
      some-octets (frame_of chunk) piece (e ∙ sym whole.encoded),
    )

-- all that waits
pub row-parts : (ahead : List ℕ) (last : ℕ) (queues : Queues) (lent : List Queue) (ring : Ring) → lent ≡ queues.channels.items → row_in ring ≡ arranged last (on_channels lent)
    → ahead ++ (stream (frames_of queues.plain.items) ++ (stream (row_in ring) ++ stream (frames_of queues.leaving.items))) ≡ ahead ++ stream (row_of_queues last queues)
row-parts ahead last queues lent ring e r =
    let a = frames_of queues.plain.items in
    let b = arranged last (on_channels queues.channels.items) in
    let c = frames_of queues.leaving.items in
    ap (λ x. ahead ++ (stream a ++ (stream x ++ stream c))) (r ∙ ap (λ qs. arranged last (on_channels qs)) e)
    ∙ ap (λ x. ahead ++ x) (ap (λ x. stream a ++ x) (sym (stream-append b c)) ∙ sym (stream-append a (b ++ c)))

-- a frame of a channel above 0 is lent
pub channel-lends : (ahead plain lent leaving : List ℕ) (row later : List Frame) (chunk : Chunk) (piece : List ℕ) → ahead ≡ [] → plain ≡ [] → lent ≡ [] → row ≡ frame_of chunk ∷ later → IsChunk chunk → piece ≡ chunk.octets.items
    → (ahead ++ (plain ++ (stream row ++ leaving)) ≡ piece ++ (ahead ++ (lent ++ (stream later ++ leaving)))) × (0 < length piece)
channel-lends ahead plain lent leaving row later chunk piece e f g r whole is = (
  ap₂ (λ x y. x ++ (y ++ (stream row ++ leaving))) e f
      ∙ (ap (λ fs. stream fs ++ leaving) r
      ∙ (append_assoc (octets (frame_of chunk)) (stream later) leaving
      ∙ (ap (λ x. x ++ (stream later ++ leaving)) (whole.encoded ∙ sym is)
      ∙ sym (ap₂ (λ x y. piece ++ (x ++ (y ++ (stream later ++ leaving)))) e g)))),
  some-octets (frame_of chunk) piece (is ∙ sym whole.encoded),
)

pub no-octets : (items : List ℕ) → length items ≡ 0 → items ≡ []
no-octets [] h = refl
no-octets (x ∷ items) h = absurd (omega arith)

-- All queues together: what a put and a write make of their row.
use Rattle.std.proofs.Common.{◌≡◌, ℕ, ◌+◌, ◌<◌, List, [], ◌∷◌, ◌++◌, length, All, refl, sym, ap, ap₂, ◌∙◌, subst, arith}
use Rattle.std.specs.Prelude.{Option, None, Some, MatchOption, IfSome, option_to_list}
use Rattle.std.specs.VecDeque.{deque_len}
use Rattle.std.proofs.lemmas.Bool.{true≢false}
use Rattle.std.proofs.lemmas.List.{map-append}
use Rattle.std.proofs.lemmas.List.Elements.{All-nil, All-cons, All-head, All-tail, All-append, All-weaker, All-map}
use Rattle.amqp_model.specs.Output.Arrangement.{last_after, IsChannel, HasChannel, placed, arranged}
use Rattle.amqp_model.specs.Laws.ArrangementLaws.{OneRow, PutsMakeRow, PutArranges, LeavingIsPutLast, LowestAboveComesFirst}
use Rattle.amqp_outbox.specs.PiecesQueues.{frame_of, frames_of, IsChunk, IsPlain, IsLeaving, IsQueue, AreSound, on_channels, row_of_queues, IsEmpty, IsTurnOf, QueueGives, QueueTakes}
use Rattle.amqp_outbox.specs.declared.queues.Chunk.{Chunk}
use Rattle.amqp_outbox.specs.declared.queues.Queue.{Queue}
use Rattle.amqp_outbox.specs.declared.queues.Queues.{Queues}
use Rattle.amqp_outbox.proofs.PiecesRows.{IsPlainFrame, IsAbove, arranged-keeps, put-plain, put-above, put-leaving}
use Rattle.amqp_outbox.proofs.PiecesMoves.{plain-frames, leaving-frames, all-above, above-channels, row-takes, row-gives, sound-takes, sound-gives, ascends-takes, ascends-gives, no-items, gave-whole}

row-above : (last : ℕ) (queues : List Queue) → All IsQueue queues → All IsAbove (arranged last (on_channels queues))
row-above last queues a = arranged-keeps IsAbove last (on_channels queues) (all-above queues a)

-- a plain frame is put
pub plain-put : (last : ℕ) (chunk : Chunk) (old new : Queues) → IsChannel last → AreSound old → IsPlain chunk → new.plain.items ≡ old.plain.items ++ chunk ∷ [] → new.channels.items ≡ old.channels.items → new.leaving.items ≡ old.leaving.items
    → row_of_queues last new ≡ placed last (frame_of chunk) (row_of_queues last old)
plain-put last chunk old new l s p e f g =
    let is = (plain-frames (chunk ∷ []) (All-cons IsPlain chunk [] p (All-nil IsPlain))) 0 (frame_of chunk) (omega arith) in
    let b = arranged last (on_channels old.channels.items) in
    ap₂ (λ x y. x ++ y) (ap frames_of e ∙ map-append frame_of old.plain.items (chunk ∷ [])) (ap₂ (λ x y. arranged last (on_channels x) ++ frames_of y) f g)
    ∙ sym (put-plain last (frame_of chunk) (frames_of old.plain.items) b (frames_of old.leaving.items) is l (plain-frames old.plain.items s.plain) (row-above last old.channels.items s.channels) (leaving-frames old.leaving.items s.leaving))

-- all frames have channels
with-channels : (last : ℕ) (old : Queues) → AreSound old → All HasChannel (row_of_queues last old)
with-channels last old s =
    let p = All-weaker IsPlainFrame HasChannel (λ f z. let e = z.zero in omega arith) (frames_of old.plain.items) (plain-frames old.plain.items s.plain) in
    let a = above-channels _ (row-above last old.channels.items s.channels) in
    let l = All-map HasChannel frame_of old.leaving.items (All-weaker IsLeaving (λ c. HasChannel (frame_of c)) (λ c e. e.0.channel) old.leaving.items s.leaving) in
    All-append HasChannel _ _ p (All-append HasChannel _ _ a l)

-- a frame that leaves the connection is put
pub leaving-put : LeavingIsPutLast → (last : ℕ) (chunk : Chunk) (old new : Queues) → AreSound old → IsLeaving chunk → new.leaving.items ≡ old.leaving.items ++ chunk ∷ [] → new.plain.items ≡ old.plain.items → new.channels.items ≡ old.channels.items
    → row_of_queues last new ≡ placed last (frame_of chunk) (row_of_queues last old)
leaving-put law last chunk old new s p e f g =
    let is = (leaving-frames (chunk ∷ []) (All-cons IsLeaving chunk [] p (All-nil IsLeaving))) 0 (frame_of chunk) (omega arith) in
    let b = arranged last (on_channels old.channels.items) in
    ap₂ (λ x y. x ++ y) (ap frames_of f) (ap₂ (λ x y. arranged last (on_channels x) ++ y) g (ap frames_of e ∙ map-append frame_of old.leaving.items (chunk ∷ [])))
    ∙ sym (put-leaving law last (frame_of chunk) (frames_of old.plain.items) b (frames_of old.leaving.items) is (with-channels last old s))

-- a frame of a channel above 0 is put
pub above-put : OneRow → PutsMakeRow → PutArranges → (last : ℕ) (chunk : Chunk) (old new : Queues) → IsChannel last → AreSound old → IsChunk chunk → 0 < chunk.slot.channel → QueueTakes chunk old.channels.items new.channels.items
    → new.plain.items ≡ old.plain.items → new.leaving.items ≡ old.leaving.items → row_of_queues last new ≡ placed last (frame_of chunk) (row_of_queues last old)
above-put one made puts last chunk old new l s whole above t f g =
    let is : IsAbove (frame_of chunk) = record { above = above; channel = whole.channel } in
    let b = arranged last (on_channels old.channels.items) in
    ap₂ (λ x y. x ++ y) (ap frames_of f) (ap₂ (λ x y. x ++ y) (row-takes one made puts last chunk old.channels.items new.channels.items l whole s.channels s.ascends t) (ap frames_of g))
    ∙ sym (put-above last (frame_of chunk) (frames_of old.plain.items) b (frames_of old.leaving.items) is l (plain-frames old.plain.items s.plain) (row-above last old.channels.items s.channels) (leaving-frames old.leaving.items s.leaving))

pub above-sound : (chunk : Chunk) (old new : Queues) → AreSound old → IsChunk chunk → QueueTakes chunk old.channels.items new.channels.items → new.plain.items ≡ old.plain.items → new.leaving.items ≡ old.leaving.items → AreSound new
above-sound chunk old new s whole t f g = record {
  plain = rw f s.plain;
  channels = sound-takes chunk old.channels.items new.channels.items whole s.channels t;
  ascends = ascends-takes chunk old.channels.items new.channels.items s.ascends t;
  leaving = rw g s.leaving;
}

-- no chunk
pub nothing : (items : List Chunk) → length items ≡ 0 → items ≡ []
nothing [] h = refl
nothing (x ∷ items) h = absurd (omega arith)

pub none-on : (queues : List Queue) → All IsEmpty queues → on_channels queues ≡ []
none-on [] a = refl
none-on (q ∷ later) a = ap₂ (λ x y. frames_of x ++ y) (no-items q (All-head IsEmpty q later a)) (none-on later (All-tail IsEmpty q later a))

-- what stands after a frame that leaves
abbrev pub Leaves : (last : ℕ) (old new : Queues) → Option Chunk → Type 0
Leaves last old new result = MatchOption result ((row_of_queues last old ≡ []) × (row_of_queues last new ≡ [])) (λ chunk. row_of_queues last old ≡ frame_of chunk ∷ row_of_queues (last_after last (frame_of chunk)) new)

pub above-leaves : OneRow → PutsMakeRow → LowestAboveComesFirst → (last at : ℕ) (old new : Queues) (result : Option Chunk) → IsChannel last → AreSound old → IsTurnOf last at old.channels.items → QueueGives at result old.channels.items new.channels.items
    → old.plain.items ≡ [] → new.plain.items ≡ [] → new.leaving.items ≡ old.leaving.items → Leaves last old new result
above-leaves one made lowest last at old new None l s t g e f h = absurd (true≢false (sym (g.some (t.waits g.new))))
above-leaves one made lowest last at old new (Some chunk) l s t g e f h =
    ap₂ (λ x y. frames_of x ++ (y ++ frames_of old.leaving.items)) e (row-gives one made lowest last at chunk old.channels.items new.channels.items l s.channels s.ascends t g)
    ∙ ap (λ x. frame_of chunk ∷ x) (ap₂ (λ x y. frames_of x ++ (arranged (last_after last (frame_of chunk)) (on_channels new.channels.items) ++ frames_of y)) (sym f) (sym h))

pub above-left : (at : ℕ) (last : ℕ) (result : Option Chunk) (old new : Queues) → AreSound old → IsTurnOf last at old.channels.items → QueueGives at result old.channels.items new.channels.items → All IsPlain new.plain.items → new.leaving.items ≡ old.leaving.items → AreSound new
above-left at last result old new s t g p h = record {
  plain = p;
  channels = sound-gives at result old.channels.items new.channels.items t.within s.channels g;
  ascends = ascends-gives at result old.channels.items new.channels.items t.within s.ascends g;
  leaving = rw h s.leaving;
}

pub above-whole : (at last : ℕ) (result : Option Chunk) (old : Queues) (news : List Queue) → AreSound old → IsTurnOf last at old.channels.items → QueueGives at result old.channels.items news → IfSome result (λ chunk. IsChunk chunk)
above-whole at last None old news s t g = tt
above-whole at last (Some chunk) old news s t g = (gave-whole at chunk old.channels.items news t.within s.channels g)

pub last-leaves : (last : ℕ) (old new : Queues) (result : Option Chunk) → All IsEmpty old.channels.items → old.plain.items ≡ [] → new.plain.items ≡ [] → new.channels.items ≡ old.channels.items
    → old.leaving.items ≡ option_to_list result ++ new.leaving.items → (deque_len old.leaving ≡ 0 → new.leaving.items ≡ []) → MatchOption result ((deque_len old.leaving ≡ 0) × (deque_len new.leaving ≡ 0)) (λ _. deque_len new.leaving + 1 ≡ deque_len old.leaving)
    → Leaves last old new result
last-leaves last old new None empty e f g h none cases = (
  ap₂ (λ x y. frames_of x ++ (arranged last y ++ frames_of old.leaving.items)) e (none-on old.channels.items empty) ∙ ap frames_of (h ∙ none cases.0),
  ap₂ (λ x y. frames_of x ++ (arranged last y ++ frames_of new.leaving.items)) f (ap on_channels g ∙ none-on old.channels.items empty) ∙ ap frames_of (none cases.0),
)
last-leaves last old new (Some chunk) empty e f g h none cases =
    ap₂ (λ x y. frames_of x ++ (arranged last y ++ frames_of old.leaving.items)) e (none-on old.channels.items empty)
    ∙ (ap frames_of h ∙ ap (λ x. frame_of chunk ∷ x) (sym (ap₂ (λ x y. frames_of x ++ (arranged (last_after last (frame_of chunk)) y ++ frames_of new.leaving.items)) f (ap on_channels g ∙ none-on old.channels.items empty))))

-- the queues as they are lent
pub turn-lent : (last at : ℕ) (queues lent : List Queue) → lent ≡ queues → IsTurnOf last at lent → IsTurnOf last at queues
turn-lent last at queues lent e t = subst (λ (l : List Queue). IsTurnOf last at l) e t

pub empty-lent : (queues lent : List Queue) → lent ≡ queues → All IsEmpty lent → All IsEmpty queues
empty-lent queues lent e a = subst (λ (l : List Queue). All IsEmpty l) e a

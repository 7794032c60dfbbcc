-- How many octets wait of a channel in the queues.
use Rattle.std.proofs.Common.{◌≡◌, ◌≢◌, ℕ, ◌+◌, ◌-◌, ◌<◌, ◌≤◌, ◌==◌, suc, Bool, true, false, cond, nat_lt, List, [], ◌∷◌, ◌++◌, length, map, take, drop, All, get_or, refl, sym, ap, ◌∙◌, subst, arith, length-append, length-drop, append_assoc, append-nil, take-append-drop, eq-eqb, ne_eqb}
use Rattle.std.proofs.Math.Seq.{drop-cons}
use Rattle.std.proofs.lemmas.Bool.{cond-true, cond-false}
use Rattle.std.proofs.lemmas.List.{map-append, take_more}
use Rattle.std.proofs.lemmas.List.Elements.{All-head, All-tail, All-weaker}
use Rattle.amqp_frame.specs.Frame.{Frame, octets}
use Rattle.amqp_frame.specs.Splitting.{stream}
use Rattle.amqp_model.specs.Output.Arrangement.{turn, last_after, on, placed, placed_all, arranged}
use Rattle.amqp_outbox.specs.OutboxSlots.{slot_of, slot_length, slots_length_on}
use Rattle.amqp_outbox.specs.PiecesFields.{IsWhole}
use Rattle.amqp_outbox.specs.PiecesQueues.{frame_of, frames_of, IsChunk, IsPlain, IsLeaving, IsQueue, IsOn, AreSound, on_channels, row_of_queues}
use Rattle.amqp_outbox.specs.declared.slots.Slot.{Slot}
use Rattle.amqp_outbox.specs.declared.queues.Chunk.{Chunk}
use Rattle.amqp_outbox.specs.declared.queues.Queue.{Queue}
use Rattle.amqp_outbox.specs.declared.queues.Queues.{Queues}
use Rattle.amqp_outbox.specs.declared.send_queue.SendQueue.TheInside.{Inside}
use Rattle.amqp_outbox.proofs.OutboxRows.{stream-append, length-octets, slots_length-row, slots_length_on-row}
use Rattle.amqp_outbox.proofs.OutboxSlots.{slots_length_on-append, slots_length_on-most}
use Rattle.amqp_outbox.proofs.PiecesCounts.{length-placed}
use Rattle.amqp_outbox.proofs.PiecesRows.{leaving-zero}

-- the length of a channel's frames
abbrev pub octets_on : (channel : ℕ) → List Frame → ℕ
octets_on channel frames = length (stream (on channel frames))

on-more : (channel : ℕ) (f : Frame) (row : List Frame) → octets_on channel (f ∷ row) ≡ cond (f.channel == channel) (slot_length (slot_of f)) 0 + octets_on channel row
on-more channel f row =
    let a = slots_length_on-row channel (f ∷ row) in
    let b = slots_length_on-row channel row in
    omega arith

pub on-append : (channel : ℕ) (a b : List Frame) → octets_on channel (a ++ b) ≡ octets_on channel a + octets_on channel b
on-append channel a b =
    let x = slots_length_on-row channel (a ++ b) in
    let y = ap (slots_length_on channel) (map-append slot_of a b) ∙ slots_length_on-append channel (map slot_of a) (map slot_of b) in
    let z = slots_length_on-row channel a in
    let w = slots_length_on-row channel b in
    omega arith

on-placed : (channel last : ℕ) (f : Frame) (row : List Frame) → octets_on channel (placed last f row) ≡ octets_on channel (f ∷ row)
on-placed channel last f [] = refl
on-placed channel last f (g ∷ row) = cases (nat_lt (turn last f) (turn last g)) (on-placed channel (last_after last g) f row)
  where
    cases : (sooner : Bool) → octets_on channel (placed (last_after last g) f row) ≡ octets_on channel (f ∷ row)
        → octets_on channel (cond sooner (f ∷ g ∷ row) (g ∷ placed (last_after last g) f row)) ≡ octets_on channel (f ∷ g ∷ row)
    cases true e = refl
    cases false e =
        let a = on-more channel g (placed (last_after last g) f row) in
        let b = on-more channel f (g ∷ row) in
        let c = on-more channel g row in
        let d = on-more channel f row in
        omega arith

on-placed_all : (channel last : ℕ) (frames row : List Frame) → octets_on channel (placed_all last frames row) ≡ octets_on channel frames + octets_on channel row
on-placed_all channel last [] row = let none : octets_on channel [] ≡ 0 = refl in omega arith
on-placed_all channel last (f ∷ frames) row =
    let a = on-placed_all channel last frames (placed last f row) in
    let b = on-placed channel last f row in
    let c = on-more channel f row in
    let d = on-more channel f frames in
    omega arith

-- the row has what the queues have
pub on-row : (channel last : ℕ) (queues : Queues)
    → octets_on channel (row_of_queues last queues) ≡ octets_on channel (frames_of queues.plain.items) + (octets_on channel (on_channels queues.channels.items) + octets_on channel (frames_of queues.leaving.items))
on-row channel last queues =
    let plain = frames_of queues.plain.items in
    let row = arranged last (on_channels queues.channels.items) in
    let leaving = frames_of queues.leaving.items in
    let a = on-append channel plain (row ++ leaving) in
    let b = on-append channel row leaving in
    let c = on-placed_all channel last (on_channels queues.channels.items) [] in
    let d : octets_on channel [] ≡ 0 = refl in
    omega arith

-- frames that are all of the channel, and frames of which none is
pub all-on : (channel : ℕ) (chunks : List Chunk) → All (λ (c : Chunk). c.slot.channel ≡ channel) chunks → octets_on channel (frames_of chunks) ≡ length (stream (frames_of chunks))
all-on channel [] h = refl
all-on channel (c ∷ chunks) h =
    let own : c.slot.channel ≡ channel = All-head (λ (x : Chunk). x.slot.channel ≡ channel) c chunks h in
    let ih = all-on channel chunks (All-tail (λ (x : Chunk). x.slot.channel ≡ channel) c chunks h) in
    let a = on-more channel (frame_of c) (frames_of chunks) in
    let b = cond-true ((frame_of c).channel == channel) (slot_length (slot_of (frame_of c))) 0 (eq-eqb (frame_of c).channel channel own) in
    let d = length-append (octets (frame_of c)) (stream (frames_of chunks)) in
    let e = length-octets (frame_of c) in
    omega arith

pub none-on : (channel : ℕ) (chunks : List Chunk) → All (λ (c : Chunk). c.slot.channel ≢ channel) chunks → octets_on channel (frames_of chunks) ≡ 0
none-on channel [] h = refl
none-on channel (c ∷ chunks) h =
    let other : c.slot.channel ≢ channel = All-head (λ (x : Chunk). x.slot.channel ≢ channel) c chunks h in
    let ih = none-on channel chunks (All-tail (λ (x : Chunk). x.slot.channel ≢ channel) c chunks h) in
    let a = on-more channel (frame_of c) (frames_of chunks) in
    let b = cond-false ((frame_of c).channel == channel) (slot_length (slot_of (frame_of c))) 0 (ne_eqb (frame_of c).channel channel other) in
    omega arith

leaving-channel : (chunk : Chunk) → IsLeaving chunk → chunk.slot.channel ≡ 0
leaving-channel chunk h = leaving-zero (frame_of chunk) (ap (λ (s : Slot). s.leaving) h.0.described ∙ h.1)

pub on-queues_zero : (queues : List Queue) → All IsQueue queues → octets_on 0 (on_channels queues) ≡ 0
on-queues_zero [] h = refl
on-queues_zero (q ∷ queues) h =
    let own : IsQueue q = All-head IsQueue q queues h in
    let above = own.above in
    let none = none-on 0 q.frames.items (All-weaker (IsOn q.channel) (λ (c : Chunk). c.slot.channel ≢ 0) (λ c o z. let e = o.1 in absurd (omega arith)) q.frames.items own.chunks) in
    let a = on-append 0 (frames_of q.frames.items) (on_channels queues) in
    let ih = on-queues_zero queues (All-tail IsQueue q queues h) in
    omega arith

-- channel 0 has its plain frames and those that leave the connection; a channel above 0 has its queue
pub waiting-zero : (last : ℕ) (queues : Queues) → AreSound queues → octets_on 0 (row_of_queues last queues) ≡ length (stream (frames_of queues.plain.items)) + length (stream (frames_of queues.leaving.items))
waiting-zero last queues s =
    let a = on-row 0 last queues in
    let b = all-on 0 queues.plain.items (All-weaker IsPlain (λ (c : Chunk). c.slot.channel ≡ 0) (λ c p. p.1) queues.plain.items s.plain) in
    let c = all-on 0 queues.leaving.items (All-weaker IsLeaving (λ (c : Chunk). c.slot.channel ≡ 0) leaving-channel queues.leaving.items s.leaving) in
    let d = on-queues_zero queues.channels.items s.channels in
    omega arith

pub waiting-above : (channel last : ℕ) (queues : Queues) → AreSound queues → 0 < channel → octets_on channel (row_of_queues last queues) ≡ octets_on channel (on_channels queues.channels.items)
waiting-above channel last queues s above =
    let a = on-row channel last queues in
    let b = none-on channel queues.plain.items (All-weaker IsPlain (λ (c : Chunk). c.slot.channel ≢ channel) (λ c p e. let z = p.1 in absurd (omega arith)) queues.plain.items s.plain) in
    let c = none-on channel queues.leaving.items (All-weaker IsLeaving (λ (c : Chunk). c.slot.channel ≢ channel) (λ c p e. let z = leaving-channel c p in absurd (omega arith)) queues.leaving.items s.leaving) in
    omega arith

-- none of a channel's octets stand but in the row
pub on-most : (channel : ℕ) (row : List Frame) → octets_on channel row ≤ length (stream row)
on-most channel row =
    let a = slots_length_on-most channel (map slot_of row) in
    let b = slots_length_on-row channel row in
    let c = slots_length-row row in
    omega arith

-- the queues so far, one queue on
on_channels-append : (a b : List Queue) → on_channels (a ++ b) ≡ on_channels a ++ on_channels b
on_channels-append [] b = refl
on_channels-append (q ∷ a) b = ap (λ fs. frames_of q.frames.items ++ fs) (on_channels-append a b) ∙ sym (append_assoc (frames_of q.frames.items) (on_channels a) (on_channels b))

pub on-next : (channel i : ℕ) (queues : List Queue) (d : Queue) → i < length queues → octets_on channel (on_channels (take (i + 1) queues)) ≡ octets_on channel (on_channels (take i queues)) + octets_on channel (frames_of (get_or queues i d).frames.items)
on-next channel i queues d h =
    let q = get_or queues i d in
    let whole : on_channels (take (i + 1) queues) ≡ on_channels (take i queues) ++ (frames_of q.frames.items ++ []) = ap on_channels (take_more queues i d h) ∙ on_channels-append (take i queues) (q ∷ []) in
    let a = ap (octets_on channel) whole in
    let b = on-append channel (on_channels (take i queues)) (frames_of q.frames.items ++ []) in
    let c = on-append channel (frames_of q.frames.items) [] in
    let e : octets_on channel [] ≡ 0 = refl in
    omega arith

-- the queue at a place, whose frames are all of the channel, or none
pub own-next : (channel i total n : ℕ) (queues : List Queue) (queue : Queue) → All IsQueue queues → i < length queues → queue ≡ get_or queues i queue → queue.channel ≡ channel
    → total ≡ octets_on channel (on_channels (take i queues)) → n ≡ length (stream (frames_of queue.frames.items)) → total + n ≡ octets_on channel (on_channels (take (i + 1) queues))
own-next channel i total n queues queue all h is own e f =
    let q : IsQueue queue = subst IsQueue (sym is) (all i queue h) in
    let a = on-next channel i queues queue h in
    let b = ap (λ (x : Queue). octets_on channel (frames_of x.frames.items)) is in
    let c = all-on channel queue.frames.items (All-weaker (IsOn queue.channel) (λ (c : Chunk). c.slot.channel ≡ channel) (λ c o. o.1 ∙ own) queue.frames.items q.chunks) in
    omega arith

pub other-next : (channel i total : ℕ) (queues : List Queue) (queue : Queue) → All IsQueue queues → i < length queues → queue ≡ get_or queues i queue → queue.channel ≢ channel
    → total ≡ octets_on channel (on_channels (take i queues)) → total ≡ octets_on channel (on_channels (take (i + 1) queues))
other-next channel i total queues queue all h is other e =
    let q : IsQueue queue = subst IsQueue (sym is) (all i queue h) in
    let a = on-next channel i queues queue h in
    let b = ap (λ (x : Queue). octets_on channel (frames_of x.frames.items)) is in
    let c = none-on channel queue.frames.items (All-weaker (IsOn queue.channel) (λ (c : Chunk). c.slot.channel ≢ channel) (λ c o z. other (sym o.1 ∙ z)) queue.frames.items q.chunks) in
    omega arith

pub own-most : (channel i total n : ℕ) (queues : List Queue) (queue : Queue) → All IsQueue queues → i < length queues → queue ≡ get_or queues i queue → queue.channel ≡ channel
    → total ≡ octets_on channel (on_channels (take i queues)) → n ≡ length (stream (frames_of queue.frames.items)) → total + n ≤ length (stream (on_channels queues))
own-most channel i total n queues queue all h is own e f =
    let a = own-next channel i total n queues queue all h is own e f in
    let before = on_channels (take (i + 1) queues) in
    let later = on_channels (drop (i + 1) queues) in
    let b : on_channels queues ≡ before ++ later = ap on_channels (sym (take-append-drop (i + 1) queues)) ∙ on_channels-append (take (i + 1) queues) (drop (i + 1) queues) in
    let c = ap (octets_on channel) b ∙ on-append channel before later in
    let d = on-most channel (on_channels queues) in
    omega arith

pub queue-most : (i : ℕ) (queues : List Queue) (queue : Queue) → i < length queues → queue ≡ get_or queues i queue → length (stream (frames_of queue.frames.items)) ≤ length (stream (on_channels queues))
queue-most i queues queue h is =
    let before = take i queues in
    let later = drop (suc i) queues in
    let own = frames_of queue.frames.items in
    let parted : queues ≡ before ++ queue ∷ later = sym (take-append-drop i queues) ∙ (ap (λ qs. before ++ qs) (drop-cons queues i queue h) ∙ ap (λ (q : Queue). before ++ q ∷ later) (sym is)) in
    let whole : on_channels queues ≡ on_channels before ++ (own ++ on_channels later) = ap on_channels parted ∙ on_channels-append before (queue ∷ later) in
    let octets_are : stream (on_channels queues) ≡ stream (on_channels before) ++ (stream own ++ stream (on_channels later)) =
    ap stream whole ∙ (stream-append (on_channels before) (own ++ on_channels later) ∙ ap (λ os. stream (on_channels before) ++ os) (stream-append own (on_channels later))) in
    let a = ap length octets_are in
    let b = length-append (stream (on_channels before)) (stream own ++ stream (on_channels later)) in
    let c = length-append (stream own) (stream (on_channels later)) in
    omega arith

-- the chunks of a queue so far, one chunk on
pub chunks-next : (items : List Chunk) (i total n : ℕ) (chunk : Chunk) → All IsChunk items → i < length items → chunk ≡ get_or items i chunk → total ≡ length (stream (frames_of (take i items)))
    → n ≡ length chunk.octets.items → total + n ≡ length (stream (frames_of (take (i + 1) items)))
chunks-next items i total n chunk all h is e f =
    let whole : IsChunk chunk = subst IsChunk (sym is) (all i chunk h) in
    let more : take (i + 1) items ≡ take i items ++ chunk ∷ [] = take_more items i chunk h ∙ ap (λ (c : Chunk). take i items ++ c ∷ []) (sym is) in
    let frames : frames_of (take (i + 1) items) ≡ frames_of (take i items) ++ frame_of chunk ∷ [] = ap frames_of more ∙ map-append frame_of (take i items) (chunk ∷ []) in
    let one : stream (frame_of chunk ∷ []) ≡ chunk.octets.items = append-nil (octets (frame_of chunk)) ∙ whole.encoded in
    let a = ap length (ap stream frames ∙ (stream-append (frames_of (take i items)) (frame_of chunk ∷ []) ∙ ap (λ os. stream (frames_of (take i items)) ++ os) one)) in
    let b = length-append (stream (frames_of (take i items))) chunk.octets.items in
    omega arith

pub chunks-most : (items : List Chunk) (i total n : ℕ) (chunk : Chunk) → All IsChunk items → i < length items → chunk ≡ get_or items i chunk → total ≡ length (stream (frames_of (take i items)))
    → n ≡ length chunk.octets.items → total + n ≤ length (stream (frames_of items))
chunks-most items i total n chunk all h is e f =
    let a = chunks-next items i total n chunk all h is e f in
    let before = frames_of (take (i + 1) items) in
    let later = frames_of (drop (i + 1) items) in
    let parted : frames_of items ≡ before ++ later = ap frames_of (sym (take-append-drop (i + 1) items)) ∙ map-append frame_of (take (i + 1) items) (drop (i + 1) items) in
    let b = ap length (ap stream parted ∙ stream-append before later) in
    let c = length-append (stream before) (stream later) in
    omega arith

-- all queues have as many octets as the row
length-placed_all : (last : ℕ) (frames row : List Frame) → length (stream (placed_all last frames row)) ≡ length (stream frames) + length (stream row)
length-placed_all last [] row = let z : length (stream row) ≡ 0 + length (stream row) = omega arith in z
length-placed_all last (f ∷ frames) row =
    let a = length-placed_all last frames (placed last f row) in
    let b = length-placed last f row in
    let c = length-append (octets f) (stream frames) in
    omega arith

pub row-length : (last : ℕ) (queues : Queues)
    → length (stream (row_of_queues last queues)) ≡ length (stream (frames_of queues.plain.items)) + (length (stream (on_channels queues.channels.items)) + length (stream (frames_of queues.leaving.items)))
row-length last queues =
    let plain = frames_of queues.plain.items in
    let row = arranged last (on_channels queues.channels.items) in
    let leaving = frames_of queues.leaving.items in
    let a = ap length (stream-append plain (row ++ leaving) ∙ ap (λ os. stream plain ++ os) (stream-append row leaving)) in
    let b = length-append (stream plain) (stream row ++ stream leaving) in
    let c = length-append (stream row) (stream leaving) in
    let d = length-placed_all last (on_channels queues.channels.items) [] in
    let e : length (stream []) ≡ 0 = refl in
    omega arith

-- what waits of a channel is some of what waits
pub waits-most : (x : Inside) (channel n : ℕ) → IsWhole x → n ≡ octets_on channel (row_of_queues x.last x.queues) → (length x.ahead.items - x.written) + n ≤ x.waiting
waits-most x channel n w e =
    let row = row_of_queues x.last x.queues in
    let a = length-drop x.written x.ahead.items in
    let b = on-most channel row in
    let c = length-append (drop x.written x.ahead.items) (stream row) in
    let d : x.waiting ≡ length (drop x.written x.ahead.items ++ stream row) = w.waiting in
    omega arith

-- What a queue gives and takes, and what comes of its row.
use Rattle.std.proofs.Common.{◌≡◌, ℕ, suc, ◌+◌, ◌<◌, ◌≤◌, inl, inr, List, [], ◌∷◌, ◌++◌, length, take, drop, All, get_or, set, refl, sym, ap, ◌∙◌, subst, arith, append_assoc, length-drop}
use Rattle.std.specs.Prelude.{Option, Some, IsSome, option_to_list}
use Rattle.std.specs.VecDeque.{deque_len, deque_capacity}
use Rattle.std.proofs.lemmas.List.{get_or_default, get_or-take, get_or-drop, length-take-le, map-append}
use Rattle.std.proofs.lemmas.List.Elements.{All-nil, All-cons, All-head, All-tail, All-set, All-append, All-take, All-drop, All-weaker, All-map, All-push}
use Rattle.amqp_frame.specs.Frame.{Frame}
use Rattle.amqp_model.specs.Output.Arrangement.{turn, last_after, IsChannel, HasChannel, placed, arranged}
use Rattle.amqp_model.specs.Output.ArrangementRules.{ComesNoLater}
use Rattle.amqp_model.specs.Laws.ArrangementLaws.{OneRow, PutsMakeRow, PutArranges, LowestAboveComesFirst}
use Rattle.amqp_outbox.specs.PiecesQueues.{frame_of, frames_of, IsChunk, IsPlain, IsLeaving, IsOn, IsQueue, Ascends, on_channels, IsEmpty, IsNoLater, IsTurnOf, QueueGives, QueueTakes}
use Rattle.amqp_outbox.specs.declared.slots.Slot.{Slot}
use Rattle.amqp_outbox.proofs.PiecesRoom.{as-long}
use Rattle.amqp_outbox.proofs.PiecesRows.{IsPlainFrame, IsAbove, IsLeavingFrame, AreApart, apart, turn-above, last-above, put-on, next-leaves}
use Rattle.amqp_outbox.proofs.PiecesSearch.{ascends-at}
use Rattle.amqp_outbox.proofs.PiecesStay.{on-split, on-set, ascends-set}
use Rattle.amqp_outbox.specs.declared.queues.Chunk.{Chunk}
use Rattle.amqp_outbox.specs.declared.queues.Queue.{Queue}

pub gives : (olds : List Queue) (at : ℕ) (q new : Queue) (result : Option Chunk) → at < length olds → q ≡ get_or olds at q → new.channel ≡ q.channel
    → q.frames.items ≡ option_to_list result ++ new.frames.items → deque_len new.frames + length (option_to_list result) ≡ deque_len q.frames → (0 < deque_len q.frames → IsSome result) → deque_capacity new.frames ≡ deque_capacity q.frames
    → QueueGives at result olds (set olds at new)
gives olds at q new result h is channel chunks count some room =
    let e : get_or olds at new ≡ q = get_or_default olds at new q h ∙ sym is in
    record {
      new = new;
      news_are = refl;
      channel = channel ∙ ap (λ (x : Queue). x.channel) (sym e);
      chunks = ap (λ (x : Queue). x.frames.items) e ∙ chunks;
      count = count ∙ ap (λ (x : Queue). deque_len x.frames) (sym e);
      some = λ w. some (subst (λ (x : Queue). 0 < deque_len x.frames) e w);
      room = room ∙ ap (λ (x : Queue). deque_capacity x.frames) (sym e);
    }

pub takes : (olds : List Queue) (at : ℕ) (q new : Queue) (chunk : Chunk) → at < length olds → q ≡ get_or olds at q → new.channel ≡ q.channel → q.channel ≡ chunk.slot.channel
    → new.frames.items ≡ q.frames.items ++ chunk ∷ [] → deque_len new.frames ≡ deque_len q.frames + 1 → deque_capacity new.frames ≡ deque_capacity q.frames
    → QueueTakes chunk olds (set olds at new)
takes olds at q new chunk h is channel own chunks count room =
    let e : get_or olds at new ≡ q = get_or_default olds at new q h ∙ sym is in
    record {
      at = at;
      within = h;
      new = new;
      news_are = refl;
      channel = channel ∙ ap (λ (x : Queue). x.channel) (sym e);
      own = channel ∙ own;
      chunks = chunks ∙ ap (λ (x : Queue). x.frames.items ++ chunk ∷ []) (sym e);
      count = count ∙ ap (λ (x : Queue). deque_len x.frames + 1) (sym e);
      room = room ∙ ap (λ (x : Queue). deque_capacity x.frames) (sym e);
    }

-- The frames of the queues.

pub chunk-channel : (chunk : Chunk) → (frame_of chunk).channel ≡ chunk.slot.channel
chunk-channel chunk = refl

plain-frame : (chunk : Chunk) → IsPlain chunk → IsPlainFrame (frame_of chunk)
plain-frame chunk p = record { zero = p.1; stays = ap (λ (s : Slot). s.leaving) p.0.described ∙ p.2 }

leaving-frame : (chunk : Chunk) → IsLeaving chunk → IsLeavingFrame (frame_of chunk)
leaving-frame chunk l = ap (λ (s : Slot). s.leaving) l.0.described ∙ l.1

above-frame : (channel : ℕ) (chunk : Chunk) → 0 < channel → IsOn channel chunk → IsAbove (frame_of chunk)
above-frame channel chunk h on = record { above = rw on.1 h; channel = on.0.channel }

pub plain-frames : (chunks : List Chunk) → All IsPlain chunks → All IsPlainFrame (frames_of chunks)
plain-frames chunks a = All-map IsPlainFrame frame_of chunks (All-weaker IsPlain (λ c. IsPlainFrame (frame_of c)) plain-frame chunks a)

pub leaving-frames : (chunks : List Chunk) → All IsLeaving chunks → All IsLeavingFrame (frames_of chunks)
leaving-frames chunks a = All-map IsLeavingFrame frame_of chunks (All-weaker IsLeaving (λ c. IsLeavingFrame (frame_of c)) leaving-frame chunks a)

above-frames : (queue : Queue) → IsQueue queue → All IsAbove (frames_of queue.frames.items)
above-frames queue q = All-map IsAbove frame_of queue.frames.items (All-weaker (IsOn queue.channel) (λ c. IsAbove (frame_of c)) (λ c on. above-frame queue.channel c q.above on) queue.frames.items q.chunks)

pub all-above : (queues : List Queue) → All IsQueue queues → All IsAbove (on_channels queues)
all-above [] a = All-nil IsAbove
all-above (q ∷ later) a = All-append IsAbove (frames_of q.frames.items) (on_channels later) (above-frames q (All-head IsQueue q later a)) (all-above later (All-tail IsQueue q later a))

pub above-channels : (frames : List Frame) → All IsAbove frames → All HasChannel frames
above-channels frames a = All-weaker IsAbove HasChannel (λ f u. u.channel) frames a

-- those of other channels are in no queue with a frame
apart-queue : (f : Frame) (queue : Queue) → 0 < f.channel → IsQueue queue → (f.channel ≡ queue.channel → ⊥) → All (AreApart f) (frames_of queue.frames.items)
apart-queue f queue above q ne =
    All-map (AreApart f) frame_of queue.frames.items (All-weaker (IsOn queue.channel) (λ c. AreApart f (frame_of c)) (λ c on. apart f (frame_of c) above (λ e. ne (e ∙ on.1))) queue.frames.items q.chunks)

pub apart-queues : (f : Frame) (queues : List Queue) → 0 < f.channel → All IsQueue queues → All (λ (q : Queue). f.channel ≡ q.channel → ⊥) queues → All (AreApart f) (on_channels queues)
apart-queues f [] above a ne = All-nil (AreApart f)
apart-queues f (q ∷ later) above a ne =
    let P : Queue → Type 0 = λ (q : Queue). f.channel ≡ q.channel → ⊥ in
    All-append (AreApart f) (frames_of q.frames.items) (on_channels later) (apart-queue f q above (All-head IsQueue q later a) (All-head P q later ne)) (apart-queues f later above (All-tail IsQueue q later a) (All-tail P q later ne))

-- the queues before and after one are of other channels
before-differ : (queues : List Queue) (at : ℕ) (d : Queue) → Ascends queues → at < length queues → All (λ (q : Queue). (get_or queues at d).channel ≡ q.channel → ⊥) (take at queues)
before-differ queues at d a h = λ k e l z.
    let n = length-take-le at queues (omega arith) in
    let s = ap (λ (q : Queue). q.channel) (get_or-take at queues k e (omega arith) ∙ get_or_default queues k e d (omega arith)) in
    let x = ascends-at queues k at d a (omega arith) h in
    omega arith

after-differ : (queues : List Queue) (at : ℕ) (d : Queue) → Ascends queues → at < length queues → All (λ (q : Queue). (get_or queues at d).channel ≡ q.channel → ⊥) (drop (suc at) queues)
after-differ queues at d a h = λ k e l z.
    let n = length-drop (suc at) queues in
    let s = ap (λ (q : Queue). q.channel) (get_or-drop (suc at) queues k e ∙ get_or_default queues (suc at + k) e d (omega arith)) in
    let x = ascends-at queues at (suc at + k) d a (omega arith) (omega arith) in
    omega arith

-- a chunk comes to its queue
pub row-takes : OneRow → PutsMakeRow → PutArranges → (last : ℕ) (chunk : Chunk) (olds news : List Queue) → IsChannel last → IsChunk chunk → All IsQueue olds → Ascends olds → QueueTakes chunk olds news
    → arranged last (on_channels news) ≡ placed last (frame_of chunk) (arranged last (on_channels olds))
row-takes one made puts last chunk olds news l whole sound asc t =
    let f = frame_of chunk in
    let q = get_or olds t.at t.new in
    let a = on_channels (take t.at olds) in
    let b = on_channels (drop (suc t.at) olds) in
    let own : chunk.slot.channel ≡ q.channel = sym t.own ∙ t.channel in
    let is = sound t.at t.new t.within in
    let above : 0 < f.channel = rw own is.above in
    let old_is : on_channels olds ≡ (a ++ frames_of q.frames.items) ++ b = on-split olds t.at t.new t.within ∙ sym (append_assoc a (frames_of q.frames.items) b) in
    let chunks : frames_of t.new.frames.items ≡ frames_of q.frames.items ++ f ∷ [] = ap frames_of t.chunks ∙ map-append frame_of q.frames.items (chunk ∷ []) in
    let new_is : on_channels news ≡ (a ++ frames_of q.frames.items) ++ f ∷ b =
    ap on_channels t.news_are ∙ (on-set olds t.at t.new t.within ∙ (ap (λ l. a ++ (l ++ b)) chunks ∙ (ap (λ l. a ++ l) (append_assoc (frames_of q.frames.items) (f ∷ []) b) ∙ sym (append_assoc a (frames_of q.frames.items) (f ∷ b))))) in
    let before = all-above (take t.at olds) (All-take IsQueue t.at olds sound) in
    let after = all-above (drop (suc t.at) olds) (All-drop IsQueue (suc t.at) olds sound) in
    let ca : All HasChannel (a ++ frames_of q.frames.items) = above-channels _ (All-append IsAbove a (frames_of q.frames.items) before (above-frames q is)) in
    let P : Queue → Type 0 = λ (x : Queue). q.channel ≡ x.channel → ⊥ in
    let Q : Queue → Type 0 = λ (x : Queue). f.channel ≡ x.channel → ⊥ in
    let differ = All-weaker P Q (λ x ne e. ne (sym own ∙ e)) (drop (suc t.at) olds) (after-differ olds t.at t.new asc t.within) in
    let apart_b = apart-queues f (drop (suc t.at) olds) above (All-drop IsQueue (suc t.at) olds sound) differ in
    ap (arranged last) new_is ∙ (put-on one made puts last f (a ++ frames_of q.frames.items) b l whole.channel ca (above-channels b after) apart_b ∙ ap (λ w. placed last f (arranged last w)) (sym old_is))

-- queues that take a chunk stay sound
pub sound-takes : (chunk : Chunk) (olds news : List Queue) → IsChunk chunk → All IsQueue olds → QueueTakes chunk olds news → All IsQueue news
sound-takes chunk olds news whole sound t =
    let is = sound t.at t.new t.within in
    let q = get_or olds t.at t.new in
    let chunks : All (IsOn q.channel) (q.frames.items ++ chunk ∷ []) = All-push (IsOn q.channel) q.frames.items chunk is.chunks (whole, sym t.own ∙ t.channel) in
    rw t.news_are (All-set IsQueue olds t.at t.new
    (record {
      above = rw t.channel is.above;
      channel = rw t.channel is.channel;
      chunks = subst (λ (xs : List Chunk). All (IsOn t.new.channel) xs) (sym t.chunks) (subst (λ c. All (IsOn c) (q.frames.items ++ chunk ∷ [])) (sym t.channel) chunks);
    }) sound)

pub ascends-takes : (chunk : Chunk) (olds news : List Queue) → Ascends olds → QueueTakes chunk olds news → Ascends news
ascends-takes chunk olds news a t = rw t.news_are (ascends-set olds t.at t.new t.within t.channel a)

-- The oldest chunk of the queue whose turn is next leaves it.

turn-in : LowestAboveComesFirst → (last : ℕ) (f g : Frame) → IsChannel last → IsAbove f → IsAbove g → ComesNoLater last f.channel g.channel → turn last f ≤ turn last g
turn-in lowest last f g l u v c =
    let s = (lowest last f.channel g.channel l u.above u.channel v.above v.channel).1 c in
    let a = turn-above last f u.above in
    let b = turn-above last g v.above in
    omega arith

All-parts : {X : Type 0} (P : X → Type 0) (xs ys : List X) → All P (xs ++ ys) → All P xs × All P ys
All-parts P [] ys a = (All-nil P, a)
All-parts P (x ∷ xs) ys a = let r = All-parts P xs ys (All-tail P x (xs ++ ys) a) in (All-cons P x xs (All-head P x (xs ++ ys) a) r.0, r.1)

pub no-items : (q : Queue) → IsEmpty q → q.frames.items ≡ []
no-items q e = by q.frames.items (let l = as-long q in omega arith)
  where
    by : (xs : List Chunk) → length xs ≡ 0 → xs ≡ []
    by [] h = refl
    by (x ∷ xs) h = absurd (omega arith)

turns-queue : LowestAboveComesFirst → (last : ℕ) (f : Frame) (queue : Queue) → IsChannel last → IsAbove f → IsQueue queue → ComesNoLater last f.channel queue.channel → All (λ other. turn last f ≤ turn last other) (frames_of queue.frames.items)
turns-queue lowest last f queue l u q c =
    let P : Frame → Type 0 = λ other. turn last f ≤ turn last other in
    All-map P frame_of queue.frames.items (All-weaker (IsOn queue.channel) (λ x. P (frame_of x))
    (λ x on. turn-in lowest last f (frame_of x) l u (above-frame queue.channel x q.above on) (subst (ComesNoLater last f.channel) (sym on.1) c)) queue.frames.items q.chunks)

turns-queues : LowestAboveComesFirst → (last : ℕ) (f : Frame) (queues : List Queue) → IsChannel last → IsAbove f → All IsQueue queues → All (IsNoLater last f.channel) queues → All (λ other. turn last f ≤ turn last other) (on_channels queues)
turns-queues lowest last f [] l u a c = All-nil _
turns-queues lowest last f (q ∷ later) l u a c =
    let P : Frame → Type 0 = λ other. turn last f ≤ turn last other in
    All-append P (frames_of q.frames.items) (on_channels later) (by (All-head (IsNoLater last f.channel) q later c)) (turns-queues lowest last f later l u (All-tail IsQueue q later a) (All-tail (IsNoLater last f.channel) q later c))
  where
    by : IsNoLater last f.channel q → All (λ other. turn last f ≤ turn last other) (frames_of q.frames.items)
    by (inl e) = let none = no-items q e in ap-none q.frames.items none
      where
        ap-none : (xs : List Chunk) → xs ≡ [] → All (λ other. turn last f ≤ turn last other) (frames_of xs)
        ap-none [] n = All-nil _
        ap-none (x ∷ xs) n = let z = ap length n in absurd (omega arith)
    by (inr n) = turns-queue lowest last f q l u (All-head IsQueue q later a) n

pub sound-gives : (at : ℕ) (result : Option Chunk) (olds news : List Queue) → at < length olds → All IsQueue olds → QueueGives at result olds news → All IsQueue news
sound-gives at result olds news h sound g =
    let is = sound at g.new h in
    let q = get_or olds at g.new in
    let all_own : All (IsOn q.channel) (option_to_list result ++ g.new.frames.items) = rw (sym g.chunks) is.chunks in
    let rest = (All-parts (IsOn q.channel) (option_to_list result) g.new.frames.items all_own).1 in
    rw g.news_are (All-set IsQueue olds at g.new
    (record { above = rw g.channel is.above; channel = rw g.channel is.channel; chunks = subst (λ c. All (IsOn c) g.new.frames.items) (sym g.channel) rest }) sound)

pub gave-whole : (at : ℕ) (chunk : Chunk) (olds news : List Queue) → at < length olds → All IsQueue olds → QueueGives at (Some chunk) olds news → IsChunk chunk
gave-whole at chunk olds news h sound g =
    let is = sound at g.new h in
    let q = get_or olds at g.new in
    let all_own : All (IsOn q.channel) (chunk ∷ g.new.frames.items) = subst (λ (xs : List Chunk). All (IsOn q.channel) xs) g.chunks is.chunks in
    (All-head (IsOn q.channel) chunk g.new.frames.items all_own).0

pub ascends-gives : (at : ℕ) (result : Option Chunk) (olds news : List Queue) → at < length olds → Ascends olds → QueueGives at result olds news → Ascends news
ascends-gives at result olds news h a g = rw g.news_are (ascends-set olds at g.new h g.channel a)

-- what is left of a row
pub row-gives : OneRow → PutsMakeRow → LowestAboveComesFirst → (last at : ℕ) (chunk : Chunk) (olds news : List Queue) → IsChannel last → All IsQueue olds → Ascends olds → IsTurnOf last at olds → QueueGives at (Some chunk) olds news
    → arranged last (on_channels olds) ≡ frame_of chunk ∷ arranged (last_after last (frame_of chunk)) (on_channels news)
row-gives one made lowest last at chunk olds news l sound asc t g =
    let f = frame_of chunk in
    let q = get_or olds at g.new in
    let a = on_channels (take at olds) in
    let c = on_channels (drop (suc at) olds) in
    let is = sound at g.new t.within in
    let all_own : All (IsOn q.channel) (chunk ∷ g.new.frames.items) = subst (λ (xs : List Chunk). All (IsOn q.channel) xs) g.chunks is.chunks in
    let mine = All-head (IsOn q.channel) chunk g.new.frames.items all_own in
    let rest = All-tail (IsOn q.channel) chunk g.new.frames.items all_own in
    let u : IsAbove f = above-frame q.channel chunk is.above mine in
    let old_is : on_channels olds ≡ a ++ f ∷ (frames_of g.new.frames.items ++ c) = on-split olds at g.new t.within ∙ ap (λ l. a ++ (frames_of l ++ c)) g.chunks in
    let new_is : on_channels news ≡ a ++ (frames_of g.new.frames.items ++ c) = ap on_channels g.news_are ∙ on-set olds at g.new t.within in
    let b = frames_of g.new.frames.items ++ c in
    let news_sound : All IsQueue news = sound-gives at (Some chunk) olds news t.within sound g in
    let P : Queue → Type 0 = λ (x : Queue). q.channel ≡ x.channel → ⊥ in
    let Q : Queue → Type 0 = λ (x : Queue). f.channel ≡ x.channel → ⊥ in
    let apart_a = apart-queues f (take at olds) u.above (All-take IsQueue at olds sound) (All-weaker P Q (λ x ne e. ne (sym mine.1 ∙ e)) (take at olds) (before-differ olds at g.new asc t.within)) in
    let above_all : All IsAbove (a ++ b) = rw (sym new_is) (all-above news news_sound) in
    let parts = All-parts IsAbove a b above_all in
    let T : Frame → Type 0 = λ other. turn last f ≤ turn last other in
    let first : All (IsNoLater last f.channel) olds = subst (λ (n : ℕ). All (IsNoLater last n) olds) (sym mine.1) (t.first g.new) in
    let turns : All T (a ++ f ∷ b) = rw (sym old_is) (turns-queues lowest last f olds l u sound first) in
    let sides = All-parts T a (f ∷ b) turns in
    let n : IsChannel (last_after last f) = rw (last-above last f u.above) u.channel in
    ap (arranged last) old_is
    ∙ (next-leaves one made last f a b l n u.channel (above-channels a parts.0) (above-channels b parts.1) apart_a (All-append T a b sides.0 (All-tail T f b sides.1))
    ∙ ap (λ w. f ∷ arranged (last_after last f) w) (sym new_is))

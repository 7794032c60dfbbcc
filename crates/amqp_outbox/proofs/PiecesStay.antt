-- Queues that keep their frames: one comes to them, or one of them changes.
use Rattle.std.proofs.Common.{◌≡◌, ℕ, zero, suc, ◌+◌, ◌-◌, ◌^◌, ◌<◌, ◌≤◌, ◌⊎◌, inl, inr, List, [], ◌∷◌, ◌++◌, length, take, drop, All, get_or, set, refl, sym, ap, ◌∙◌, subst, arith, append_assoc, take-append-drop, ne_eqb, ◌==◌}
use Rattle.std.specs.VecDeque.{deque_len, deque_capacity}
use Rattle.std.proofs.Math.Seq.{split_at}
use Rattle.std.proofs.lemmas.Bool.{cases_lt, cond-false}
use Rattle.std.proofs.lemmas.List.{get_or-take, get_or_default, length-take-le, set_split}
use Rattle.std.proofs.lemmas.List.Elements.{All-nil, All-cons, All-head, All-tail, All-set, All-append, All-take, All-drop, All-weaker}
use Rattle.amqp_outbox.specs.PiecesQueues.{frames_of, Ascends, IsOn, IsQueue, on_channels, is_on, count, HasQueue, AreThere, QueuesStay, RoomsKept, RoomsMade, IsUpTo, IsAfter}
use Rattle.amqp_outbox.specs.declared.queues.Chunk.{Chunk}
use Rattle.amqp_outbox.specs.declared.queues.Queue.{Queue}
use Rattle.amqp_outbox.proofs.PiecesRoom.{room-set, there-set, made-on}
use Rattle.amqp_outbox.proofs.PiecesSearch.{no-lower, up-to-at, after-at, has-at}

pub on-append : (xs ys : List Queue) → on_channels (xs ++ ys) ≡ on_channels xs ++ on_channels ys
on-append [] ys = refl
on-append (q ∷ xs) ys = ap (λ l. frames_of q.frames.items ++ l) (on-append xs ys) ∙ sym (append_assoc (frames_of q.frames.items) (on_channels xs) (on_channels ys))

-- the frames of several queues, with one of them
pub on-split : (queues : List Queue) (at : ℕ) (d : Queue) → at < length queues
    → on_channels queues ≡ on_channels (take at queues) ++ (frames_of (get_or queues at d).frames.items ++ on_channels (drop (suc at) queues))
on-split queues at d h = ap on_channels (split_at queues at d h) ∙ on-append (take at queues) (get_or queues at d ∷ drop (suc at) queues)

pub on-set : (queues : List Queue) (at : ℕ) (new : Queue) → at < length queues
    → on_channels (set queues at new) ≡ on_channels (take at queues) ++ (frames_of new.frames.items ++ on_channels (drop (suc at) queues))
on-set queues at new h = ap on_channels (set_split queues at new h) ∙ on-append (take at queues) (new ∷ drop (suc at) queues)

pub ascends-set : (queues : List Queue) (at : ℕ) (new : Queue) → at < length queues → new.channel ≡ (get_or queues at new).channel → Ascends queues → Ascends (set queues at new)
ascends-set [] at new h e a = tt
ascends-set (q ∷ later) zero new h e a = (subst (λ (c : ℕ). All (λ (other : Queue). c < other.channel) later) (sym e) a.0, a.1)
ascends-set (q ∷ later) (suc at) new h e a =
    let m = a.0 at new (omega arith) in
    (All-set (λ (other : Queue). q.channel < other.channel) later at new (omega arith) a.0, ascends-set later at new (omega arith) e a.1)

-- a queue gets room
pub stay-set : (olds mid : List Queue) (at : ℕ) (q new : Queue) → QueuesStay olds mid → at < length mid → q ≡ get_or mid at q → new.channel ≡ q.channel → new.frames.items ≡ q.frames.items → QueuesStay olds (set mid at new)
stay-set olds mid at q new s h is channel chunks =
    let e : get_or mid at new ≡ q = get_or_default mid at new q h ∙ sym is in
    let same : new.channel ≡ (get_or mid at new).channel = channel ∙ ap (λ (x : Queue). x.channel) (sym e) in
    let frames : new.frames.items ≡ (get_or mid at new).frames.items = chunks ∙ ap (λ (x : Queue). x.frames.items) (sym e) in
    let middle : on_channels (set mid at new) ≡ on_channels mid = on-set mid at new h ∙ (ap (λ l. on_channels (take at mid) ++ (frames_of l ++ on_channels (drop (suc at) mid))) frames ∙ sym (on-split mid at new h)) in
    record {
      frames = middle ∙ s.frames;
      ascends = ascends-set mid at new h same s.ascends;
      sound = λ a. let b = s.sound a in let old = b at new h in All-set IsQueue mid at new
          (record {
            above = rw same old.above;
            channel = rw same old.channel;
            chunks = subst (λ (xs : List Chunk). All (IsOn new.channel) xs) (sym frames) (subst (λ c. All (IsOn c) (get_or mid at new).frames.items) (sym same) old.chunks);
          }) b;
    }

pub kept-set : (olds mid : List Queue) (at : ℕ) (q new : Queue) → RoomsKept olds mid → at < length mid → q ≡ get_or mid at q → new.channel ≡ q.channel → deque_len new.frames ≡ deque_len q.frames
    → deque_capacity q.frames ≤ deque_capacity new.frames → RoomsKept olds (set mid at new)
kept-set olds mid at q new kept h is channel len cap staged r t =
    let k = kept staged r t in
    let e : get_or mid at new ≡ q = get_or_default mid at new q h ∙ sym is in
    let same : new.channel ≡ (get_or mid at new).channel = channel ∙ ap (λ (x : Queue). x.channel) (sym e) in
    let had : deque_len q.frames + count (is_on q.channel) staged ≤ deque_capacity q.frames = subst (λ (x : Queue). deque_len x.frames + count (is_on x.channel) staged ≤ deque_capacity x.frames) e (k.0 at new h) in
    let counts : count (is_on new.channel) staged ≡ count (is_on q.channel) staged = ap (λ c. count (is_on c) staged) channel in
    (room-set at mid new staged (omega arith) k.0, there-set at mid new staged same k.1)

pub made-set : (channel more at : ℕ) (olds mid : List Queue) (q new : Queue) → RoomsKept olds mid → Ascends mid → at < length mid → q ≡ get_or mid at q → new.channel ≡ q.channel → q.channel ≡ channel → 0 < channel
    → deque_len new.frames + more ≤ deque_capacity new.frames → RoomsMade channel more olds (set mid at new)
made-set channel more at olds mid q new kept a h is own mine above made staged chunk on stays few r t =
    let k = kept staged r t in
    let e : get_or mid at new ≡ q = get_or_default mid at new q h ∙ sym is in
    let same : new.channel ≡ (get_or mid at new).channel = own ∙ ap (λ (x : Queue). x.channel) (sym e) in
    made-on channel more at mid new staged chunk a h same (own ∙ mine) above made on few k.0 k.1

-- A queue comes to the others.

-- the queues before the place of a channel that has none are of lower channels
pub below-place : (channel n : ℕ) (queues : List Queue) → Ascends queues → n ≤ length queues → All (IsUpTo channel) (take n queues)
    → ((n ≡ 0) ⊎ ((d : Queue) → (get_or queues (n - 1) d).channel ≡ channel → ⊥)) → All (λ (q : Queue). q.channel < channel) (take n queues)
below-place channel n queues a w up (inl e) = λ k d h. let l = length-take-le n queues w in absurd (omega arith)
below-place channel n queues a w up (inr ne) = λ k d h.
    let l = length-take-le n queues w in
    let e = ap (λ (q : Queue). q.channel) (get_or-take n queues k d (omega arith)) in
    let x = no-lower queues k (n - 1) d a (omega arith) (omega arith) in
    let y = up-to-at channel n (n - 1) queues d w up (omega arith) in
    let z : ((get_or queues (n - 1) d).channel ≡ channel → ⊥) = ne d in
    omega arith

ascends-insert : (before after : List Queue) (new : Queue) → Ascends (before ++ after) → All (λ (q : Queue). q.channel < new.channel) before → All (λ (q : Queue). new.channel < q.channel) after → Ascends (before ++ new ∷ after)
ascends-insert [] after new a b c = (c, a)
ascends-insert (q ∷ before) after new a b c =
    let P : Queue → Type 0 = λ (other : Queue). q.channel < other.channel in
    let lower = All-head (λ (q : Queue). q.channel < new.channel) q before b in
    (insert-all P before after new lower a.0, ascends-insert before after new a.1 (All-tail (λ (q : Queue). q.channel < new.channel) q before b) c)
  where
    insert-all : (P : Queue → Type 0) (before after : List Queue) (new : Queue) → P new → All P (before ++ after) → All P (before ++ new ∷ after)
    insert-all P [] after new p a = All-cons P new after p a
    insert-all P (q ∷ before) after new p a = All-cons P q (before ++ new ∷ after) (All-head P q (before ++ after) a) (insert-all P before after new p (All-tail P q (before ++ after) a))

has-insert : (channel : ℕ) (before after : List Queue) (new : Queue) → HasQueue channel (before ++ after) → HasQueue channel (before ++ new ∷ after)
has-insert channel [] after new h = inr h
has-insert channel (q ∷ before) after new (inl h) = inl h
has-insert channel (q ∷ before) after new (inr h) = inr (has-insert channel before after new h)

-- a channel without a queue has no chunks
none-there : (channel n : ℕ) (queues : List Queue) → 0 < channel → n ≤ length queues → All (λ (q : Queue). q.channel < channel) (take n queues) → All (IsAfter channel) (drop n queues) → HasQueue channel queues → ⊥
none-there channel n queues above w lower after has =
    let r = has-at channel queues above has in
    by r.0 r.1 (r.2) (cases_lt r.0 n)
  where
    by : (k : ℕ) → k < length queues → ((d : Queue) → (get_or queues k d).channel ≡ channel) → (k < n) ⊎ (n ≤ k) → ⊥
    by k h e (inl l) =
        let d = some queues h in
        let c = length-take-le n queues w in
        let x = lower k d (omega arith) in
        let y = ap (λ (q : Queue). q.channel) (get_or-take n queues k d l) in
        let z = e d in
        omega arith
      where
        some : (queues : List Queue) → k < length queues → Queue
        some [] h = absurd (omega arith)
        some (q ∷ later) h = q
    by k h e (inr l) =
        let d = some queues h in
        let x = after-at channel n k queues d after l h in
        let z = e d in
        omega arith
      where
        some : (queues : List Queue) → k < length queues → Queue
        some [] h = absurd (omega arith)
        some (q ∷ later) h = q

count-none : (channel : ℕ) (queues : List Queue) (staged : List Chunk) → (HasQueue channel queues → ⊥) → AreThere queues staged → count (is_on channel) staged ≡ 0
count-none channel queues [] lacks t = refl
count-none channel queues (chunk ∷ staged) lacks t =
    let P : Chunk → Type 0 = λ (c : Chunk). HasQueue c.slot.channel queues in
    let has = All-head P chunk staged t in
    let e = ne_eqb chunk.slot.channel channel (λ z. lacks (subst (λ c. HasQueue c queues) z has)) in
    cond-false (chunk.slot.channel == channel) _ _ e ∙ count-none channel queues staged lacks (All-tail P chunk staged t)

pub stay-insert : (channel n : ℕ) (olds news : List Queue) (new : Queue) → news ≡ take n olds ++ new ∷ drop n olds → 0 < channel → channel < 2 ^ 16 → Ascends olds → All (λ (q : Queue). q.channel < channel) (take n olds) → All (IsAfter channel) (drop n olds)
    → new.channel ≡ channel → new.frames.items ≡ [] → QueuesStay olds news
stay-insert channel n olds news new is above fits a lower after own none = rw is (record {
  frames = on-append (take n olds) (new ∷ drop n olds) ∙ (ap (λ l. on_channels (take n olds) ++ (frames_of l ++ on_channels (drop n olds))) none ∙ (sym (on-append (take n olds) (drop n olds)) ∙ ap on_channels (take-append-drop n olds)));
  ascends = ascends-insert (take n olds) (drop n olds) new (rw (take-append-drop n olds) a) (rw own lower) (rw own after);
  sound = λ s. All-append IsQueue (take n olds) (new ∷ drop n olds) (All-take IsQueue n olds s) (All-cons IsQueue new (drop n olds)
      (record { above = rw own above; channel = rw own fits; chunks = rw none (All-nil _) }) (All-drop IsQueue n olds s));
})

pub kept-insert : (channel n : ℕ) (olds news : List Queue) (new : Queue) → news ≡ take n olds ++ new ∷ drop n olds → 0 < channel → n ≤ length olds → All (λ (q : Queue). q.channel < channel) (take n olds) → All (IsAfter channel) (drop n olds)
    → new.channel ≡ channel → deque_len new.frames ≡ 0 → RoomsKept olds news
kept-insert channel n olds news new is above w lower after own none staged r t =
    let P : Queue → Type 0 = λ (q : Queue). deque_len q.frames + count (is_on q.channel) staged ≤ deque_capacity q.frames in
    let zero : count (is_on new.channel) staged ≡ 0 = ap (λ c. count (is_on c) staged) own ∙ count-none channel olds staged (none-there channel n olds above w lower after) t in
    let Q : Chunk → Type 0 = λ (c : Chunk). HasQueue c.slot.channel olds in
    let R : Chunk → Type 0 = λ (c : Chunk). HasQueue c.slot.channel (take n olds ++ new ∷ drop n olds) in
    rw is (
      All-append P (take n olds) (new ∷ drop n olds) (All-take P n olds r) (All-cons P new (drop n olds) (omega arith) (All-drop P n olds r)),
      All-weaker Q R (λ c h. has-insert c.slot.channel (take n olds) (drop n olds) new (rw (take-append-drop n olds) h)) staged t,
    )

pub stay-same : (olds news : List Queue) → news ≡ olds → Ascends olds → QueuesStay olds news
stay-same olds news e a = rw e (record { frames = refl; ascends = a; sound = λ s. s })

pub kept-same : (olds news : List Queue) → news ≡ olds → RoomsKept olds news
kept-same olds news e staged r t = rw e (r, t)

-- the same of queues that are lent
pub within-in : (n : ℕ) (queues lent : List Queue) → lent ≡ queues → n ≤ length lent → n ≤ length queues
within-in n queues lent e h = subst (λ (l : List Queue). n ≤ length l) e h

pub after-in : (channel n : ℕ) (queues lent : List Queue) → lent ≡ queues → All (IsAfter channel) (drop n lent) → All (IsAfter channel) (drop n queues)
after-in channel n queues lent e h = subst (λ (l : List Queue). All (IsAfter channel) (drop n l)) e h

pub below-in : (channel n : ℕ) (queues lent : List Queue) → lent ≡ queues → Ascends queues → n ≤ length lent → All (IsUpTo channel) (take n lent)
    → ((n ≡ 0) ⊎ ((d : Queue) → (get_or queues (n - 1) d).channel ≡ channel → ⊥)) → All (λ (q : Queue). q.channel < channel) (take n queues)
below-in channel n queues lent e a w up none =
    below-place channel n queues a (within-in n queues lent e w) (subst (λ (l : List Queue). All (IsUpTo channel) (take n l)) e up) none

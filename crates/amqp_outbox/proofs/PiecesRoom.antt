-- Room for the chunks that are staged.
use Rattle.std.proofs.Common.{◌≡◌, ℕ, zero, suc, ◌+◌, ◌<◌, ◌≤◌, ◌⊎◌, inl, inr, Bool, true, false, cond, not, ◌&&◌, ◌==◌, List, [], ◌∷◌, ◌++◌, length, get_or, set, refl, sym, ap, ◌∙◌, subst, arith, ne_eqb, eq-eqb}
use Rattle.std.specs.Prelude.{Option}
use Rattle.std.specs.VecDeque.{deque_len, deque_capacity}
use Rattle.std.proofs.lemmas.Bool.{cond-true, cond-false, and_left, cases_lt, cases_eq}
use Rattle.std.proofs.lemmas.List.{get_or_default, get_or-set_same, get_or-set_other, length-set}
use Rattle.std.proofs.lemmas.List.Elements.{All-tail, All-set, All-weaker, All-push}
use Rattle.amqp_outbox.proofs.PiecesSearch.{ascends-at}
use Rattle.amqp_outbox.specs.PiecesQueues.{Ascends, is_plain, is_on, is_leaving_slot, count, HasQueue, RoomOn, AreThere, HaveRoom, HasRoomOn, AreSound, QueueGives, QueueTakes}
use Rattle.amqp_outbox.specs.declared.slots.Slot.{Slot}
use Rattle.amqp_outbox.specs.declared.queues.Chunk.{Chunk}
use Rattle.amqp_outbox.specs.declared.queues.Queue.{Queue}
use Rattle.amqp_outbox.specs.declared.queues.Queues.{Queues}

pub as-long : (q : Queue) → deque_len q.frames ≡ length q.frames.items
as-long q = q.frames.ok.0

count-more : (is : Slot → Bool) (chunk : Chunk) (staged : List Chunk) → count is staged ≤ count is (chunk ∷ staged)
count-more is chunk staged = by (is chunk.slot)
  where
    by : (b : Bool) → count is staged ≤ cond b (suc (count is staged)) (count is staged)
    by true = omega arith
    by false = omega arith

count-own : (is : Slot → Bool) (chunk : Chunk) (staged : List Chunk) → is chunk.slot ≡ true → count is (chunk ∷ staged) ≡ suc (count is staged)
count-own is chunk staged e = cond-true (is chunk.slot) _ _ e

pub count-all : (is : Slot → Bool) (staged : List Chunk) → count is staged ≤ length staged
count-all is [] = omega arith
count-all is (chunk ∷ staged) = by (is chunk.slot) (count-all is staged)
  where
    by : (b : Bool) → count is staged ≤ length staged → cond b (suc (count is staged)) (count is staged) ≤ suc (length staged)
    by true h = omega arith
    by false h = omega arith

count-last : (is : Slot → Bool) (staged : List Chunk) (chunk : Chunk) → count is (staged ++ chunk ∷ []) ≡ count is staged + count is (chunk ∷ [])
count-last is [] chunk = omega arith
count-last is (first ∷ staged) chunk = by (is first.slot) (count-last is staged chunk)
  where
    by : (b : Bool) → count is (staged ++ chunk ∷ []) ≡ count is staged + count is (chunk ∷ [])
        → cond b (suc (count is (staged ++ chunk ∷ []))) (count is (staged ++ chunk ∷ [])) ≡ cond b (suc (count is staged)) (count is staged) + count is (chunk ∷ [])
    by true h = omega arith
    by false h = omega arith

count-other : (is : Slot → Bool) (staged : List Chunk) (chunk : Chunk) → is chunk.slot ≡ false → count is (staged ++ chunk ∷ []) ≡ count is staged
count-other is staged chunk e = let a = count-last is staged chunk in let b : count is (chunk ∷ []) ≡ 0 = cond-false (is chunk.slot) _ _ e in omega arith

-- a queue that has room for so many more has it for those that are staged and one
count-fits : (is : Slot → Bool) (staged : List Chunk) (chunk : Chunk) (len cap more : ℕ) → length staged < more → len + more ≤ cap → len + count is (staged ++ chunk ∷ []) ≤ cap
count-fits is staged chunk len cap more h k =
    let a = count-last is staged chunk in
    let b = count-all is staged in
    let c = count-all is (chunk ∷ []) in
    omega arith

-- the first of the chunks needs no room any more
pub room-rest : (queues : Queues) (chunk : Chunk) (staged : List Chunk) → HaveRoom queues (chunk ∷ staged) → HaveRoom queues staged
room-rest queues chunk staged r =
    let a = count-more is_plain chunk staged in
    let b = count-more is_leaving_slot chunk staged in
    let p = r.plain in
    let l = r.leaving in
    let P : Queue → Type 0 = λ queue. deque_len queue.frames + count (is_on queue.channel) (chunk ∷ staged) ≤ deque_capacity queue.frames in
    let Q : Queue → Type 0 = λ queue. deque_len queue.frames + count (is_on queue.channel) staged ≤ deque_capacity queue.frames in
    record {
      plain = omega arith;
      channels = All-weaker P Q (λ queue h. let m = count-more (is_on queue.channel) chunk staged in omega arith) queues.channels.items r.channels;
      there = All-tail (λ (c : Chunk). HasQueue c.slot.channel queues.channels.items) chunk staged r.there;
      leaving = omega arith;
    }

-- and a chunk that is put takes it
pub room-plain : (old new : Queues) (chunk : Chunk) (staged : List Chunk) → new.channels ≡ old.channels → new.leaving ≡ old.leaving → deque_len new.plain ≡ deque_len old.plain + 1 → deque_capacity new.plain ≡ deque_capacity old.plain
    → is_plain chunk.slot ≡ true → HaveRoom old (chunk ∷ staged) → HaveRoom new staged
room-plain old new chunk staged e f len cap is r =
    let s = room-rest old chunk staged r in
    let own = count-own is_plain chunk staged is in
    let p = r.plain in
    record {
      plain = omega arith;
      channels = rw e s.channels;
      there = rw e s.there;
      leaving = rw f s.leaving;
    }

pub room-leaving : (old new : Queues) (chunk : Chunk) (staged : List Chunk) → new.plain ≡ old.plain → new.channels ≡ old.channels → deque_len new.leaving ≡ deque_len old.leaving + 1 → deque_capacity new.leaving ≡ deque_capacity old.leaving
    → is_leaving_slot chunk.slot ≡ true → HaveRoom old (chunk ∷ staged) → HaveRoom new staged
room-leaving old new chunk staged e f len cap is r =
    let s = room-rest old chunk staged r in
    let own = count-own is_leaving_slot chunk staged is in
    let p = r.leaving in
    record {
      plain = rw e s.plain;
      channels = rw f s.channels;
      there = rw f s.there;
      leaving = omega arith;
    }

has-set : (channel at : ℕ) (queues : List Queue) (new : Queue) → new.channel ≡ (get_or queues at new).channel → HasQueue channel queues → HasQueue channel (set queues at new)
has-set channel at [] new e h = h
has-set channel zero (q ∷ later) new e (inl h) = inl (e ∙ h)
has-set channel zero (q ∷ later) new e (inr h) = inr h
has-set channel (suc at) (q ∷ later) new e (inl h) = inl h
has-set channel (suc at) (q ∷ later) new e (inr h) = inr (has-set channel at later new e h)

pub there-set : (at : ℕ) (queues : List Queue) (new : Queue) (staged : List Chunk) → new.channel ≡ (get_or queues at new).channel → AreThere queues staged → AreThere (set queues at new) staged
there-set at queues new staged e a =
    let P : Chunk → Type 0 = λ (c : Chunk). HasQueue c.slot.channel queues in
    let Q : Chunk → Type 0 = λ (c : Chunk). HasQueue c.slot.channel (set queues at new) in
    All-weaker P Q (λ c h. has-set c.slot.channel at queues new e h) staged a

-- one of several queues changes, and has room
pub room-set : (at : ℕ) (queues : List Queue) (new : Queue) (staged : List Chunk) → deque_len new.frames + count (is_on new.channel) staged ≤ deque_capacity new.frames → RoomOn queues staged → RoomOn (set queues at new) staged
room-set at queues new staged h r = All-set (λ (queue : Queue). deque_len queue.frames + count (is_on queue.channel) staged ≤ deque_capacity queue.frames) queues at new h r

pub room-above : (old new : Queues) (chunk : Chunk) (staged : List Chunk) → new.plain ≡ old.plain → new.leaving ≡ old.leaving → QueueTakes chunk old.channels.items new.channels.items
    → HaveRoom old (chunk ∷ staged) → HaveRoom new staged
room-above old new chunk staged e f t r =
    let s = room-rest old chunk staged r in
    let olds = old.channels.items in
    let q = get_or olds t.at t.new in
    let had = r.channels t.at t.new t.within in
    let on : is_on q.channel chunk.slot ≡ true = eq-eqb chunk.slot.channel q.channel (sym t.own ∙ t.channel) in
    let own = count-own (is_on q.channel) chunk staged on in
    let same : count (is_on t.new.channel) staged ≡ count (is_on q.channel) staged = ap (λ c. count (is_on c) staged) t.channel in
    let len = t.count in
    let cap = t.room in
    record {
      plain = rw e s.plain;
      channels = rw t.news_are (room-set t.at olds t.new staged (omega arith) s.channels);
      there = rw t.news_are (there-set t.at olds t.new staged t.channel s.there);
      leaving = rw f s.leaving;
    }

-- a chunk that is taken leaves the others their room
room-taken : (at : ℕ) (result : Option Chunk) (olds news : List Queue) (staged : List Chunk) → at < length olds → QueueGives at result olds news → RoomOn olds staged → RoomOn news staged
room-taken at result olds news staged h g r =
    let had = r at g.new h in
    let len = g.count in
    let cap = g.room in
    let q = get_or olds at g.new in
    let same : count (is_on g.new.channel) staged ≡ count (is_on q.channel) staged = ap (λ c. count (is_on c) staged) g.channel in
    rw g.news_are (room-set at olds g.new staged (omega arith) r)

-- there is room on the channel of the first chunk
pub room-on : (queues : List Queue) (chunk : Chunk) (staged : List Chunk) → RoomOn queues (chunk ∷ staged) → HasRoomOn chunk.slot.channel queues
room-on queues chunk staged r =
    let P : Queue → Type 0 = λ queue. deque_len queue.frames + count (is_on queue.channel) (chunk ∷ staged) ≤ deque_capacity queue.frames in
    let Q : Queue → Type 0 = λ queue. queue.channel ≡ chunk.slot.channel → deque_len queue.frames < deque_capacity queue.frames in
    All-weaker P Q (λ queue h e. let own = count-own (is_on queue.channel) chunk staged (eq-eqb chunk.slot.channel queue.channel (sym e)) in omega arith) queues r

-- Room that is made.

has-zero : (queues : List Queue) → HasQueue 0 queues
has-zero [] = refl
has-zero (q ∷ later) = inr (has-zero later)

plain-not : (slot : Slot) → slot.leaving ≡ true → is_plain slot ≡ false
plain-not slot e = ap (λ b. (slot.channel == 0) && not b) e ∙ never (slot.channel == 0)
  where
    never : (a : Bool) → (a && false) ≡ false
    never true = refl
    never false = refl

above-not : (channel : ℕ) (slot : Slot) → slot.channel ≡ 0 → 0 < channel → is_on channel slot ≡ false
above-not channel slot e h = ne_eqb slot.channel channel (λ z. omega arith)

pub make-leaving : (old new : Queues) (more : ℕ) (staged : List Chunk) (chunk : Chunk) → AreSound old → new.plain ≡ old.plain → new.channels ≡ old.channels → deque_len new.leaving + more ≤ deque_capacity new.leaving
    → chunk.slot.leaving ≡ true → chunk.slot.channel ≡ 0 → length staged < more → HaveRoom old staged → HaveRoom new (staged ++ chunk ∷ [])
make-leaving old new more staged chunk sound e f made leaves none few r =
    let p = r.plain in
    let a = count-other is_plain staged chunk (plain-not chunk.slot leaves) in
    let P : Queue → Type 0 = λ queue. deque_len queue.frames + count (is_on queue.channel) staged ≤ deque_capacity queue.frames in
    let Q : Queue → Type 0 = λ queue. deque_len queue.frames + count (is_on queue.channel) (staged ++ chunk ∷ []) ≤ deque_capacity queue.frames in
    let on : RoomOn old.channels.items (staged ++ chunk ∷ []) = λ k d h. let s = sound.channels k d h in let q = get_or old.channels.items k d in
    let z = count-other (is_on q.channel) staged chunk (above-not q.channel chunk.slot none s.above) in let y = r.channels k d h in omega arith in
    let there : AreThere old.channels.items (staged ++ chunk ∷ []) = All-push (λ (c : Chunk). HasQueue c.slot.channel old.channels.items) staged chunk r.there (rw none (has-zero old.channels.items)) in
    record {
      plain = rw e (omega arith);
      channels = rw f on;
      there = rw f there;
      leaving = count-fits is_leaving_slot staged chunk _ _ more few made;
    }

pub make-plain : (old new : Queues) (more : ℕ) (staged : List Chunk) (chunk : Chunk) → AreSound old → new.leaving ≡ old.leaving → new.channels ≡ old.channels → deque_len new.plain + more ≤ deque_capacity new.plain
    → chunk.slot.leaving ≡ false → chunk.slot.channel ≡ 0 → length staged < more → HaveRoom old staged → HaveRoom new (staged ++ chunk ∷ [])
make-plain old new more staged chunk sound e f made stays none few r =
    let l = r.leaving in
    let a = count-other is_leaving_slot staged chunk stays in
    let on : RoomOn old.channels.items (staged ++ chunk ∷ []) = λ k d h. let s = sound.channels k d h in let q = get_or old.channels.items k d in
    let z = count-other (is_on q.channel) staged chunk (above-not q.channel chunk.slot none s.above) in let y = r.channels k d h in omega arith in
    let there : AreThere old.channels.items (staged ++ chunk ∷ []) = All-push (λ (c : Chunk). HasQueue c.slot.channel old.channels.items) staged chunk r.there (rw none (has-zero old.channels.items)) in
    record {
      plain = count-fits is_plain staged chunk _ _ more few made;
      channels = rw f on;
      there = rw f there;
      leaving = rw e (omega arith);
    }

pub make-above : (old new : Queues) (more : ℕ) (staged : List Chunk) (chunk : Chunk) → new.plain ≡ old.plain → new.leaving ≡ old.leaving
    → RoomOn new.channels.items (staged ++ chunk ∷ []) → AreThere new.channels.items (staged ++ chunk ∷ [])
    → chunk.slot.leaving ≡ false → 0 < chunk.slot.channel → HaveRoom old staged → HaveRoom new (staged ++ chunk ∷ [])
make-above old new more staged chunk e f on there stays above r =
    let p = r.plain in
    let l = r.leaving in
    let a = count-other is_leaving_slot staged chunk stays in
    let b = count-other is_plain staged chunk (and_left (chunk.slot.channel == 0) _ (ne_eqb chunk.slot.channel 0 (λ z. omega arith))) in
    record { plain = rw e (omega arith); channels = on; there = there; leaving = rw f (omega arith) }

-- the queue of a channel has room for so many more
pub made-on : (channel more at : ℕ) (olds : List Queue) (new : Queue) (staged : List Chunk) (chunk : Chunk) → Ascends olds → at < length olds → new.channel ≡ (get_or olds at new).channel → new.channel ≡ channel → 0 < channel
    → deque_len new.frames + more ≤ deque_capacity new.frames → chunk.slot.channel ≡ channel → length staged < more → RoomOn olds staged → AreThere olds staged
    → RoomOn (set olds at new) (staged ++ chunk ∷ []) × AreThere (set olds at new) (staged ++ chunk ∷ [])
made-on channel more at olds new staged chunk a h same own above made on few r t = (room, there)
  where
    P : Queue → Type 0
    P queue = deque_len queue.frames + count (is_on queue.channel) (staged ++ chunk ∷ []) ≤ deque_capacity queue.frames

    -- all queues but the one have their room as before
    other : (k : ℕ) (d : Queue) → k < length olds → (k ≡ at → ⊥) → P (get_or olds k d)
    other k d l ne =
        let q = get_or olds k d in
        let differs : (chunk.slot.channel ≡ q.channel → ⊥) = λ e. by k d l ne (cases_lt k at) (sym e ∙ (on ∙ (sym own ∙ (same ∙ ap (λ (x : Queue). x.channel) (get_or_default olds at new d h))))) in
        let z = count-other (is_on q.channel) staged chunk (ne_eqb chunk.slot.channel q.channel differs) in
        let y = r k d l in
        omega arith
      where
        by : (k : ℕ) (d : Queue) → k < length olds → (k ≡ at → ⊥) → (k < at) ⊎ (at ≤ k) → (get_or olds k d).channel ≡ (get_or olds at d).channel → ⊥
        by k d l ne (inl m) e = let x = ascends-at olds k at d a m h in omega arith
        by k d l ne (inr m) e = let x = ascends-at olds at k d a (strictly m ne) l in omega arith
          where
            strictly : at ≤ k → (k ≡ at → ⊥) → at < k
            strictly m ne = omega arith

    room : RoomOn (set olds at new) (staged ++ chunk ∷ [])
    room k d l = here (cases_eq k at)
      where
        in_all : k < length olds
        in_all = let n = length-set olds at new in omega arith

        here : (k ≡ at) ⊎ (k ≡ at → ⊥) → P (get_or (set olds at new) k d)
        here (inl e) = subst P (sym (ap (λ n. get_or (set olds at new) n d) e ∙ get_or-set_same olds at new d h)) (count-fits (is_on new.channel) staged chunk _ _ more few made)
        here (inr ne) = subst P (sym (get_or-set_other olds at k new d ne)) (other k d in_all ne)

    has : (at : ℕ) (queues : List Queue) → at < length queues → new.channel ≡ (get_or queues at new).channel → HasQueue channel (set queues at new)
    has at [] l e = absurd (omega arith)
    has zero (q ∷ later) l e = inl own
    has (suc at) (q ∷ later) l e = inr (has at later (omega arith) e)

    there : AreThere (set olds at new) (staged ++ chunk ∷ [])
    there = All-push (λ (c : Chunk). HasQueue c.slot.channel (set olds at new)) staged chunk (there-set at olds new staged same t) (rw on (has at olds h same))

-- a queue gives a chunk, and the others keep their room
pub room-gives : (at : ℕ) (result : Option Chunk) (old new : Queues) (staged : List Chunk) → at < length old.channels.items → QueueGives at result old.channels.items new.channels.items
    → deque_len new.plain ≤ deque_len old.plain → deque_capacity new.plain ≡ deque_capacity old.plain → new.leaving ≡ old.leaving → HaveRoom old staged → HaveRoom new staged
room-gives at result old new staged h g len cap e r =
    let p = r.plain in
    record {
      plain = omega arith;
      channels = room-taken at result old.channels.items new.channels.items staged h g r.channels;
      there = rw g.news_are (there-set at old.channels.items g.new staged g.channel r.there);
      leaving = rw e r.leaving;
    }

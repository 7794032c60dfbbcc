-- Steps round the channels, and when a frame's turn comes.
use Rattle.std.proofs.Common.{◌≡◌, ℕ, ◌+◌, ◌-◌, ◌<◌, ◌≤◌, Bool, true, false, not, ◌&&◌}
use Rattle.std.proofs.Common.{◌==◌, nat_lt, ◌⊎◌, inl, inr, refl, sym, ap, ◌∙◌, arith, lt-ltb, le-ltb}
use Rattle.std.proofs.Common.{eq-eqb, ne_eqb, ltb-true, ap₂}
use Rattle.std.proofs.lemmas.Bool.{cases_lt, cond-true, cond-false, and_parts, eqb-true, eqb-false, not-true, and_from}
use Rattle.std.proofs.lemmas.Bool.{and_left, not_from_false}
use Rattle.amqp_frame.specs.Frame.{Frame}
use Rattle.amqp_model.specs.Output.Arrangement.{is_leaving, Queue, PlainFrames, FramesOn, LeavingFrames, is_in, steps}
use Rattle.amqp_model.specs.Output.Arrangement.{turn, last_after, HasChannel}

abbrev pub Up : (from to : ℕ) → Type 0
Up from to = (from < to) × (steps from to ≡ to - from)

abbrev pub Round : (from to : ℕ) → Type 0
Round from to = (to ≤ from) × (steps from to ≡ (to + 65535) - from)

pub steps-cases : (from to : ℕ) → Up from to ⊎ Round from to
steps-cases from to = cases (cases_lt from to)
  where
    cases : (from < to) ⊎ (to ≤ from) → Up from to ⊎ Round from to
    cases (inl h) = inl (h, cond-true (nat_lt from to) _ _ (lt-ltb from to h))
    cases (inr h) = inr (h, cond-false (nat_lt from to) _ _ (le-ltb from to h))

pub steps-most : (from to : ℕ) → to < 65536 → steps from to < 65536
steps-most from to h = cases (steps-cases from to)
  where
    cases : Up from to ⊎ Round from to → steps from to < 65536
    cases (inl s) = omega arith
    cases (inr s) = omega arith

pub steps-least : (from to : ℕ) → from < 65536 → 0 < to → 0 < steps from to
steps-least from to h k = cases (steps-cases from to)
  where
    cases : Up from to ⊎ Round from to → 0 < steps from to
    cases (inl s) = omega arith
    cases (inr s) = omega arith

-- another number of steps leads to another channel
pub steps-same : (from a b : ℕ) → from < 65536 → 0 < a → a < 65536 → 0 < b → b < 65536
    → steps from a ≡ steps from b → a ≡ b
steps-same from a b h a0 a1 b0 b1 e = cases (steps-cases from a) (steps-cases from b)
  where
    cases : Up from a ⊎ Round from a → Up from b ⊎ Round from b → a ≡ b
    cases (inl s) (inl t) = omega arith
    cases (inl s) (inr t) = omega arith
    cases (inr s) (inl t) = omega arith
    cases (inr s) (inr t) = omega arith

-- a channel that is met on the way to another one parts the way
pub steps-parted : (from a b : ℕ) → from < 65536 → a < 65536 → b < 65536 → steps from a < steps from b
    → steps a b + steps from a ≡ steps from b
steps-parted from a b h a1 b1 l = cases (steps-cases from a) (steps-cases from b) (steps-cases a b)
  where
    cases : Up from a ⊎ Round from a → Up from b ⊎ Round from b → Up a b ⊎ Round a b
        → steps a b + steps from a ≡ steps from b
    cases (inl s) (inl t) (inl u) = omega arith
    cases (inl s) (inl t) (inr u) = omega arith
    cases (inl s) (inr t) (inl u) = omega arith
    cases (inl s) (inr t) (inr u) = omega arith
    cases (inr s) (inl t) (inl u) = omega arith
    cases (inr s) (inl t) (inr u) = omega arith
    cases (inr s) (inr t) (inl u) = omega arith
    cases (inr s) (inr t) (inr u) = omega arith

-- which of the three rules a frame leaves by
pub data Rank (f : Frame) : Type 0 where
  plain : f.channel ≡ 0 → is_leaving f ≡ false → Rank f
  in_turn : 0 < f.channel → is_leaving f ≡ false → Rank f
  leaves : f.channel ≡ 0 → is_leaving f ≡ true → Rank f

pub leaving-channel : (f : Frame) → is_leaving f ≡ true → f.channel ≡ 0
leaving-channel f h = eqb-true f.channel 0 (and_parts (f.channel == 0) _ h).0

pub rank : (f : Frame) → Rank f
rank f = cases (is_leaving f) refl (f.channel == 0) refl
  where
    cases : (leaving : Bool) → is_leaving f ≡ leaving → (on_0 : Bool) → (f.channel == 0) ≡ on_0 → Rank f
    cases true l on_0 z = leaves (leaving-channel f l) l
    cases false l true z = plain (eqb-true f.channel 0 z) l
    cases false l false z = let h = eqb-false f.channel 0 z in in_turn (omega arith) l

pub turn-plain : (last : ℕ) (f : Frame) → f.channel ≡ 0 → is_leaving f ≡ false → turn last f ≡ 0
turn-plain last f z l = cond-false (is_leaving f) _ _ l ∙ cond-true (f.channel == 0) _ _ (eq-eqb f.channel 0 z)

nonzero : (n : ℕ) → 0 < n → (n == 0) ≡ false
nonzero n h = ne_eqb n 0 (λ e. omega arith)

pub turn-in_turn : (last : ℕ) (f : Frame) → 0 < f.channel → is_leaving f ≡ false
    → turn last f ≡ steps last f.channel
turn-in_turn last f z l = cond-false (is_leaving f) _ _ l ∙ cond-false (f.channel == 0) _ _ (nonzero f.channel z)

pub turn-leaves : (last : ℕ) (f : Frame) → is_leaving f ≡ true → turn last f ≡ 65536
turn-leaves last f l = cond-true (is_leaving f) _ _ l

pub last-stays : (last : ℕ) (f : Frame) → f.channel ≡ 0 → last_after last f ≡ last
last-stays last f z = cond-true (f.channel == 0) _ _ (eq-eqb f.channel 0 z)

pub last-moves : (last : ℕ) (f : Frame) → 0 < f.channel → last_after last f ≡ f.channel
last-moves last f z = cond-false (f.channel == 0) _ _ (nonzero f.channel z)

pub last-channel : (last : ℕ) (f : Frame) → last < 65536 → HasChannel f → last_after last f < 65536
last-channel last f h k = cases (rank f)
  where
    cases : Rank f → last_after last f < 65536
    cases (plain z l) = rw (last-stays last f z) h
    cases (in_turn z l) = rw (last-moves last f z) k
    cases (leaves z l) = rw (last-stays last f z) h

-- no turn is later than that of a frame that leaves the connection
pub turn-most : (last : ℕ) (f : Frame) → HasChannel f → turn last f ≤ 65536
turn-most last f h = cases (rank f)
  where
    cases : Rank f → turn last f ≤ 65536
    cases (plain z l) = let a = turn-plain last f z l in omega arith
    cases (leaves z l) = let a = turn-leaves last f l in omega arith
    cases (in_turn z l) =
        let a = turn-in_turn last f z l in
        let b = steps-most last f.channel h in
        omega arith

-- a frame of the queue of a channel
pub in-channel : (c : ℕ) (f : Frame) → is_in (FramesOn c) f ≡ true → (f.channel ≡ c) × (0 < f.channel)
    × (is_leaving f ≡ false)
in-channel c f h =
    let p = and_parts (nat_lt 0 c) (f.channel == c) h in
    let same = eqb-true f.channel c p.1 in
    let above : 0 < f.channel = rw same (ltb-true 0 c p.0) in
    (same, above, and_left (f.channel == 0) _ (nonzero f.channel above))

same_queue : (f g : Frame) → f.channel ≡ g.channel → is_leaving f ≡ is_leaving g → (queue : Queue)
    → is_in queue f ≡ is_in queue g
same_queue f g e l PlainFrames = ap₂ (λ c b. (c == 0) && not b) e l
same_queue f g e l LeavingFrames = l
same_queue f g e l (FramesOn c) = ap (λ d. nat_lt 0 c && (d == c)) e

-- what has its turn no later than another does so still, once a frame is begun that has its turn before both
pub turn-later : (last : ℕ) (f g h : Frame) → last < 65536 → HasChannel f → HasChannel g → HasChannel h
    → turn last f < turn last g → turn last g ≤ turn last h
    → turn (last_after last f) g ≤ turn (last_after last f) h
turn-later last f g h l cf cg ch before after = cases (rank f) (rank g) (rank h)
  where
    kept : f.channel ≡ 0 → turn (last_after last f) g ≤ turn (last_after last f) h
    kept z = rw (last-stays last f z) after

    cases : Rank f → Rank g → Rank h → turn (last_after last f) g ≤ turn (last_after last f) h
    cases (plain z n) _ _ = kept z
    cases (leaves z n) _ _ = kept z
    cases (in_turn fz fn) (plain gz gn) _ = let a = turn-plain last g gz gn in absurd (omega arith)
    cases (in_turn fz fn) _ (leaves hz hn) =
        let a = turn-leaves (last_after last f) h hn in
        let b = turn-most (last_after last f) g cg in
        omega arith
    cases (in_turn fz fn) _ (plain hz hn) = let a = turn-plain last h hz hn in absurd (omega arith)
    cases (in_turn fz fn) (leaves gz gn) (in_turn hz hn) =
        let a = turn-leaves last g gn in
        let b = turn-in_turn last h hz hn in
        let c = steps-most last h.channel ch in
        absurd (omega arith)
    cases (in_turn fz fn) (in_turn gz gn) (in_turn hz hn) =
        let a = turn-in_turn last f fz fn in
        let b = turn-in_turn last g gz gn in
        let c = turn-in_turn last h hz hn in
        let d = steps-parted last f.channel g.channel l cf cg (omega arith) in
        let e = steps-parted last f.channel h.channel l cf ch (omega arith) in
        rw (last-moves last f fz, turn-in_turn f.channel g gz gn, turn-in_turn f.channel h hz hn) (omega arith)

-- frames of one queue have their turn together
pub turn-queue : (last : ℕ) (queue : Queue) (f g : Frame) → is_in queue f ≡ true → is_in queue g ≡ true
    → turn last f ≡ turn last g
turn-queue last PlainFrames f g a b =
    let p = and_parts _ _ a in
    let q = and_parts _ _ b in
    turn-plain last f (eqb-true f.channel 0 p.0) (not-true _ p.1)
    ∙ sym (turn-plain last g (eqb-true g.channel 0 q.0) (not-true _ q.1))
turn-queue last LeavingFrames f g a b = turn-leaves last f a ∙ sym (turn-leaves last g b)
turn-queue last (FramesOn c) f g a b =
    let p = in-channel c f a in
    let q = in-channel c g b in
    turn-in_turn last f p.1 p.2 ∙ (ap (steps last) (p.0 ∙ sym q.0) ∙ sym (turn-in_turn last g q.1 q.2))

-- the queue that a frame is in
pub data Queued (f : Frame) : Type 0 where
  queued_in : (queue : Queue) → is_in queue f ≡ true → Queued f

pub queue-of : (f : Frame) → Queued f
queue-of f = cases (rank f)
  where
    cases : Rank f → Queued f
    cases (plain z l) =
        queued_in PlainFrames
        (and_from (f.channel == 0) (not (is_leaving f)) (eq-eqb f.channel 0 z) (not_from_false _ l))
    cases (in_turn z l) =
        queued_in (FramesOn f.channel) (and_from (nat_lt 0 f.channel) (f.channel == f.channel) (lt-ltb 0 f.channel z)
        (eq-eqb f.channel f.channel refl))
    cases (leaves z l) = queued_in LeavingFrames l

-- frames that have their turn together are in the same queues
pub queue-turn : (last : ℕ) (f g : Frame) → last < 65536 → HasChannel f → HasChannel g
    → turn last f ≡ turn last g → (queue : Queue) → is_in queue f ≡ is_in queue g
queue-turn last f g l cf cg e queue = cases (rank f) (rank g)
  where
    cases : Rank f → Rank g → is_in queue f ≡ is_in queue g
    cases (plain z n) (plain y m) = same_queue f g (z ∙ sym y) (n ∙ sym m) queue
    cases (leaves z n) (leaves y m) = same_queue f g (z ∙ sym y) (n ∙ sym m) queue
    cases (in_turn z n) (in_turn y m) =
        let a = turn-in_turn last f z n in
        let b = turn-in_turn last g y m in
        same_queue f g (steps-same last f.channel g.channel l z cf y cg (sym a ∙ (e ∙ b))) (n ∙ sym m) queue
    cases (plain z n) (in_turn y m) =
        let a = turn-plain last f z n in
        let b = turn-in_turn last g y m in
        let c = steps-least last g.channel l y in
        absurd (omega arith)
    cases (in_turn y m) (plain z n) =
        let a = turn-plain last g z n in
        let b = turn-in_turn last f y m in
        let c = steps-least last f.channel l y in
        absurd (omega arith)
    cases (plain z n) (leaves y m) =
        let a = turn-plain last f z n in
        let b = turn-leaves last g m in
        absurd (omega arith)
    cases (leaves y m) (plain z n) =
        let a = turn-plain last g z n in
        let b = turn-leaves last f m in
        absurd (omega arith)
    cases (in_turn z n) (leaves y m) =
        let a = turn-in_turn last f z n in
        let b = turn-leaves last g m in
        let c = steps-most last f.channel cf in
        absurd (omega arith)
    cases (leaves y m) (in_turn z n) =
        let a = turn-in_turn last g z n in
        let b = turn-leaves last f m in
        let c = steps-most last g.channel cg in
        absurd (omega arith)

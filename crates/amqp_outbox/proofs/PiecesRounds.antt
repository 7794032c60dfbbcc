-- The rounds of a ring: what its lines are as the turn goes on.
use Rattle.std.proofs.Common.{◌≡◌, ℕ, suc, ◌+◌, ◌-◌, ◌^◌, ◌<◌, ◌≤◌, ◌⊎◌, inl, inr, min, List, [], ◌∷◌, ◌++◌, length, get_or, take, drop, All, refl, sym, ap, ap₂, ◌∙◌, subst, arith, append_assoc, append-nil, length-append, length-drop}
use Rattle.std.specs.VecDeque.{deque_len}
use Rattle.std.proofs.Math.Seq.{drop-cons}
use Rattle.std.proofs.lemmas.Bool.{cases_lt}
use Rattle.std.proofs.lemmas.List.{take_more, take_all, drop-drop, drop-append-le, map-append, length-map, get_or-map, length-take-le}
use Rattle.std.proofs.lemmas.List.Elements.{All-head, All-tail, All-push}
use Rattle.amqp_frame.specs.Frame.{Frame}
use Rattle.amqp_model.specs.Output.Arrangement.{IsChannel, arranged}
use Rattle.amqp_model.specs.Laws.ArrangementLaws.{OneRow, PutsMakeRow}
use Rattle.amqp_outbox.specs.PiecesQueues.{frame_of, frames_of}
use Rattle.amqp_outbox.specs.PiecesRing.{Line, line_of, lines_of, flat, IsRing, lines_at, IsIdle}
use Rattle.amqp_outbox.specs.declared.queues.Chunk.{Chunk}
use Rattle.amqp_outbox.specs.declared.queues.Queue.{Queue}
use Rattle.amqp_outbox.proofs.PiecesRoom.{as-long}
use Rattle.amqp_outbox.proofs.PiecesTurns.{head, lent, line-lends, ring-turns}

-- the lines after the one at whose queue the turn stands
abbrev pub rest_at : (round at : ℕ) → List Queue → List Line
rest_at round at queues = lines_of round (drop (suc at) queues) ++ lines_of (suc round) (take at queues)

pub line-first : (round at : ℕ) (queues : List Queue) (d : Queue) → at < length queues → lines_at round at queues ≡ line_of round (get_or queues at d) ∷ rest_at round at queues
line-first round at queues d h = ap (λ qs. lines_of round qs ++ lines_of (suc round) (take at queues)) (drop-cons queues at d h)

lent-line : (round : ℕ) (queue : Queue) → line_of (suc round) queue ≡ lent (line_of round queue)
lent-line round queue =
    let same : suc round ≡ round + 1 = omega arith in
    ap (λ fs. record { channel = queue.channel; frames = fs }) (ap (λ n. drop n (frames_of queue.frames.items)) same ∙ sym (drop-drop 1 round (frames_of queue.frames.items)))

pub line-last : (round at : ℕ) (queues : List Queue) (d : Queue) → at < length queues → lines_at round (at + 1) queues ≡ rest_at round at queues ++ lent (line_of round (get_or queues at d)) ∷ []
line-last round at queues d h =
    let q = get_or queues at d in
    let same : at + 1 ≡ suc at = omega arith in
    ap₂ (λ a b. lines_of round a ++ lines_of (suc round) b) (ap (λ n. drop n queues) same) (take_more queues at d h)
    ∙ (ap (λ ls. lines_of round (drop (suc at) queues) ++ ls) (map-append (line_of (suc round)) (take at queues) (q ∷ []) ∙ ap (λ l. lines_of (suc round) (take at queues) ++ l ∷ []) (lent-line round q))
    ∙ sym (append_assoc (lines_of round (drop (suc at) queues)) (lines_of (suc round) (take at queues)) (lent (line_of round q) ∷ [])))

count-lines : (round at : ℕ) (queues : List Queue) → at ≤ length queues → length (lines_at round at queues) ≡ length queues
count-lines round at queues h =
    let a = length-append (lines_of round (drop at queues)) (lines_of (suc round) (take at queues)) in
    let b = length-map (drop at queues) (line_of round) in
    let c = length-map (take at queues) (line_of (suc round)) in
    let e = length-drop at queues in
    let f = length-take-le at queues h in
    omega arith

-- What a queue lends in a round.

pub frame-lent : (round : ℕ) (queue : Queue) (chunk : Chunk) → round < deque_len queue.frames → chunk ≡ get_or queue.frames.items round chunk → head (line_of round queue).frames ≡ frame_of chunk ∷ []
frame-lent round queue chunk h is =
    let l = as-long queue in
    let n = length-map queue.frames.items frame_of in
    let e : drop round (frames_of queue.frames.items) ≡ frame_of chunk ∷ drop (suc round) (frames_of queue.frames.items) =
    drop-cons (frames_of queue.frames.items) round (frame_of chunk) (omega arith)
    ∙ ap (λ f. f ∷ drop (suc round) (frames_of queue.frames.items)) (get_or-map frame_of queue.frames.items round chunk (frame_of chunk) (omega arith) ∙ ap frame_of (sym is)) in
    ap head e

pub none-lent : (round : ℕ) (queue : Queue) → deque_len queue.frames ≤ round → (line_of round queue).frames ≡ []
none-lent round queue h =
    let l = as-long queue in
    let n = length-map queue.frames.items frame_of in
    nothing (drop round (frames_of queue.frames.items)) (let e = length-drop round (frames_of queue.frames.items) in omega arith)
  where
    nothing : (xs : List Frame) → length xs ≡ 0 → xs ≡ []
    nothing [] h = refl
    nothing (x ∷ xs) h = absurd (omega arith)

-- The turn passes a queue.

pub row-passes : OneRow → PutsMakeRow → (last round at : ℕ) (queues : List Queue) (d : Queue) → IsChannel last → at < length queues → IsRing last (lines_at round at queues)
    → arranged last (flat (lines_at round at queues)) ≡ head (line_of round (get_or queues at d)).frames ++ arranged (get_or queues at d).channel (flat (lines_at round (at + 1) queues))
row-passes one made last round at queues d c h r =
    let l = line_of round (get_or queues at d) in
    let first = line-first round at queues d h in
    ap (λ ls. arranged last (flat ls)) first
    ∙ (line-lends one made last l (rest_at round at queues) c (subst (IsRing last) first r)
    ∙ ap (λ ls. head l.frames ++ arranged l.channel (flat ls)) (sym (line-last round at queues d h)))

pub ring-passes : (last round at : ℕ) (queues : List Queue) (d : Queue) → IsChannel last → at < length queues → IsRing last (lines_at round at queues) → IsRing (get_or queues at d).channel (lines_at round (at + 1) queues)
ring-passes last round at queues d c h r =
    let q = get_or queues at d in
    subst (IsRing q.channel) (sym (line-last round at queues d h)) (ring-turns last (line_of round q) (rest_at round at queues) c (subst (IsRing last) (line-first round at queues d h) r))

idle-last : (l : Line) (rest : List Line) (n idle : ℕ) → length rest + 1 ≡ n → idle < n → IsIdle l → All IsIdle (drop (n - idle) (l ∷ rest)) → All IsIdle (drop (n - (idle + 1)) (rest ++ lent l ∷ []))
idle-last l rest n idle e h is a =
    let j = n - (idle + 1) in
    let same : n - idle ≡ suc j = omega arith in
    let b : All IsIdle (drop j rest) = subst (λ (k : ℕ). All IsIdle (drop k (l ∷ rest))) same a in
    subst (All IsIdle) (sym (drop-append-le j rest (lent l ∷ []) (omega arith))) (All-push IsIdle (drop j rest) (lent l) b (ap (drop 1) is))

pub idle-passes : (round at idle : ℕ) (queues : List Queue) (d : Queue) → at < length queues → idle < length queues → IsIdle (line_of round (get_or queues at d)) → All IsIdle (drop (length queues - idle) (lines_at round at queues))
    → All IsIdle (drop (length queues - (idle + 1)) (lines_at round (at + 1) queues))
idle-passes round at idle queues d h few is a =
    let l = line_of round (get_or queues at d) in
    let first = line-first round at queues d h in
    let n = ap length first in
    let m = count-lines round at queues (omega arith) in
    subst (λ (ls : List Line). All IsIdle (drop (length queues - (idle + 1)) ls)) (sym (line-last round at queues d h))
    (idle-last l (rest_at round at queues) (length queues) idle (omega arith) few is (subst (λ (ls : List Line). All IsIdle (drop (length queues - idle) ls)) first a))

pub none-idle : (round at : ℕ) (queues : List Queue) → at ≤ length queues → All IsIdle (drop (length queues - 0) (lines_at round at queues))
none-idle round at queues h k d l =
    let n = count-lines round at queues h in
    let m = length-drop (length queues - 0) (lines_at round at queues) in
    absurd (omega arith)

-- where each line was passed without a frame, none is left
pub all-idle : (lines : List Line) → All IsIdle lines → flat lines ≡ []
all-idle [] a = refl
all-idle (l ∷ lines) a = ap₂ (λ x y. x ++ y) (All-head IsIdle l lines a) (all-idle lines (All-tail IsIdle l lines a))

-- A round ends, and the next one begins.

line-most : (round next : ℕ) (queue : Queue) → next ≡ min (round + 1) (2 ^ 64 - 1) → line_of next queue ≡ line_of (suc round) queue
line-most round next queue e = by (cases_lt (round + 1) (2 ^ 64))
  where
    by : (round + 1 < 2 ^ 64) ⊎ (2 ^ 64 ≤ round + 1) → line_of next queue ≡ line_of (suc round) queue
    by (inl h) = let same : next ≡ suc round = omega arith in ap (λ n. line_of n queue) same
    by (inr h) =
        let s = queue.frames.small in
        let t = s.0 in
        let u = s.1 in
        ap (λ fs. record { channel = queue.channel; frames = fs }) (none-lent next queue (omega arith) ∙ sym (none-lent (suc round) queue (omega arith)))

lines-most : (round next : ℕ) (queues : List Queue) → next ≡ min (round + 1) (2 ^ 64 - 1) → lines_of next queues ≡ lines_of (suc round) queues
lines-most round next [] e = refl
lines-most round next (q ∷ queues) e = ap₂ (λ x y. x ∷ y) (line-most round next q e) (lines-most round next queues e)

nothing-after : (queues : List Queue) (n : ℕ) → length queues ≤ n → drop n queues ≡ []
nothing-after queues n h = by (drop n queues) (let l = length-drop n queues in omega arith)
  where
    by : (xs : List Queue) → length xs ≡ 0 → xs ≡ []
    by [] e = refl
    by (x ∷ xs) e = absurd (omega arith)

pub round-ends : (round at next : ℕ) (queues : List Queue) → at ≡ length queues → next ≡ min (round + 1) (2 ^ 64 - 1) → lines_at next 0 queues ≡ lines_at round at queues
round-ends round at next queues e is =
    append-nil (lines_of next queues)
    ∙ (lines-most round next queues is
    ∙ sym (ap₂ (λ a b. lines_of round a ++ lines_of (suc round) b) (nothing-after queues at (omega arith)) (take_all at queues (omega arith))))

-- A ring of which nothing is lent, and one that has lent all.
use Rattle.std.proofs.Common.{◌≡◌, ℕ, ◌+◌, ◌-◌, ◌<◌, ◌≤◌, ◌⊎◌, inl, inr, cond, List, [], ◌∷◌, ◌++◌, length, get_or, take, drop, All, refl, sym, ap, ap₂, ◌∙◌, subst, arith, append-nil, length-append, take-append-drop, le-ltb, lt-ltb, false}
use Rattle.std.proofs.lemmas.Bool.{cases_lt}
use Rattle.std.proofs.lemmas.List.{get_or_append_left}
use Rattle.std.proofs.lemmas.List.Elements.{All-nil, All-head, All-tail, All-append, All-map, All-weaker, All-take, All-drop, filter-append}
use Rattle.amqp_frame.specs.Frame.{Frame}
use Rattle.amqp_model.specs.Output.Arrangement.{PlainFrames, FramesOn, LeavingFrames, is_in, queued, steps, IsChannel, arranged}
use Rattle.amqp_model.specs.Output.Arrangement as arrangement
use Rattle.amqp_model.specs.Laws.ArrangementLaws.{OneRow, PutsMakeRow}
use Rattle.amqp_outbox.specs.PiecesQueues.{frame_of, frames_of, IsOn, IsQueue, Ascends, IsUpTo, IsAfter, on_channels}
use Rattle.amqp_outbox.specs.PiecesRing.{Line, line_of, lines_of, flat, IsLine, IsRing, lines_at, IsIdle, queues_in, lines_in, row_in, IsRound}
use Rattle.amqp_outbox.specs.declared.queues.Chunk.{Chunk}
use Rattle.amqp_outbox.specs.declared.queues.Queue.{Queue}
use Rattle.amqp_outbox.specs.declared.ring.Ring.{Ring}
use Rattle.amqp_outbox.proofs.PiecesMoves.{all-above}
use Rattle.amqp_outbox.proofs.PiecesRounds.{all-idle, none-idle}
use Rattle.amqp_outbox.proofs.PiecesRows.{IsAbove, same-row}
use Rattle.amqp_outbox.proofs.PiecesStay.{on-append}
use Rattle.amqp_outbox.proofs.PiecesTurns.{above-channels, none-in, not-plain, not-on}
use Rattle.amqp_outbox.proofs.PiecesRows.{never-leaving}

whole-line : (queue : Queue) → IsQueue queue → IsLine (line_of 0 queue)
whole-line queue q = record {
  above = q.above;
  channel = q.channel;
  own = All-map (λ (f : Frame). f.channel ≡ queue.channel) frame_of queue.frames.items (All-weaker (IsOn queue.channel) (λ (c : Chunk). c.slot.channel ≡ queue.channel) (λ c on. on.1) queue.frames.items q.chunks);
}

up : (last channel : ℕ) → last < channel → steps last channel ≡ channel - last
up last channel h = ap (λ b. cond b (channel - last) ((channel + 65535) - last)) (lt-ltb last channel h)

round : (last channel : ℕ) → channel ≤ last → steps last channel ≡ (channel + 65535) - last
round last channel h = ap (λ b. cond b (channel - last) ((channel + 65535) - last)) (le-ltb last channel h)

ascends-parts : (a b : List Queue) → Ascends (a ++ b) → Ascends a × Ascends b
ascends-parts [] b s = (tt, s)
ascends-parts (q ∷ a) b s =
    let r = ascends-parts a b s.1 in
    ((λ k d h. let n = length-append a b in let m = s.0 k d (omega arith) in subst (λ (x : Queue). q.channel < x.channel) (get_or_append_left a b d k h) m, r.0), r.1)

-- the queues up to LAST, and those after it before them
ring-earlier : (last : ℕ) (queues : List Queue) → last < 65536 → All IsQueue queues → Ascends queues → All (IsUpTo last) queues → IsRing last (lines_of 0 queues)
ring-earlier last [] l q a u = tt
ring-earlier last (x ∷ queues) l q a u =
    let P : Line → Type 0 = λ (other : Line). steps last x.channel < steps last other.channel in
    let mine = All-head (IsUpTo last) x queues u in (
      whole-line x (All-head IsQueue x queues q),
      (
        All-map P (line_of 0) queues (λ k d h.
            let y = get_or queues k d in
            let theirs = All-tail (IsUpTo last) x queues u k d h in
            let e = round last x.channel mine in let f = round last y.channel theirs in let m = a.0 k d h in omega arith),
        ring-earlier last queues l (All-tail IsQueue x queues q) a.1 (All-tail (IsUpTo last) x queues u),
      ),
    )

ring-later : (last : ℕ) (later earlier : List Queue) → last < 65536 → All IsQueue later → Ascends later → All (IsAfter last) later → All IsQueue earlier → All (IsUpTo last) earlier → IsRing last (lines_of 0 earlier) → IsRing last (lines_of 0 (later ++ earlier))
ring-later last [] earlier l q a u p v r = r
ring-later last (x ∷ later) earlier l q a u p v r =
    let P : Line → Type 0 = λ (other : Line). steps last x.channel < steps last other.channel in
    let Q : Queue → Type 0 = λ (other : Queue). steps last x.channel < steps last other.channel in
    let mine = All-head (IsAfter last) x later u in
    let own = All-head IsQueue x later q in
    let e = up last x.channel mine in
    let fits = own.channel in (
      whole-line x own,
      (
        All-map P (line_of 0) (later ++ earlier) (All-append Q later earlier
            (λ k d h. let y = get_or later k d in let f = up last y.channel (All-tail (IsAfter last) x later u k d h) in let m = a.0 k d h in omega arith)
            (λ k d h. let y = get_or earlier k d in let f = round last y.channel (v k d h) in let m = (p k d h).above in omega arith)),
        ring-later last later earlier l (All-tail IsQueue x later q) a.1 (All-tail (IsAfter last) x later u) p v r,
      ),
    )

pub flat-whole : (queues : List Queue) → flat (lines_of 0 queues) ≡ on_channels queues
flat-whole [] = refl
flat-whole (q ∷ queues) = ap (λ fs. frames_of q.frames.items ++ fs) (flat-whole queues)

-- the queues are the same whichever part stands first
swapped : {X : Type 0} (x y : List X) → (x ≡ []) ⊎ (y ≡ []) → x ++ y ≡ y ++ x
swapped x y (inl e) = ap (λ l. l ++ y) e ∙ (sym (append-nil y) ∙ ap (λ l. y ++ l) (sym e))
swapped x y (inr e) = ap (λ l. x ++ l) e ∙ (append-nil x ∙ ap (λ l. l ++ x) (sym e))

frames-of-queues : (P : ℕ → Type 0) (queues : List Queue) → All IsQueue queues → All (λ (q : Queue). P q.channel) queues → All (λ (f : Frame). P f.channel) (on_channels queues)
frames-of-queues P [] a p = All-nil _
frames-of-queues P (q ∷ queues) a p =
    let F : Frame → Type 0 = λ (f : Frame). P f.channel in
    let Q : Queue → Type 0 = λ (q : Queue). P q.channel in
    let own = All-head Q q queues p in
    All-append F (frames_of q.frames.items) (on_channels queues)
    (All-map F frame_of q.frames.items (All-weaker (IsOn q.channel) (λ (c : Chunk). P c.slot.channel) (λ c on. subst P (sym on.1) own) q.frames.items (All-head IsQueue q queues a).chunks))
    (frames-of-queues P queues (All-tail IsQueue q queues a) (All-tail Q q queues p))

one-part : (last : ℕ) (later earlier : List Queue) → All IsQueue later → All IsQueue earlier → All (IsAfter last) later → All (IsUpTo last) earlier → (queue : arrangement.Queue)
    → (queued queue (on_channels later) ≡ []) ⊎ (queued queue (on_channels earlier) ≡ [])
one-part last later earlier p q u v PlainFrames = inl (none-in PlainFrames (on_channels later) (All-weaker IsAbove (λ f. is_in PlainFrames f ≡ false) not-plain (on_channels later) (all-above later p)))
one-part last later earlier p q u v LeavingFrames = inl (none-in LeavingFrames (on_channels later) (All-weaker IsAbove (λ f. is_in LeavingFrames f ≡ false) (λ f x. never-leaving f x.above) (on_channels later) (all-above later p)))
one-part last later earlier p q u v (FramesOn channel) = by (cases_lt last channel)
  where
    P : Frame → Type 0
    P f = is_in (FramesOn channel) f ≡ false

    by : (last < channel) ⊎ (channel ≤ last) → (queued (FramesOn channel) (on_channels later) ≡ []) ⊎ (queued (FramesOn channel) (on_channels earlier) ≡ [])
    by (inl h) = inr (none-in (FramesOn channel) (on_channels earlier) (All-weaker (λ (f : Frame). f.channel ≤ last) P (λ f m. not-on channel f (λ e. omega arith)) (on_channels earlier) (frames-of-queues (λ n. n ≤ last) earlier q v)))
    by (inr h) = inl (none-in (FramesOn channel) (on_channels later) (All-weaker (λ (f : Frame). last < f.channel) P (λ f m. not-on channel f (λ e. omega arith)) (on_channels later) (frames-of-queues (λ n. last < n) later p u)))

pub row-begun : OneRow → PutsMakeRow → (last first : ℕ) (queues later earlier : List Queue) → later ≡ drop first queues → earlier ≡ take first queues → IsChannel last → All IsQueue queues → All (IsUpTo last) (take first queues) → All (IsAfter last) (drop first queues)
    → arranged last (flat (lines_at 0 0 (later ++ earlier))) ≡ arranged last (on_channels queues)
row-begun one made last first queues later earlier e f l a u v =
    let L = drop first queues in
    let E = take first queues in
    let p = All-drop IsQueue first queues a in
    let q = All-take IsQueue first queues a in
    let lines : flat (lines_at 0 0 (later ++ earlier)) ≡ on_channels L ++ on_channels E =
    ap flat (append-nil (lines_of 0 (later ++ earlier))) ∙ (ap₂ (λ x y. flat (lines_of 0 (x ++ y))) e f ∙ (flat-whole (L ++ E) ∙ on-append L E)) in
    let all : on_channels queues ≡ on_channels E ++ on_channels L = ap on_channels (sym (take-append-drop first queues)) ∙ on-append E L in
    let cl = above-channels (on_channels L) (all-above L p) in
    let ce = above-channels (on_channels E) (all-above E q) in
    ap (arranged last) lines
    ∙ (same-row one made last (on_channels L ++ on_channels E) (on_channels E ++ on_channels L) l (All-append arrangement.HasChannel (on_channels L) (on_channels E) cl ce) (All-append arrangement.HasChannel (on_channels E) (on_channels L) ce cl)
    (λ queue. filter-append (is_in queue) (on_channels E) (on_channels L)
    ∙ (sym (swapped (queued queue (on_channels L)) (queued queue (on_channels E)) (one-part last L E p q v u queue)) ∙ sym (filter-append (is_in queue) (on_channels L) (on_channels E))))
    ∙ ap (arranged last) (sym all))

pub round-begun : (last first : ℕ) (queues : List Queue) (ring : Ring) → ring.later.now ≡ drop first queues → ring.earlier.now ≡ take first queues → ring.round ≡ 0 → ring.at ≡ 0 → ring.idle ≡ 0 → ring.last ≡ last
    → IsChannel last → All IsQueue queues → Ascends queues → All (IsUpTo last) (take first queues) → All (IsAfter last) (drop first queues) → IsRound ring
round-begun last first queues ring e f z at idle is l a s u v =
    let L = drop first queues in
    let E = take first queues in
    let p = All-drop IsQueue first queues a in
    let q = All-take IsQueue first queues a in
    let parts = ascends-parts E L (subst Ascends (sym (take-append-drop first queues)) s) in
    let same : queues_in ring ≡ L ++ E = ap₂ (λ x y. x ++ y) e f in
    let r = ring-later last L E l p parts.1 v q u (ring-earlier last E l q parts.0 u) in
    let lines : lines_in ring ≡ lines_of 0 (L ++ E) = ap₂ (λ n m. lines_at n m (queues_in ring)) z at ∙ (append-nil (lines_of 0 (queues_in ring)) ∙ ap (lines_of 0) same) in
    record {
      queues = subst (All IsQueue) (sym same) (All-append IsQueue L E p q);
      at = omega arith;
      in_turn = subst (λ n. IsRing n (lines_in ring)) (sym is) (subst (IsRing last) (sym lines) r);
      last = omega arith;
      idle = omega arith;
      none = subst (λ n. All IsIdle (drop (length (queues_in ring) - n) (lines_in ring))) (sym idle) (none-idle ring.round ring.at (queues_in ring) (omega arith));
    }

pub row-ended : (ring : Ring) → IsRound ring → length (queues_in ring) ≤ ring.idle → row_in ring ≡ []
row-ended ring r h =
    let i = r.idle in
    let z : length (queues_in ring) - ring.idle ≡ 0 = omega arith in
    ap (arranged ring.last) (all-idle (lines_in ring) (subst (λ (n : ℕ). All IsIdle (drop n (lines_in ring))) z r.none))

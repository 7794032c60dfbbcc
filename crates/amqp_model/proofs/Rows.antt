-- Arranged rows: a frame more, and one frame begun; and that there is exactly one for what waits.
use Rattle.std.proofs.Common.{◌≡◌, ℕ, ◌<◌, ◌≤◌, Bool, true, false, nat_lt, List, [], ◌∷◌}
use Rattle.std.proofs.Common.{◌++◌, All, filter, get_or, refl, sym, ap, ap₂, ◌∙◌, subst, arith}
use Rattle.std.proofs.Common.{append_assoc, append-nil, le-ltb}
use Rattle.std.proofs.lemmas.Bool.{ltb-true, ltb-false, cond-true, cond-false}
use Rattle.std.proofs.lemmas.List.Elements.{All-nil, All-cons, All-head, All-tail, All-filter, All-push, All-contains}
use Rattle.std.proofs.lemmas.List.Elements.{Contains-append_right, filter-append}
use Rattle.amqp_frame.specs.Frame.{Frame}
use Rattle.amqp_model.specs.Output.Arrangement.{Queue, is_in, queued, turn, last_after, last_after_all, HasFirstTurn}
use Rattle.amqp_model.specs.Output.Arrangement.{IsArranged, Arranges, HasChannel, Gains, placed, placed_all, arranged}
use Rattle.amqp_model.proofs.Turns.{Rank, plain, in_turn, leaves, rank, last-stays, last-moves, last-channel}
use Rattle.amqp_model.proofs.Turns.{turn-later, turn-queue, Queued, queued_in, queue-of, queue-turn}

-- whether a frame goes before another one of the row, or after it
pub data Place (last : ℕ) (f g : Frame) : Type 0 where
  goes_before : nat_lt (turn last f) (turn last g) ≡ true → turn last f < turn last g → Place last f g
  goes_after : nat_lt (turn last f) (turn last g) ≡ false → turn last g ≤ turn last f → Place last f g

pub place : (last : ℕ) (f g : Frame) → Place last f g
place last f g = cases (nat_lt (turn last f) (turn last g)) refl
  where
    cases : (b : Bool) → nat_lt (turn last f) (turn last g) ≡ b → Place last f g
    cases true e = goes_before e (ltb-true (turn last f) (turn last g) e)
    cases false e = goes_after e (ltb-false (turn last f) (turn last g) e)

pub placed-before : (last : ℕ) (f g : Frame) (later : List Frame) → nat_lt (turn last f) (turn last g) ≡ true
    → placed last f (g ∷ later) ≡ f ∷ g ∷ later
placed-before last f g later e = cond-true (nat_lt (turn last f) (turn last g)) _ _ e

pub placed-after : (last : ℕ) (f g : Frame) (later : List Frame) → nat_lt (turn last f) (turn last g) ≡ false
    → placed last f (g ∷ later) ≡ g ∷ placed (last_after last g) f later
placed-after last f g later e = cond-false (nat_lt (turn last f) (turn last g)) _ _ e

-- what holds of the row and of the frame holds of the row with it
pub placed-all : (P : Frame → Type 0) (last : ℕ) (f : Frame) (row : List Frame) → P f → All P row
    → All P (placed last f row)
placed-all P last f [] p all = All-cons P f [] p all
placed-all P last f (g ∷ later) p all =
    cases (place last f g) (placed-all P (last_after last g) f later p (All-tail P g later all))
  where
    cases : Place last f g → All P (placed (last_after last g) f later) → All P (placed last f (g ∷ later))
    cases (goes_before e l) _ = subst (All P) (sym (placed-before last f g later e)) (All-cons P f (g ∷ later) p all)
    cases (goes_after e l) more =
        subst (All P) (sym (placed-after last f g later e)) (All-cons P g _ (All-head P g later all) more)

-- a row whose frames all have their turn later than a frame stays arranged when that is begun
begun-before : (last : ℕ) (f : Frame) (row : List Frame) → last < 65536 → HasChannel f → All HasChannel row
    → All (λ g. turn last f < turn last g) row → IsArranged last row → IsArranged (last_after last f) row
begun-before last f [] l cf cs later row = tt
begun-before last f (g ∷ rest) l cf cs later row = (
  next,
  cases (rank g) (begun-before last f rest l cf (All-tail HasChannel g rest cs)
      (All-tail (λ x. turn last f < turn last x) g rest later)),
)
  where
    next : HasFirstTurn (last_after last f) g rest
    next k d h =
        turn-later last f g (get_or rest k d) l cf (All-head HasChannel g rest cs) (All-tail HasChannel g rest cs k d h)
        (All-head (λ x. turn last f < turn last x) g rest later) (row.0 k d h)

    on_0 : g.channel ≡ 0 → (IsArranged last rest → IsArranged (last_after last f) rest)
        → IsArranged (last_after (last_after last f) g) rest
    on_0 z more =
        subst (λ c. IsArranged c rest) (sym (last-stays (last_after last f) g z))
        (more (subst (λ c. IsArranged c rest) (last-stays last g z) row.1))

    cases : Rank g → (IsArranged last rest → IsArranged (last_after last f) rest)
        → IsArranged (last_after (last_after last f) g) rest
    cases (plain z n) more = on_0 z more
    cases (leaves z n) more = on_0 z more
    cases (in_turn z n) _ =
        subst (λ c. IsArranged c rest) (last-moves last g z ∙ sym (last-moves (last_after last f) g z)) row.1

-- a row that is arranged stays so with a frame more
pub placed-arranged : (last : ℕ) (f : Frame) (row : List Frame) → last < 65536 → HasChannel f
    → All HasChannel row → IsArranged last row → IsArranged last (placed last f row)
placed-arranged last f [] l cf cs row = (All-nil (λ g. turn last f ≤ turn last g), tt)
placed-arranged last f (g ∷ rest) l cf cs row =
    cases (place last f g)
    (placed-arranged (last_after last g) f rest (last-channel last g l (All-head HasChannel g rest cs)) cf
    (All-tail HasChannel g rest cs) row.1)
  where
    later : turn last f < turn last g → All (λ x. turn last f < turn last x) (g ∷ rest)
    later first = All-cons (λ x. turn last f < turn last x) g rest first (λ k d h. let m = row.0 k d h in omega arith)

    next : turn last f < turn last g → HasFirstTurn last f (g ∷ rest)
    next first k d h = let m = later first k d h in omega arith

    cases : Place last f g → IsArranged (last_after last g) (placed (last_after last g) f rest)
        → IsArranged last (placed last f (g ∷ rest))
    cases (goes_before e first) _ =
        subst (IsArranged last) (sym (placed-before last f g rest e))
        (next first, begun-before last f (g ∷ rest) l cf cs (later first) row)
    cases (goes_after e first) more =
        subst (IsArranged last) (sym (placed-after last f g rest e))
        (placed-all (λ x. turn last g ≤ turn last x) (last_after last g) f rest first row.0, more)

pub filter-none : {A : Type 0} (test : A → Bool) (xs : List A)
    → All (λ x. test x ≡ false) xs → filter test xs ≡ []
filter-none test [] none = refl
filter-none test (x ∷ xs) none =
    cond-false (test x) _ _ (All-head (λ y. test y ≡ false) x xs none)
    ∙ filter-none test xs (All-tail (λ y. test y ≡ false) x xs none)

-- frames that have their turn later than a frame are in none of its queues
later-none : (last : ℕ) (f : Frame) (row : List Frame) → All (λ g. turn last f < turn last g) row
    → (queue : Queue) → is_in queue f ≡ true → queued queue row ≡ []
later-none last f row later queue here = filter-none (is_in queue) row (λ k d h. none (get_or row k d) (later k d h))
  where
    cases : (g : Frame) → turn last f < turn last g → (b : Bool) → is_in queue g ≡ b → is_in queue g ≡ false
    cases g l true there = let e = turn-queue last queue f g here there in absurd (omega arith)
    cases g l false e = e

    none : (g : Frame) → turn last f < turn last g → is_in queue g ≡ false
    none g l = cases g l (is_in queue g) refl

-- a frame more in a row moves no other one, and is the last of its queue
pub placed-gains : (last : ℕ) (f : Frame) (row : List Frame) → IsArranged last row
    → Gains f row (placed last f row)
placed-gains last f [] row =
    record { prefix = []; back = []; row_is = refl; more_is = refl; newest = λ queue here. refl }
placed-gains last f (g ∷ rest) row = cases (place last f g) (placed-gains (last_after last g) f rest row.1)
  where
    later : turn last f < turn last g → All (λ x. turn last f < turn last x) (g ∷ rest)
    later first = All-cons (λ x. turn last f < turn last x) g rest first (λ k d h. let m = row.0 k d h in omega arith)

    cases : Place last f g → Gains f rest (placed (last_after last g) f rest)
        → Gains f (g ∷ rest) (placed last f (g ∷ rest))
    cases (goes_before e first) _ = record {
      prefix = [];
      back = g ∷ rest;
      row_is = refl;
      more_is = placed-before last f g rest e;
      newest = later-none last f (g ∷ rest) (later first);
    }
    cases (goes_after e first) gains = record {
      prefix = g ∷ gains.prefix;
      back = gains.back;
      row_is = ap (λ l. g ∷ l) gains.row_is;
      more_is = placed-after last f g rest e ∙ ap (λ l. g ∷ l) gains.more_is;
      newest = gains.newest;
    }

-- so each queue has its frames as before, and after them the new one
pub gains-queued : (f : Frame) (row more : List Frame) → Gains f row more → (queue : Queue)
    → queued queue more ≡ queued queue (row ++ f ∷ [])
gains-queued f row more gains queue =
    ap (queued queue) gains.more_is
    ∙ (filter-append (is_in queue) gains.prefix (f ∷ gains.back)
    ∙ (cases (is_in queue f) refl
    ∙ (ap (λ l. l ++ queued queue (f ∷ [])) (sym (filter-append (is_in queue) gains.prefix gains.back)
    ∙ sym (ap (queued queue) gains.row_is))
    ∙ sym (filter-append (is_in queue) row (f ∷ [])))))
  where
    cases : (b : Bool) → is_in queue f ≡ b → queued queue gains.prefix ++ queued queue (f ∷ gains.back)
        ≡ (queued queue gains.prefix ++ queued queue gains.back) ++ queued queue (f ∷ [])
    cases true here =
        let none = gains.newest queue here in
        ap (λ l. queued queue gains.prefix ++ l) (cond-true (is_in queue f) _ _ here ∙ ap (λ l. f ∷ l) none)
        ∙ sym (ap₂ (λ l m. l ++ m) (ap (λ l. queued queue gains.prefix ++ l) none
        ∙ append-nil (queued queue gains.prefix)) (cond-true (is_in queue f) (f ∷ []) [] here))
    cases false away =
        ap (λ l. queued queue gains.prefix ++ l) (cond-false (is_in queue f) _ _ away)
        ∙ sym (ap (λ l. (queued queue gains.prefix ++ queued queue gains.back) ++ l)
        (cond-false (is_in queue f) (f ∷ []) [] away)
        ∙ append-nil (queued queue gains.prefix ++ queued queue gains.back))

-- what holds of the frames of each queue holds of all
pub from-queued : (P : Frame → Type 0) (row : List Frame)
    → ((queue : Queue) → All P (queued queue row)) → All P row
from-queued P [] each = All-nil P
from-queued P (g ∷ rest) each =
    All-cons P g rest (here (queue-of g)) (from-queued P rest (λ queue. tail queue (is_in queue g) refl))
  where
    here : Queued g → P g
    here (queued_in queue e) =
        All-head P g (queued queue rest) (subst (All P) (cond-true (is_in queue g) _ _ e) (each queue))

    tail : (queue : Queue) (b : Bool) → is_in queue g ≡ b → All P (queued queue rest)
    tail queue true e = All-tail P g (queued queue rest) (subst (All P) (cond-true (is_in queue g) _ _ e) (each queue))
    tail queue false e = subst (All P) (cond-false (is_in queue g) _ _ e) (each queue)

pub same-queues-all : (P : Frame → Type 0) (row waiting : List Frame)
    → ((queue : Queue) → queued queue row ≡ queued queue waiting) → All P waiting → All P row
same-queues-all P row waiting same all =
    from-queued P row (λ queue. subst (All P) (sym (same queue)) (All-filter (is_in queue) P waiting all))

-- what holds of all frames of a row holds of the first of another row with the same queues
first-of : (P : Frame → Type 0) (row : List Frame) (g : Frame) (rest : List Frame)
    → ((queue : Queue) → queued queue row ≡ queued queue (g ∷ rest)) → All P row → P g
first-of P row g rest same all = All-head P g rest (same-queues-all P (g ∷ rest) row (λ queue. sym (same queue)) all)

-- There is exactly one arranged row with such queues.
pub one-row : (last : ℕ) (row other : List Frame) → last < 65536 → All HasChannel row
    → ((queue : Queue) → queued queue row ≡ queued queue other) → IsArranged last row
    → IsArranged last other → row ≡ other
one-row last [] [] l c same mine theirs = refl
one-row last [] (g ∷ rest) l c same mine theirs = absurd (first-of (λ x. ⊥) [] g rest same (All-nil (λ x. ⊥)))
one-row last (f ∷ row) [] l c same mine theirs =
    absurd (first-of (λ x. ⊥) [] f row (λ queue. sym (same queue)) (All-nil (λ x. ⊥)))
one-row last (f ∷ row) (g ∷ rest) l c same mine theirs =
    both (λ tails. λ first. one-row (last_after last f) row rest (last-channel last f l (All-head HasChannel f row c))
    (All-tail HasChannel f row c) tails mine.1 (subst (λ x. IsArranged (last_after last x) rest) (sym first) theirs.1))
  where
    no_later : turn last f ≤ turn last g
    no_later =
        first-of (λ x. turn last f ≤ turn last x) (f ∷ row) g rest same
        (All-cons (λ x. turn last f ≤ turn last x) f row (omega arith) mine.0)

    no_sooner : turn last g ≤ turn last f
    no_sooner =
        first-of (λ x. turn last g ≤ turn last x) (g ∷ rest) f row (λ queue. sym (same queue))
        (All-cons (λ x. turn last g ≤ turn last x) g rest (omega arith) theirs.0)

    together : (queue : Queue) → is_in queue f ≡ is_in queue g
    together =
        queue-turn last f g l (All-head HasChannel f row c) (first-of HasChannel (f ∷ row) g rest same c)
        (omega (arith, no_later, no_sooner))

    joined : (queue : Queue) → is_in queue f ≡ true → f ∷ queued queue row ≡ g ∷ queued queue rest
    joined queue e =
        sym (cond-true (is_in queue f) _ _ e)
        ∙ (same queue ∙ cond-true (is_in queue g) _ _ (sym (together queue) ∙ e))

    first : Queued f → f ≡ g
    first (queued_in queue e) = let h = joined queue e in cc

    tail : (queue : Queue) (b : Bool) → is_in queue f ≡ b → queued queue row ≡ queued queue rest
    tail queue true e = let h = joined queue e in cc
    tail queue false e =
        sym (cond-false (is_in queue f) _ _ e)
        ∙ (same queue ∙ cond-false (is_in queue g) _ _ (sym (together queue) ∙ e))

    both : (((queue : Queue) → queued queue row ≡ queued queue rest) → f ≡ g → row ≡ rest)
        → f ∷ row ≡ g ∷ rest
    both more =
        let a = first (queue-of f) in
        let b = more (λ queue. tail queue (is_in queue f) refl) a in
        cc

-- a frame more waits
pub placed-arranges : (last : ℕ) (f : Frame) (waiting row : List Frame) → last < 65536 → HasChannel f
    → All HasChannel waiting → Arranges last waiting row → Arranges last (waiting ++ f ∷ []) (placed last f row)
placed-arranges last f waiting row l cf cs arranges = record {
  arranged = placed-arranged last f row l cf
      (same-queues-all HasChannel row waiting arranges.queues cs) arranges.arranged;
  queues =
      λ queue. gains-queued f row (placed last f row) (placed-gains last f row arranges.arranged) queue
      ∙ (filter-append (is_in queue) row (f ∷ [])
      ∙ (ap (λ l. l ++ queued queue (f ∷ [])) (arranges.queues queue)
      ∙ sym (filter-append (is_in queue) waiting (f ∷ []))));
}

pub placed_all-arranges : (last : ℕ) (frames waiting row : List Frame) → last < 65536 → All HasChannel frames
    → All HasChannel waiting → Arranges last waiting row
    → Arranges last (waiting ++ frames) (placed_all last frames row)
placed_all-arranges last [] waiting row l fs cs arranges =
    subst (λ w. Arranges last w row) (sym (append-nil waiting)) arranges
placed_all-arranges last (f ∷ frames) waiting row l fs cs arranges =
    let cf = All-head HasChannel f frames fs in
    let more = placed_all-arranges last frames (waiting ++ f ∷ []) (placed last f row) l
    (All-tail HasChannel f frames fs) (All-push HasChannel waiting f cs cf)
    (placed-arranges last f waiting row l cf cs arranges) in
    subst (λ w. Arranges last w (placed_all last frames (placed last f row)))
    (append_assoc waiting (f ∷ []) frames) more

pub arranged-arranges : (last : ℕ) (waiting : List Frame) → last < 65536 → All HasChannel waiting
    → Arranges last waiting (arranged last waiting)
arranged-arranges last waiting l cs =
    placed_all-arranges last waiting [] [] l cs (All-nil HasChannel) (record { arranged = tt; queues = λ queue. refl })

-- the frames of an arranged row are begun in turn
pub begun-arranged : (last : ℕ) (begun row : List Frame) → IsArranged last (begun ++ row)
    → IsArranged (last_after_all last begun) row
begun-arranged last [] row whole = whole
begun-arranged last (f ∷ begun) row whole = begun-arranged (last_after last f) begun row whole.1

-- A frame stands after the last one of its queue, so its place need not be looked for before that.
pub placed-after-queue : (last : ℕ) (f g : Frame) (prefix back : List Frame) (queue : Queue)
    → IsArranged last (prefix ++ g ∷ back) → is_in queue f ≡ true → is_in queue g ≡ true
    → placed last f (prefix ++ g ∷ back)
    ≡ prefix ++ g ∷ placed (last_after_all last (prefix ++ g ∷ [])) f back
placed-after-queue last f g [] back queue row here there =
    placed-after last f g back (le-ltb (turn last f) (turn last g) (let e = turn-queue last queue f g here there in
    omega arith))
placed-after-queue last f g (x ∷ prefix) back queue row here there =
    placed-after last f x (prefix ++ g ∷ back) (le-ltb (turn last f) (turn last x) sooner)
    ∙ ap (λ l. x ∷ l) (placed-after-queue (last_after last x) f g prefix back queue row.1 here there)
  where
    sooner : turn last x ≤ turn last f
    sooner =
        let e = turn-queue last queue f g here there in
        let first = All-contains (λ y. turn last x ≤ turn last y) (prefix ++ g ∷ back) g row.0
        (Contains-append_right prefix (g ∷ back) g (0, omega arith, refl)) in
        omega arith

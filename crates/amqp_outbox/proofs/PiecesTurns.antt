-- Lines of frames as the turn goes round them.
use Rattle.std.proofs.Common.{◌≡◌, ℕ, ◌+◌, ◌-◌, ◌<◌, ◌≤◌, ◌⊎◌, inl, inr, Bool, true, false, cond, ◌&&◌, ◌==◌, nat_lt, List, [], ◌∷◌, ◌++◌, length, get_or, drop, All, refl, sym, ap, ◌∙◌, subst, arith, append_assoc, append-nil, ne_eqb, le-ltb, lt-ltb}
use Rattle.std.proofs.lemmas.Bool.{and_left, cases_eq, cases_lt}
use Rattle.std.proofs.lemmas.List.Elements.{All-nil, All-cons, All-head, All-tail, All-append, All-weaker, All-push, filter-append}
use Rattle.amqp_frame.specs.Frame.{Frame}
use Rattle.amqp_model.specs.Output.Arrangement.{Queue, PlainFrames, FramesOn, LeavingFrames, is_in, queued, steps, turn, HasFirstTurn, IsArranged, Arranges, IsChannel, HasChannel, arranged}
use Rattle.amqp_model.specs.Laws.ArrangementLaws.{OneRow, PutsMakeRow}
use Rattle.amqp_outbox.specs.PiecesRing.{Line, flat, IsLine, IsRing}
use Rattle.amqp_outbox.proofs.OutboxLaps.{steps-parted}
use Rattle.amqp_outbox.proofs.PiecesRows.{IsAbove, is-row, arranged-keeps, turn-above, last-above, never-leaving}

-- the first frame of some, if there is one
abbrev pub head : List Frame → List Frame
head [] = []
head (f ∷ frames) = f ∷ []

-- a line that has lent its first frame
abbrev pub lent : Line → Line
lent line = record { channel = line.channel; frames = drop 1 line.frames }

head-tail : (frames : List Frame) → head frames ++ drop 1 frames ≡ frames
head-tail [] = refl
head-tail (f ∷ frames) = refl

All-parts : {X : Type 0} (P : X → Type 0) (xs ys : List X) → All P (xs ++ ys) → All P xs × All P ys
All-parts P [] ys a = (All-nil P, a)
All-parts P (x ∷ xs) ys a = let r = All-parts P xs ys (All-tail P x (xs ++ ys) a) in (All-cons P x xs (All-head P x (xs ++ ys) a) r.0, r.1)

-- Frames of lines.

pub own-above : (line : Line) → IsLine line → (frames : List Frame) → All (λ (f : Frame). f.channel ≡ line.channel) frames → All IsAbove frames
own-above line is frames a = All-weaker (λ (f : Frame). f.channel ≡ line.channel) IsAbove (λ f e. record { above = rw e is.above; channel = rw e is.channel }) frames a

pub flat-append : (xs ys : List Line) → flat (xs ++ ys) ≡ flat xs ++ flat ys
flat-append [] ys = refl
flat-append (l ∷ xs) ys = ap (λ r. l.frames ++ r) (flat-append xs ys) ∙ sym (append_assoc l.frames (flat xs) (flat ys))

-- what holds of each frame of each line
pub flat-all : (P : Frame → Type 0) (lines : List Line) → All (λ (l : Line). All P l.frames) lines → All P (flat lines)
flat-all P [] a = All-nil P
flat-all P (l ∷ lines) a = All-append P l.frames (flat lines) (All-head (λ (l : Line). All P l.frames) l lines a) (flat-all P lines (All-tail (λ (l : Line). All P l.frames) l lines a))

-- the lines of a ring
pub ring-lines : (last : ℕ) (lines : List Line) → IsRing last lines → All IsLine lines
ring-lines last [] r = All-nil IsLine
ring-lines last (l ∷ lines) r = All-cons IsLine l lines r.0 (ring-lines last lines r.1.1)

pub flat-above : (lines : List Line) → All IsLine lines → All IsAbove (flat lines)
flat-above lines a = flat-all IsAbove lines (All-weaker IsLine (λ (l : Line). All IsAbove l.frames) (λ l is. own-above l is l.frames is.own) lines a)

pub above-channels : (frames : List Frame) → All IsAbove frames → All HasChannel frames
above-channels frames a = All-weaker IsAbove HasChannel (λ f u. u.channel) frames a

-- Steps on the way round.

steps-most : (last channel : ℕ) → last < 65536 → 0 < channel → channel < 65536 → (0 < steps last channel) × (steps last channel ≤ 65535)
steps-most last channel l above c = by (cases_lt last channel)
  where
    by : (last < channel) ⊎ (channel ≤ last) → (0 < steps last channel) × (steps last channel ≤ 65535)
    by (inl h) = let e : steps last channel ≡ channel - last = ap (λ b. cond b (channel - last) ((channel + 65535) - last)) (lt-ltb last channel h) in (omega arith, omega arith)
    by (inr h) = let e : steps last channel ≡ (channel + 65535) - last = ap (λ b. cond b (channel - last) ((channel + 65535) - last)) (le-ltb last channel h) in (omega arith, omega arith)

steps-round : (channel : ℕ) → steps channel channel ≡ 65535
steps-round channel = let e : steps channel channel ≡ (channel + 65535) - channel = ap (λ b. cond b (channel - channel) ((channel + 65535) - channel)) (le-ltb channel channel (omega arith)) in omega arith

-- a line that stands after another, as the turn comes to it from there
from-first : (last : ℕ) (l m : Line) → last < 65536 → IsLine l → IsLine m → steps last l.channel < steps last m.channel → steps l.channel m.channel + steps last l.channel ≡ steps last m.channel
from-first last l m c a b h = steps-parted last l.channel m.channel c a.above a.channel b.channel b.above (omega arith) (λ e. let z = ap (steps last) e in omega arith)

-- the first line goes to the end
pub ring-turns : (last : ℕ) (l : Line) (rest : List Line) → last < 65536 → IsRing last (l ∷ rest) → IsRing l.channel (rest ++ lent l ∷ [])
ring-turns last l rest c r = go rest r.1.0 r.1.1
  where
    is : IsLine (lent l)
    is = record { above = r.0.above; channel = r.0.channel; own = (All-parts (λ (f : Frame). f.channel ≡ l.channel) (head l.frames) (drop 1 l.frames) (rw (head-tail l.frames) r.0.own)).1 }

    go : (rest : List Line) → All (λ (other : Line). steps last l.channel < steps last other.channel) rest → IsRing last rest → IsRing l.channel (rest ++ lent l ∷ [])
    go [] a r2 = (is, (All-nil _, tt))
    go (m ∷ rest) a r2 =
        let P : Line → Type 0 = λ (other : Line). steps last l.channel < steps last other.channel in
        let Q : Line → Type 0 = λ (other : Line). steps last m.channel < steps last other.channel in
        let R : Line → Type 0 = λ (other : Line). steps l.channel m.channel < steps l.channel other.channel in
        let mine = from-first last l m c r.0 r2.0 (All-head P m rest a) in
        let later : All R rest = λ k d h.
        let x = get_or rest k d in
        let y = from-first last l x c r.0 (ring-lines last rest r2.1.1 k d h) (All-tail P m rest a k d h) in
        let z = r2.1.0 k d h in
        omega arith in
        let most = steps-most last m.channel c r2.0.above r2.0.channel in
        let some = steps-most last l.channel c r.0.above r.0.channel in
        let round = steps-round l.channel in
        (r2.0, (All-push R rest (lent l) later (omega arith), go rest (All-tail P m rest a) r2.1.1))

-- Queues of frames and lines.

pub none-in : (queue : Queue) (frames : List Frame) → All (λ f. is_in queue f ≡ false) frames → queued queue frames ≡ []
none-in queue [] a = refl
none-in queue (f ∷ frames) a =
    let P : Frame → Type 0 = λ f. is_in queue f ≡ false in
    ap (λ (b : Bool). cond b (f ∷ queued queue frames) (queued queue frames)) (All-head P f frames a) ∙ none-in queue frames (All-tail P f frames a)

never : (a : Bool) → (a && false) ≡ false
never true = refl
never false = refl

pub not-plain : (f : Frame) → IsAbove f → is_in PlainFrames f ≡ false
not-plain f u = let above = u.above in and_left (f.channel == 0) _ (ne_eqb f.channel 0 (λ z. omega arith))

pub not-on : (channel : ℕ) (f : Frame) → (f.channel ≡ channel → ⊥) → is_in (FramesOn channel) f ≡ false
not-on channel f ne = ap (λ b. nat_lt 0 channel && b) (ne_eqb f.channel channel ne) ∙ never (nat_lt 0 channel)

-- of two sets of frames of different channels, one has none in a queue
pub one-has-none : (queue : Queue) (channel : ℕ) (own others : List Frame) → All IsAbove own → All (λ (f : Frame). f.channel ≡ channel) own → All (λ (f : Frame). f.channel ≡ channel → ⊥) others
    → (queued queue own ≡ []) ⊎ (queued queue others ≡ [])
one-has-none PlainFrames channel own others above a b = inl (none-in PlainFrames own (All-weaker IsAbove (λ f. is_in PlainFrames f ≡ false) not-plain own above))
one-has-none LeavingFrames channel own others above a b = inl (none-in LeavingFrames own (All-weaker IsAbove (λ f. is_in LeavingFrames f ≡ false) (λ f u. never-leaving f u.above) own above))
one-has-none (FramesOn on) channel own others above a b = by (cases_eq channel on)
  where
    P : Frame → Type 0
    P f = is_in (FramesOn on) f ≡ false

    by : (channel ≡ on) ⊎ (channel ≡ on → ⊥) → (queued (FramesOn on) own ≡ []) ⊎ (queued (FramesOn on) others ≡ [])
    by (inl e) = inr (none-in (FramesOn on) others (All-weaker (λ (f : Frame). f.channel ≡ channel → ⊥) P (λ f ne. not-on on f (λ z. ne (z ∙ sym e))) others b))
    by (inr ne) = inl (none-in (FramesOn on) own (All-weaker (λ (f : Frame). f.channel ≡ channel) P (λ f e. not-on on f (λ z. ne (sym e ∙ z))) own a))

cons-not : (f : Frame) (more : List Frame) → f ∷ more ≡ [] → ⊥
cons-not f more e = let z = ap length e in omega arith

-- the queues are the same once the first line has gone to the end
turned-queue : (queue : Queue) (frames rest : List Frame) → (queued queue frames ≡ []) ⊎ (queued queue rest ≡ []) → queued queue (head frames) ++ (queued queue rest ++ queued queue (drop 1 frames)) ≡ queued queue frames ++ queued queue rest
turned-queue queue frames rest (inr e) =
    let h = ap (queued queue) (sym (head-tail frames)) ∙ filter-append (is_in queue) (head frames) (drop 1 frames) in
    ap (λ r. queued queue (head frames) ++ (r ++ queued queue (drop 1 frames))) e ∙ (sym h ∙ (sym (append-nil (queued queue frames)) ∙ ap (λ r. queued queue frames ++ r) (sym e)))
turned-queue queue frames rest (inl e) = by frames e
  where
    by : (frames : List Frame) → queued queue frames ≡ [] → queued queue (head frames) ++ (queued queue rest ++ queued queue (drop 1 frames)) ≡ queued queue frames ++ queued queue rest
    by [] e = append-nil (queued queue rest)
    by (f ∷ more) e = first (is_in queue f) e
      where
        first : (b : Bool) → cond b (f ∷ queued queue more) (queued queue more) ≡ [] → cond b (f ∷ []) [] ++ (queued queue rest ++ queued queue more) ≡ cond b (f ∷ queued queue more) (queued queue more) ++ queued queue rest
        first true e = absurd (cons-not f (queued queue more) e)
        first false e = ap (λ r. queued queue rest ++ r) e ∙ (append-nil (queued queue rest) ∙ ap (λ r. r ++ queued queue rest) (sym e))

-- a row that is arranged from one channel on is so from an earlier one, where it has none between
arranged-earlier : (last from k : ℕ) (row : List Frame) → All IsAbove row → All (λ (f : Frame). steps from f.channel + k ≡ steps last f.channel) row → IsArranged from row → IsArranged last row
arranged-earlier last from k [] u a r = tt
arranged-earlier last from k (f ∷ row) u a r =
    let P : Frame → Type 0 = λ (f : Frame). steps from f.channel + k ≡ steps last f.channel in
    let fu = All-head IsAbove f row u in
    let here = All-head P f row a in
    let next : HasFirstTurn last f row = λ i d h.
    let g = get_or row i d in
    let gu = All-tail IsAbove f row u i d h in
    let x = r.0 i d h in
    let y = All-tail P f row a i d h in
    let e1 = turn-above last f fu.above in let e2 = turn-above last g gu.above in let e3 = turn-above from f fu.above in let e4 = turn-above from g gu.above in
    omega arith in
    (next, subst (λ n. IsArranged n row) (last-above from f fu.above ∙ sym (last-above last f fu.above)) r.1)

-- each frame of the later lines has a fact that the lines have
later-frames : (P : ℕ → Type 0) (lines : List Line) → All IsLine lines → All (λ (l : Line). P l.channel) lines → All (λ (f : Frame). P f.channel) (flat lines)
later-frames P lines is a = flat-all (λ (f : Frame). P f.channel) lines (λ k d h.
    let l = get_or lines k d in
    let p = a k d h in
    All-weaker (λ (f : Frame). f.channel ≡ l.channel) (λ (f : Frame). P f.channel) (λ f e. subst P (sym e) p) l.frames (is k d h).own)

arranged-first : (last channel : ℕ) (frames row : List Frame) → 0 < channel → All (λ (f : Frame). f.channel ≡ channel) frames
    → ((f : Frame) → f.channel ≡ channel → All (λ (g : Frame). turn last f ≤ turn last g) row) → (frames ≡ [] → IsArranged last row) → IsArranged channel row → IsArranged last (head frames ++ row)
arranged-first last channel [] row above own next none r = none refl
arranged-first last channel (f ∷ frames) row above own next none r =
    let e = All-head (λ (g : Frame). g.channel ≡ channel) f frames own in
    (next f e, subst (λ n. IsArranged n row) (sym (last-above last f (rw e above) ∙ e)) r)

-- what the first line of a ring lends comes first, and then what is left where the line has gone to the end
pub line-lends : OneRow → PutsMakeRow → (last : ℕ) (l : Line) (rest : List Line) → IsChannel last → IsRing last (l ∷ rest)
    → arranged last (flat (l ∷ rest)) ≡ head l.frames ++ arranged l.channel (flat (rest ++ lent l ∷ []))
line-lends one made last l rest c r =
    let is = r.0 in
    let on = l.channel in
    let own = λ (f : Frame). f.channel ≡ on in
    let tail_own : All (λ (f : Frame). f.channel ≡ on) (drop 1 l.frames) = (All-parts (λ (f : Frame). f.channel ≡ on) (head l.frames) (drop 1 l.frames) (rw (head-tail l.frames) is.own)).1 in
    let lines = ring-lines last rest r.1.1 in
    let left = flat rest ++ drop 1 l.frames in
    let left_is : flat (rest ++ lent l ∷ []) ≡ left = flat-append rest (lent l ∷ []) ∙ ap (λ x. flat rest ++ x) (append-nil (drop 1 l.frames)) in
    let above_all : All IsAbove (l.frames ++ flat rest) = All-append IsAbove l.frames (flat rest) (own-above l is l.frames is.own) (flat-above rest lines) in
    let above_left : All IsAbove left = All-append IsAbove (flat rest) (drop 1 l.frames) (flat-above rest lines) (own-above l is (drop 1 l.frames) tail_own) in
    let m : Arranges on left (arranged on left) = made on left is.channel (above-channels left above_left) in
    let Later : Frame → Type 0 = λ (g : Frame). (g.channel ≡ on) ⊎ (steps last on < steps last g.channel) in
    let laters : All Later left = All-append Later (flat rest) (drop 1 l.frames)
    (later-frames (λ n. (n ≡ on) ⊎ (steps last on < steps last n)) rest lines (All-weaker (λ (x : Line). steps last on < steps last x.channel) (λ (x : Line). (x.channel ≡ on) ⊎ (steps last on < steps last x.channel)) (λ x h. inr h) rest r.1.0))
    (All-weaker (λ (f : Frame). f.channel ≡ on) Later (λ f e. inl e) (drop 1 l.frames) tail_own) in
    let row_later = arranged-keeps Later on left laters in
    let row_above = arranged-keeps IsAbove on left above_left in
    let Shift : Frame → Type 0 = λ (g : Frame). steps on g.channel + steps last on ≡ steps last g.channel in
    let shifts : All Shift (flat rest) = later-frames (λ n. steps on n + steps last on ≡ steps last n) rest lines (λ k d h. from-first last l (get_or rest k d) c is (lines k d h) (r.1.0 k d h)) in
    let arr : IsArranged last (head l.frames ++ arranged on left) = arranged-first last on l.frames (arranged on left) is.above is.own
    (λ f e i d h. compare last on f (get_or (arranged on left) i d) e is.above (row_above i d h) (row_later i d h))
    (λ none. arranged-earlier last on (steps last on) (arranged on left) row_above
    (arranged-keeps Shift on left (subst (All Shift) (sym (append-nil (flat rest)) ∙ ap (λ x. flat rest ++ drop 1 x) (sym none)) shifts)) m.arranged)
    m.arranged in
    is-row one made last (l.frames ++ flat rest) (head l.frames ++ arranged on left) c (above-channels _ above_all) arr
    (λ queue. filter-append (is_in queue) (head l.frames) (arranged on left)
    ∙ (ap (λ x. queued queue (head l.frames) ++ x) (m.queues queue ∙ filter-append (is_in queue) (flat rest) (drop 1 l.frames))
    ∙ (turned-queue queue l.frames (flat rest) (one-has-none queue on l.frames (flat rest) (own-above l is l.frames is.own) is.own (differ last on rest lines r.1.0))
    ∙ sym (filter-append (is_in queue) l.frames (flat rest)))))
    ∙ ap (λ x. head l.frames ++ arranged on x) (sym left_is)
  where
    compare : (last on : ℕ) (f g : Frame) → f.channel ≡ on → 0 < on → IsAbove g → (g.channel ≡ on) ⊎ (steps last on < steps last g.channel) → turn last f ≤ turn last g
    compare last on f g e above u (inl same) =
        let a = turn-above last f (rw e above) in let b = turn-above last g u.above in let x = ap (steps last) e in let y = ap (steps last) same in omega arith
    compare last on f g e above u (inr h) =
        let a = turn-above last f (rw e above) in let b = turn-above last g u.above in let x = ap (steps last) e in omega arith

    differ : (last on : ℕ) (rest : List Line) → All IsLine rest → All (λ (x : Line). steps last on < steps last x.channel) rest → All (λ (f : Frame). f.channel ≡ on → ⊥) (flat rest)
    differ last on rest lines a = later-frames (λ n. n ≡ on → ⊥) rest lines
        (All-weaker (λ (x : Line). steps last on < steps last x.channel) (λ (x : Line). x.channel ≡ on → ⊥) (λ x h e. let z = ap (steps last) e in omega arith) rest a)

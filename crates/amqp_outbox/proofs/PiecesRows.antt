-- Rows of frames by the queues that they come from: what a put and a write make of them.
use Rattle.std.proofs.Common.{◌≡◌, ℕ, ◌+◌, ◌-◌, ◌<◌, ◌≤◌, Bool, true, false, cond, ◌&&◌, ◌==◌, nat_lt, List, [], ◌∷◌, ◌++◌, All, refl, sym, ap, ◌∙◌, subst, arith, append_assoc, append-nil, ne_eqb, eqb-true, le-ltb, lt-ltb, ◌⊎◌, inl, inr}
use Rattle.std.proofs.lemmas.Bool.{and_left, and_parts, cond-false, cond-true, true≢false, cases_lt}
use Rattle.std.proofs.lemmas.List.Elements.{All-nil, All-cons, All-head, All-tail, All-append, All-weaker, filter-append}
use Rattle.amqp_frame.specs.Frame.{Frame}
use Rattle.amqp_model.specs.Output.Arrangement.{is_leaving, Queue, PlainFrames, FramesOn, LeavingFrames, is_in, queued, steps, turn, last_after, HasFirstTurn, IsArranged, Arranges, IsChannel, HasChannel, placed, placed_all, arranged}
use Rattle.amqp_model.specs.Laws.ArrangementLaws.{OneRow, PutsMakeRow, PutArranges, LeavingIsPutLast}

-- what holds of a frame and of all of a row holds of the row with the frame
pub placed-keeps : (P : Frame → Type 0) (last : ℕ) (f : Frame) (row : List Frame) → P f → All P row → All P (placed last f row)
placed-keeps P last f [] p a = All-cons P f [] p a
placed-keeps P last f (g ∷ later) p a = cases (nat_lt (turn last f) (turn last g)) (placed-keeps P (last_after last g) f later p (All-tail P g later a))
  where
    cases : (sooner : Bool) → All P (placed (last_after last g) f later) → All P (cond sooner (f ∷ g ∷ later) (g ∷ placed (last_after last g) f later))
    cases true h = All-cons P f (g ∷ later) p a
    cases false h = All-cons P g (placed (last_after last g) f later) (All-head P g later a) h

placed_all-keeps : (P : Frame → Type 0) (last : ℕ) (frames row : List Frame) → All P frames → All P row → All P (placed_all last frames row)
placed_all-keeps P last [] row a b = b
placed_all-keeps P last (f ∷ later) row a b = placed_all-keeps P last later (placed last f row) (All-tail P f later a) (placed-keeps P last f row (All-head P f later a) b)

pub arranged-keeps : (P : Frame → Type 0) (last : ℕ) (waiting : List Frame) → All P waiting → All P (arranged last waiting)
arranged-keeps P last waiting a = placed_all-keeps P last waiting [] a (All-nil P)

-- a row that is arranged and has each queue in order is the one
pub is-row : OneRow → PutsMakeRow → (last : ℕ) (waiting row : List Frame) → IsChannel last → All HasChannel waiting → IsArranged last row
    → ((queue : Queue) → queued queue row ≡ queued queue waiting) → arranged last waiting ≡ row
is-row one made last waiting row l channels a queues =
    one last waiting (arranged last waiting) row l channels (made last waiting l channels) (record { arranged = a; queues = queues })

-- the row depends on the queues alone
pub same-row : OneRow → PutsMakeRow → (last : ℕ) (waiting other : List Frame) → IsChannel last → All HasChannel waiting → All HasChannel other
    → ((queue : Queue) → queued queue other ≡ queued queue waiting) → arranged last waiting ≡ arranged last other
same-row one made last waiting other l channels others queues =
    let m : Arranges last other (arranged last other) = made last other l others in
    is-row one made last waiting (arranged last other) l channels m.arranged (λ queue. m.queues queue ∙ queues queue)

-- the frame is in none of the queues of the other
abbrev pub AreApart : (f g : Frame) → Type 0
AreApart f g = (queue : Queue) → is_in queue f ≡ true → is_in queue g ≡ false

none-queued : (queue : Queue) (f : Frame) (others : List Frame) → is_in queue f ≡ true → All (AreApart f) others → queued queue others ≡ []
none-queued queue f [] e a = refl
none-queued queue f (g ∷ later) e a =
    let h = All-head (AreApart f) g later a queue e in
    ap (λ (b : Bool). cond b (g ∷ queued queue later) (queued queue later)) h ∙ none-queued queue f later e (All-tail (AreApart f) g later a)

-- a frame that stands after those of its queue, and one that stands last
put-last : (is : Bool) (f : Frame) (a b : List Frame) → (is ≡ true → b ≡ []) → a ++ cond is (f ∷ b) b ≡ (a ++ b) ++ cond is (f ∷ []) []
put-last true f a b none = let e : b ≡ [] = none refl in ap (λ l. a ++ f ∷ l) e ∙ ap (λ l. l ++ f ∷ []) (sym (append-nil a) ∙ ap (λ l. a ++ l) (sym e))
put-last false f a b none = sym (append-nil (a ++ b))

queued-last : (queue : Queue) (f : Frame) (a b : List Frame) → All (AreApart f) b → queued queue (a ++ f ∷ b) ≡ queued queue ((a ++ b) ++ f ∷ [])
queued-last queue f a b apart =
    filter-append (is_in queue) a (f ∷ b)
    ∙ (put-last (is_in queue f) f (queued queue a) (queued queue b) (λ e. none-queued queue f b e apart)
    ∙ sym (filter-append (is_in queue) (a ++ b) (f ∷ []) ∙ ap (λ l. l ++ queued queue (f ∷ [])) (filter-append (is_in queue) a b)))

-- a frame that is put after those of its queue
pub put-on : OneRow → PutsMakeRow → PutArranges → (last : ℕ) (f : Frame) (a b : List Frame) → IsChannel last → HasChannel f → All HasChannel a → All HasChannel b → All (AreApart f) b
    → arranged last (a ++ f ∷ b) ≡ placed last f (arranged last (a ++ b))
put-on one made puts last f a b l c ca cb apart =
    let both : All HasChannel (a ++ b) = All-append HasChannel a b ca cb in
    let all : All HasChannel (a ++ f ∷ b) = All-append HasChannel a (f ∷ b) ca (All-cons HasChannel f b c cb) in
    let p : Arranges last ((a ++ b) ++ f ∷ []) (placed last f (arranged last (a ++ b))) = puts last f (a ++ b) (arranged last (a ++ b)) l c both (made last (a ++ b) l both) in
    is-row one made last (a ++ f ∷ b) (placed last f (arranged last (a ++ b))) l all p.arranged (λ queue. p.queues queue ∙ sym (queued-last queue f a b apart))

put-first : (is : Bool) (f : Frame) (a b : List Frame) → (is ≡ true → a ≡ []) → cond is (f ∷ (a ++ b)) (a ++ b) ≡ a ++ cond is (f ∷ b) b
put-first true f a b none = let e : a ≡ [] = none refl in ap (λ l. f ∷ (l ++ b)) e ∙ ap (λ l. l ++ f ∷ b) (sym e)
put-first false f a b none = refl

-- the frame that leaves next, where it stands before those of its queue
pub next-leaves : OneRow → PutsMakeRow → (last : ℕ) (f : Frame) (a b : List Frame) → IsChannel last → IsChannel (last_after last f) → HasChannel f → All HasChannel a → All HasChannel b → All (AreApart f) a
    → All (λ other. turn last f ≤ turn last other) (a ++ b)
    → arranged last (a ++ f ∷ b) ≡ f ∷ arranged (last_after last f) (a ++ b)
next-leaves one made last f a b l n c ca cb apart first =
    let both : All HasChannel (a ++ b) = All-append HasChannel a b ca cb in
    let all : All HasChannel (a ++ f ∷ b) = All-append HasChannel a (f ∷ b) ca (All-cons HasChannel f b c cb) in
    let rest : List Frame = arranged (last_after last f) (a ++ b) in
    let m : Arranges (last_after last f) (a ++ b) rest = made (last_after last f) (a ++ b) n both in
    let next : HasFirstTurn last f rest = arranged-keeps (λ other. turn last f ≤ turn last other) (last_after last f) (a ++ b) first in
    is-row one made last (a ++ f ∷ b) (f ∷ rest) l all (next, m.arranged)
    (λ queue. ap (λ l. cond (is_in queue f) (f ∷ l) l) (m.queues queue ∙ filter-append (is_in queue) a b)
    ∙ (put-first (is_in queue f) f (queued queue a) (queued queue b) (λ e. none-queued queue f a e apart) ∙ sym (filter-append (is_in queue) a (f ∷ b))))

-- Frames of the channels above 0.

pub never-leaving : (f : Frame) → 0 < f.channel → is_leaving f ≡ false
never-leaving f above = and_left (f.channel == 0) _ (ne_eqb f.channel 0 (λ e. omega arith))

pub turn-above : (last : ℕ) (f : Frame) → 0 < f.channel → turn last f ≡ steps last f.channel
turn-above last f above =
    cond-false (is_leaving f) _ _ (never-leaving f above) ∙ cond-false (f.channel == 0) _ _ (ne_eqb f.channel 0 (λ e. omega arith))

pub last-above : (last : ℕ) (f : Frame) → 0 < f.channel → last_after last f ≡ f.channel
last-above last f above = cond-false (f.channel == 0) _ _ (ne_eqb f.channel 0 (λ e. omega arith))

never : (a : Bool) → (a && false) ≡ false
never true = refl
never false = refl

-- those of two channels are in no queue together
pub apart : (f g : Frame) → 0 < f.channel → (f.channel ≡ g.channel → ⊥) → AreApart f g
apart f g above ne PlainFrames e = absurd (true≢false (sym e ∙ and_left (f.channel == 0) _ (ne_eqb f.channel 0 (λ z. omega arith))))
apart f g above ne LeavingFrames e = absurd (true≢false (sym e ∙ never-leaving f above))
apart f g above ne (FramesOn channel) e =
    let is : f.channel ≡ channel = eqb-true f.channel channel (and_parts (nat_lt 0 channel) (f.channel == channel) e).1 in
    ap (λ b. nat_lt 0 channel && b) (ne_eqb g.channel channel (λ z. ne (is ∙ sym z))) ∙ never (nat_lt 0 channel)

steps-up : (last channel : ℕ) → last < channel → steps last channel ≡ channel - last
steps-up last channel h = cond-true (nat_lt last channel) _ _ (lt-ltb last channel h)

steps-round : (last channel : ℕ) → channel ≤ last → steps last channel ≡ (channel + 65535) - last
steps-round last channel h = cond-false (nat_lt last channel) _ _ (le-ltb last channel h)

-- a turn of such a channel comes after those of channel 0, and before those that leave
pub turn-some : (last : ℕ) (f : Frame) → 0 < f.channel → IsChannel last → 0 < turn last f
turn-some last f above l = by (cases_lt last f.channel)
  where
    by : (last < f.channel) ⊎ (f.channel ≤ last) → 0 < turn last f
    by (inl h) = let e = turn-above last f above ∙ steps-up last f.channel h in omega arith
    by (inr h) = let e = turn-above last f above ∙ steps-round last f.channel h in omega arith

pub turn-most : (last : ℕ) (f : Frame) → 0 < f.channel → HasChannel f → IsChannel last → turn last f < 65536
turn-most last f above c l = by (cases_lt last f.channel)
  where
    by : (last < f.channel) ⊎ (f.channel ≤ last) → turn last f < 65536
    by (inl h) = let e = turn-above last f above ∙ steps-up last f.channel h in omega arith
    by (inr h) = let e = turn-above last f above ∙ steps-round last f.channel h in omega arith

-- The parts of a row: plain frames of channel 0, those of the channels above 0, those that leave the connection.

pub record IsPlainFrame (f : Frame) : Type 0 where
  pub zero : f.channel ≡ 0
  pub stays : is_leaving f ≡ false

pub record IsAbove (f : Frame) : Type 0 where
  pub above : 0 < f.channel
  pub channel : HasChannel f

abbrev pub IsLeavingFrame : Frame → Type 0
IsLeavingFrame f = is_leaving f ≡ true

turn-plain : (last : ℕ) (f : Frame) → IsPlainFrame f → turn last f ≡ 0
turn-plain last f p = cond-false (is_leaving f) _ _ p.stays ∙ cond-true (f.channel == 0) _ _ (ap (λ c. c == 0) p.zero)

turn-leaving : (last : ℕ) (f : Frame) → IsLeavingFrame f → turn last f ≡ 65536
turn-leaving last f e = cond-true (is_leaving f) _ _ e

last-plain : (last : ℕ) (f : Frame) → IsPlainFrame f → last_after last f ≡ last
last-plain last f p = cond-true (f.channel == 0) _ _ (ap (λ c. c == 0) p.zero)

-- a frame is placed after all plain ones
placed-past : (last : ℕ) (f : Frame) (plain rest : List Frame) → All IsPlainFrame plain → placed last f (plain ++ rest) ≡ plain ++ placed last f rest
placed-past last f [] rest a = refl
placed-past last f (g ∷ plain) rest a =
    let h = All-head IsPlainFrame g plain a in
    let t = turn-plain last g h in
    cond-false (nat_lt (turn last f) (turn last g)) _ _ (le-ltb (turn last f) (turn last g) (omega arith))
    ∙ ap (λ l. g ∷ l) (ap (λ n. placed n f (plain ++ rest)) (last-plain last g h) ∙ placed-past last f plain rest (All-tail IsPlainFrame g plain a))

-- a frame is placed before those of which each has its turn later
placed-first : (last : ℕ) (f : Frame) (rest : List Frame) → All (λ g. turn last f < turn last g) rest → placed last f rest ≡ f ∷ rest
placed-first last f [] a = refl
placed-first last f (g ∷ rest) a = cond-true (nat_lt (turn last f) (turn last g)) _ _ (lt-ltb (turn last f) (turn last g) (All-head (λ g. turn last f < turn last g) g rest a))

-- a frame of a channel above 0 is placed before those that leave
placed-before : (last : ℕ) (f : Frame) (row leaving : List Frame) → IsAbove f → IsChannel last → All IsAbove row → All IsLeavingFrame leaving → placed last f (row ++ leaving) ≡ placed last f row ++ leaving
placed-before last f [] leaving u l a b =
    placed-first last f leaving (All-weaker IsLeavingFrame (λ g. turn last f < turn last g) (λ g e. let t = turn-leaving last g e in let m = turn-most last f u.above u.channel l in omega arith) leaving b)
placed-before last f (g ∷ row) leaving u l a b = by (nat_lt (turn last f) (turn last g))
    (placed-before (last_after last g) f row leaving u (subst IsChannel (sym (last-above last g h.above)) h.channel) (All-tail IsAbove g row a) b)
  where
    h : IsAbove g
    h = All-head IsAbove g row a

    by : (sooner : Bool) → placed (last_after last g) f (row ++ leaving) ≡ placed (last_after last g) f row ++ leaving
        → cond sooner (f ∷ g ∷ (row ++ leaving)) (g ∷ placed (last_after last g) f (row ++ leaving)) ≡ cond sooner (f ∷ g ∷ row) (g ∷ placed (last_after last g) f row) ++ leaving
    by true e = refl
    by false e = ap (λ l. g ∷ l) e

pub put-plain : (last : ℕ) (f : Frame) (plain row leaving : List Frame) → IsPlainFrame f → IsChannel last → All IsPlainFrame plain → All IsAbove row → All IsLeavingFrame leaving
    → placed last f (plain ++ (row ++ leaving)) ≡ (plain ++ f ∷ []) ++ (row ++ leaving)
put-plain last f plain row leaving p l a b c =
    let t = turn-plain last f p in
    let later : (g : Frame) → IsAbove g → turn last f < turn last g = λ g u. let s = turn-some last g u.above l in omega arith in
    let latest : (g : Frame) → IsLeavingFrame g → turn last f < turn last g = λ g e. let s = turn-leaving last g e in omega arith in
    let P : Frame → Type 0 = λ g. turn last f < turn last g in
    placed-past last f plain (row ++ leaving) a
    ∙ (ap (λ l. plain ++ l) (placed-first last f (row ++ leaving) (All-append P row leaving (All-weaker IsAbove P later row b) (All-weaker IsLeavingFrame P latest leaving c)))
    ∙ sym (append_assoc plain (f ∷ []) (row ++ leaving)))

pub put-above : (last : ℕ) (f : Frame) (plain row leaving : List Frame) → IsAbove f → IsChannel last → All IsPlainFrame plain → All IsAbove row → All IsLeavingFrame leaving
    → placed last f (plain ++ (row ++ leaving)) ≡ plain ++ (placed last f row ++ leaving)
put-above last f plain row leaving u l a b c = placed-past last f plain (row ++ leaving) a ∙ ap (λ l. plain ++ l) (placed-before last f row leaving u l b c)

pub put-leaving : LeavingIsPutLast → (last : ℕ) (f : Frame) (plain row leaving : List Frame) → IsLeavingFrame f → All HasChannel (plain ++ (row ++ leaving))
    → placed last f (plain ++ (row ++ leaving)) ≡ plain ++ (row ++ (leaving ++ f ∷ []))
put-leaving law last f plain row leaving e c =
    law last f (plain ++ (row ++ leaving)) e c ∙ (append_assoc plain (row ++ leaving) (f ∷ []) ∙ ap (λ l. plain ++ l) (append_assoc row leaving (f ∷ [])))

pub leaving-zero : (f : Frame) → IsLeavingFrame f → f.channel ≡ 0
leaving-zero f e = eqb-true f.channel 0 (and_parts (f.channel == 0) _ e).0

last-leaving : (last : ℕ) (f : Frame) → IsLeavingFrame f → last_after last f ≡ last
last-leaving last f e = cond-true (f.channel == 0) _ _ (ap (λ c. c == 0) (leaving-zero f e))

-- such a row is arranged
leaving-arranged : (last : ℕ) (leaving : List Frame) → All IsLeavingFrame leaving → IsArranged last leaving
leaving-arranged last [] a = tt
leaving-arranged last (f ∷ later) a =
    let h = All-head IsLeavingFrame f later a in
    let t = All-tail IsLeavingFrame f later a in (
      All-weaker IsLeavingFrame (λ other. turn last f ≤ turn last other) (λ g e. let x = turn-leaving last f h in let y = turn-leaving last g e in omega arith) later t,
      subst (λ n. IsArranged n later) (sym (last-leaving last f h)) (leaving-arranged last later t),
    )

above-arranged : (last : ℕ) (row leaving : List Frame) → IsChannel last → All IsAbove row → All IsLeavingFrame leaving → IsArranged last row → IsArranged last (row ++ leaving)
above-arranged last [] leaving l a b r = leaving-arranged last leaving b
above-arranged last (f ∷ row) leaving l a b r =
    let h = All-head IsAbove f row a in
    let later = All-weaker IsLeavingFrame (λ other. turn last f ≤ turn last other) (λ g e. let t = turn-leaving last g e in let m = turn-most last f h.above h.channel l in omega arith) leaving b in (
      All-append (λ other. turn last f ≤ turn last other) row leaving r.0 later,
      above-arranged (last_after last f) row leaving (subst IsChannel (sym (last-above last f h.above)) h.channel) (All-tail IsAbove f row a) b r.1,
    )

plain-arranged : (last : ℕ) (plain rest : List Frame) → All IsPlainFrame plain → IsArranged last rest → IsArranged last (plain ++ rest)
plain-arranged last [] rest a r = r
plain-arranged last (f ∷ plain) rest a r =
    let h = All-head IsPlainFrame f plain a in
    let t = turn-plain last f h in (
      λ k d less. omega arith,
      subst (λ n. IsArranged n (plain ++ rest)) (sym (last-plain last f h)) (plain-arranged last plain rest (All-tail IsPlainFrame f plain a) r),
    )

pub in-turn : PutsMakeRow → (last : ℕ) (plain waiting leaving : List Frame) → IsChannel last → All IsPlainFrame plain → All IsAbove waiting → All IsLeavingFrame leaving
    → IsArranged last (plain ++ (arranged last waiting ++ leaving))
in-turn made last plain waiting leaving l a b c =
    let m = made last waiting l (All-weaker IsAbove HasChannel (λ f u. u.channel) waiting b) in
    plain-arranged last plain (arranged last waiting ++ leaving) a (above-arranged last (arranged last waiting) leaving l (arranged-keeps IsAbove last waiting b) c m.arranged)

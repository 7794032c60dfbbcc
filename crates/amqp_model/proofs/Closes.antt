-- Frames before a connection.close or close-ok.
use Rattle.std.proofs.Common.{◌≡◌, ℕ, zero, suc, ◌<◌, ◌≤◌, Bool, true, false, List, [], ◌∷◌}
use Rattle.std.proofs.Common.{◌++◌, length, refl, sym, ap, ◌∙◌, subst₂, arith, append_assoc, append-nil}
use Rattle.std.proofs.lemmas.Bool.{cond-true, cond-false}
use Rattle.std.proofs.lemmas.List.Elements.{filter-append}
use Rattle.amqp_frame.specs.Frame.{Frame}
use Rattle.amqp_model.specs.Output.Arrangement.{is_leaving, Queue, LeavingFrames, is_in, queued}
use Rattle.amqp_model.specs.Output.Departures.{before_close}
use Rattle.amqp_model.specs.Output.Prefixes.{IsPrefixOf}

pub begins-itself : {A : Type 0} (xs ys : List A) → xs ≡ ys → IsPrefixOf ys xs
begins-itself xs ys e = ([], e ∙ sym (append-nil ys))

pub begins-through : {A : Type 0} (xs ys zs : List A) → IsPrefixOf ys xs → IsPrefixOf zs ys → IsPrefixOf zs xs
begins-through xs ys zs b c = (c.0 ++ b.0, b.1 ∙ (ap (λ l. l ++ b.0) c.1 ∙ append_assoc zs c.0 b.0))

-- how many frames leave the connection
abbrev pub closes_in : List Frame → ℕ
closes_in frames = length (queued LeavingFrames frames)

pub closes-leaving : (f : Frame) (later : List Frame) → is_leaving f ≡ true
    → closes_in (f ∷ later) ≡ suc (closes_in later)
closes-leaving f later l =
    ap length (cond-true (is_leaving f) (f ∷ queued LeavingFrames later) (queued LeavingFrames later) l)

pub closes-other : (f : Frame) (later : List Frame) → is_leaving f ≡ false
    → closes_in (f ∷ later) ≡ closes_in later
closes-other f later l =
    ap length (cond-false (is_leaving f) (f ∷ queued LeavingFrames later) (queued LeavingFrames later) l)

-- how `before_close` goes on after a frame
before-leaving-zero : (f : Frame) (later : List Frame) → is_leaving f ≡ true → before_close 0 (f ∷ later) ≡ []
before-leaving-zero f later l = cond-true (is_leaving f) _ _ l

before-leaving-suc : (k : ℕ) (f : Frame) (later : List Frame) → is_leaving f ≡ true
    → before_close (suc k) (f ∷ later) ≡ f ∷ before_close k later
before-leaving-suc k f later l = ap (λ m. f ∷ m) (cond-true (is_leaving f) _ _ l)

before-other : (k : ℕ) (f : Frame) (later : List Frame) → is_leaving f ≡ false
    → before_close k (f ∷ later) ≡ f ∷ before_close k later
before-other zero f later l = cond-false (is_leaving f) _ _ l
before-other (suc k) f later l = ap (λ m. f ∷ m) (cond-false (is_leaving f) _ _ l)

-- Where there are no more than k, all frames stand before.
pub before-few : (k : ℕ) (frames : List Frame) → closes_in frames ≤ k → before_close k frames ≡ frames
before-few k [] few = refl
before-few zero (f ∷ later) few = cases (is_leaving f) refl (before-few zero later)
  where
    cases : (b : Bool) → is_leaving f ≡ b → (closes_in later ≤ 0 → before_close 0 later ≡ later)
        → before_close 0 (f ∷ later) ≡ f ∷ later
    cases true l more = let c = closes-leaving f later l in absurd (omega arith)
    cases false l more =
        let c = closes-other f later l in
        before-other 0 f later l ∙ ap (λ m. f ∷ m) (more (omega arith))
before-few (suc k) (f ∷ later) few = cases (is_leaving f) refl (before-few k later) (before-few (suc k) later)
  where
    cases : (b : Bool) → is_leaving f ≡ b → (closes_in later ≤ k → before_close k later ≡ later)
        → (closes_in later ≤ suc k → before_close (suc k) later ≡ later)
        → before_close (suc k) (f ∷ later) ≡ f ∷ later
    cases true l more _ =
        let c = closes-leaving f later l in
        before-leaving-suc k f later l ∙ ap (λ m. f ∷ m) (more (omega arith))
    cases false l _ more =
        let c = closes-other f later l in
        before-other (suc k) f later l ∙ ap (λ m. f ∷ m) (more (omega arith))

-- Where there are more, frames put after change nothing.
pub before-append : (k : ℕ) (frames others : List Frame) → k < closes_in frames
    → before_close k (frames ++ others) ≡ before_close k frames
before-append k [] others many = absurd (omega arith)
before-append zero (f ∷ later) others many = cases (is_leaving f) refl (before-append zero later others)
  where
    cases : (b : Bool) → is_leaving f ≡ b
        → (0 < closes_in later → before_close 0 (later ++ others) ≡ before_close 0 later)
        → before_close 0 (f ∷ (later ++ others)) ≡ before_close 0 (f ∷ later)
    cases true l more = before-leaving-zero f (later ++ others) l ∙ sym (before-leaving-zero f later l)
    cases false l more =
        let c = closes-other f later l in
        before-other 0 f (later ++ others) l
        ∙ (ap (λ m. f ∷ m) (more (omega arith)) ∙ sym (before-other 0 f later l))
before-append (suc k) (f ∷ later) others many =
    cases (is_leaving f) refl (before-append k later others) (before-append (suc k) later others)
  where
    cases : (b : Bool) → is_leaving f ≡ b
        → (k < closes_in later → before_close k (later ++ others) ≡ before_close k later)
        → (suc k < closes_in later → before_close (suc k) (later ++ others) ≡ before_close (suc k) later)
        → before_close (suc k) (f ∷ (later ++ others)) ≡ before_close (suc k) (f ∷ later)
    cases true l more _ =
        let c = closes-leaving f later l in
        before-leaving-suc k f (later ++ others) l
        ∙ (ap (λ m. f ∷ m) (more (omega arith)) ∙ sym (before-leaving-suc k f later l))
    cases false l _ more =
        let c = closes-other f later l in
        before-other (suc k) f (later ++ others) l
        ∙ (ap (λ m. f ∷ m) (more (omega arith)) ∙ sym (before-other (suc k) f later l))

-- Just so many stand before a frame that leaves the connection.
pub before-at : (k : ℕ) (frames others : List Frame) (f : Frame) → is_leaving f ≡ true → closes_in frames ≡ k
    → before_close k (frames ++ f ∷ others) ≡ frames
before-at zero [] others f l e = before-leaving-zero f others l
before-at (suc k) [] others f l e = absurd (omega arith)
before-at zero (g ∷ frames) others f l e = cases (is_leaving g) refl (before-at zero frames others f l)
  where
    cases : (b : Bool) → is_leaving g ≡ b
        → (closes_in frames ≡ 0 → before_close 0 (frames ++ f ∷ others) ≡ frames)
        → before_close 0 (g ∷ (frames ++ f ∷ others)) ≡ g ∷ frames
    cases true m next = let c = closes-leaving g frames m in absurd (omega arith)
    cases false m next =
        let c = closes-other g frames m in
        before-other 0 g (frames ++ f ∷ others) m ∙ ap (λ t. g ∷ t) (next (omega arith))
before-at (suc k) (g ∷ frames) others f l e =
    cases (is_leaving g) refl (before-at k frames others f l) (before-at (suc k) frames others f l)
  where
    cases : (b : Bool) → is_leaving g ≡ b
        → (closes_in frames ≡ k → before_close k (frames ++ f ∷ others) ≡ frames)
        → (closes_in frames ≡ suc k → before_close (suc k) (frames ++ f ∷ others) ≡ frames)
        → before_close (suc k) (g ∷ (frames ++ f ∷ others)) ≡ g ∷ frames
    cases true m next _ =
        let c = closes-leaving g frames m in
        before-leaving-suc k g (frames ++ f ∷ others) m ∙ ap (λ t. g ∷ t) (next (omega arith))
    cases false m _ next =
        let c = closes-other g frames m in
        before-other (suc k) g (frames ++ f ∷ others) m ∙ ap (λ t. g ∷ t) (next (omega arith))

-- Frames before a close stand at the start.
before-prefix : (k : ℕ) (frames : List Frame) → IsPrefixOf (before_close k frames) frames
before-prefix k [] = ([], refl)
before-prefix zero (f ∷ later) = cases (is_leaving f) refl (before-prefix zero later)
  where
    cases : (b : Bool) → is_leaving f ≡ b → IsPrefixOf (before_close 0 later) later
        → IsPrefixOf (before_close 0 (f ∷ later)) (f ∷ later)
    cases true l _ = (f ∷ later, ap (λ m. m ++ f ∷ later) (sym (before-leaving-zero f later l)))
    cases false l next = (next.0, ap (λ m. f ∷ m) next.1 ∙ ap (λ m. m ++ next.0) (sym (before-other 0 f later l)))
before-prefix (suc k) (f ∷ later) = cases (is_leaving f) refl (before-prefix k later) (before-prefix (suc k) later)
  where
    cases : (b : Bool) → is_leaving f ≡ b → IsPrefixOf (before_close k later) later
        → IsPrefixOf (before_close (suc k) later) later
        → IsPrefixOf (before_close (suc k) (f ∷ later)) (f ∷ later)
    cases true l next _ =
        (next.0, ap (λ m. f ∷ m) next.1 ∙ ap (λ m. m ++ next.0) (sym (before-leaving-suc k f later l)))
    cases false l _ next =
        (next.0, ap (λ m. f ∷ m) next.1 ∙ ap (λ m. m ++ next.0) (sym (before-other (suc k) f later l)))

pub prefix-none : {A : Type 0} (xs ys : List A) → xs ++ ys ≡ [] → xs ≡ []
prefix-none [] ys e = refl
prefix-none (x ∷ xs) ys e = absurd cc

before-none : (k : ℕ) (queue : Queue) (frames : List Frame) → queued queue frames ≡ []
    → queued queue (before_close k frames) ≡ []
before-none k queue frames none =
    let prefix = before-prefix k frames in
    prefix-none (queued queue (before_close k frames)) (queued queue prefix.0)
    (sym (filter-append (is_in queue) (before_close k frames) prefix.0) ∙ (sym (ap (queued queue) prefix.1) ∙ none))

begins-after : (queue : Queue) (g : Frame) (xs ys : List Frame) → IsPrefixOf (queued queue ys) (queued queue xs)
    → IsPrefixOf (queued queue (g ∷ ys)) (queued queue (g ∷ xs))
begins-after queue g xs ys begins = cases (is_in queue g) refl
  where
    cases : (b : Bool) → is_in queue g ≡ b → IsPrefixOf (queued queue (g ∷ ys)) (queued queue (g ∷ xs))
    cases true e = (
      begins.0,
      cond-true (is_in queue g) _ _ e
          ∙ (ap (λ l. g ∷ l) begins.1 ∙ ap (λ l. l ++ begins.0) (sym (cond-true (is_in queue g) _ _ e))),
    )
    cases false e = (
      begins.0,
      cond-false (is_in queue g) _ _ e
          ∙ (begins.1 ∙ ap (λ l. l ++ begins.0) (sym (cond-false (is_in queue g) _ _ e))),
    )

-- a frame more, that doesn't leave the connection, takes none of the others from before a close
pub gains-before : (k : ℕ) (queue : Queue) (f : Frame) (prefix back : List Frame) → is_leaving f ≡ false
    → (is_in queue f ≡ true → queued queue back ≡ [])
    → IsPrefixOf (queued queue (before_close k (prefix ++ back)))
    (queued queue (before_close k (prefix ++ f ∷ back)))
gains-before k queue f [] back l newest = cases (is_in queue f) refl
  where
    cases : (b : Bool) → is_in queue f ≡ b
        → IsPrefixOf (queued queue (before_close k back)) (queued queue (before_close k (f ∷ back)))
    cases true e = (
      queued queue (before_close k (f ∷ back)),
      ap (λ m. m ++ queued queue (before_close k (f ∷ back)))
          (sym (before-none k queue back (newest e))),
    )
    cases false e = begins-itself _ _ (ap (queued queue) (before-other k f back l) ∙ cond-false (is_in queue f) _ _ e)
gains-before zero queue f (g ∷ prefix) back l newest =
    cases (is_leaving g) refl (gains-before zero queue f prefix back l newest)
  where
    cases : (b : Bool) → is_leaving g ≡ b
        → IsPrefixOf (queued queue (before_close 0 (prefix ++ back)))
        (queued queue (before_close 0 (prefix ++ f ∷ back)))
        → IsPrefixOf (queued queue (before_close 0 (g ∷ (prefix ++ back))))
        (queued queue (before_close 0 (g ∷ (prefix ++ f ∷ back))))
    cases true m _ =
        begins-itself _ _ (ap (queued queue) (before-leaving-zero g (prefix ++ f ∷ back) m
        ∙ sym (before-leaving-zero g (prefix ++ back) m)))
    cases false m next =
        subst₂ (λ xs ys. IsPrefixOf (queued queue ys) (queued queue xs))
        (sym (before-other 0 g (prefix ++ f ∷ back) m)) (sym (before-other 0 g (prefix ++ back) m))
        (begins-after queue g _ _ next)
gains-before (suc k) queue f (g ∷ prefix) back l newest =
    cases (is_leaving g) refl (gains-before k queue f prefix back l newest)
    (gains-before (suc k) queue f prefix back l newest)
  where
    cases : (b : Bool) → is_leaving g ≡ b
        → IsPrefixOf (queued queue (before_close k (prefix ++ back)))
        (queued queue (before_close k (prefix ++ f ∷ back)))
        → IsPrefixOf (queued queue (before_close (suc k) (prefix ++ back)))
        (queued queue (before_close (suc k) (prefix ++ f ∷ back)))
        → IsPrefixOf (queued queue (before_close (suc k) (g ∷ (prefix ++ back))))
        (queued queue (before_close (suc k) (g ∷ (prefix ++ f ∷ back))))
    cases true m next _ =
        subst₂ (λ xs ys. IsPrefixOf (queued queue ys) (queued queue xs))
        (sym (before-leaving-suc k g (prefix ++ f ∷ back) m)) (sym (before-leaving-suc k g (prefix ++ back) m))
        (begins-after queue g _ _ next)
    cases false m _ next =
        subst₂ (λ xs ys. IsPrefixOf (queued queue ys) (queued queue xs))
        (sym (before-other (suc k) g (prefix ++ f ∷ back) m)) (sym (before-other (suc k) g (prefix ++ back) m))
        (begins-after queue g _ _ next)

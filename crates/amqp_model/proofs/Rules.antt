-- An arranged row is one that follows the rules.
use Rattle.std.proofs.Common.{◌≡◌, ℕ, ◌<◌, ◌≤◌, Bool, true, false, not, ◌&&◌, ◌==◌, nat_lt}
use Rattle.std.proofs.Common.{List, [], ◌∷◌, ◌++◌, All, length, get_or, refl, sym, ap, ap₂, ◌∙◌}
use Rattle.std.proofs.Common.{subst, arith, lt-ltb, eq-eqb, ne_eqb}
use Rattle.std.proofs.lemmas.Bool.{cond-true, cond-false, and_parts, eqb-true, ltb-true, and_from, not_from_false}
use Rattle.std.proofs.lemmas.Bool.{not_from_true, and_right, not-true}
use Rattle.std.proofs.lemmas.List.{get_or-map, length-map}
use Rattle.std.proofs.lemmas.List.Elements.{All-head, All-tail, All-filter, All-map, All-append, All-contains}
use Rattle.std.proofs.lemmas.List.Elements.{Contains-get_or, filter_passes}
use Rattle.amqp_frame.specs.Frame.{Frame}
use Rattle.amqp_model.specs.Output.Arrangement.{is_leaving, PlainFrames, LeavingFrames, is_in, queued, steps, turn}
use Rattle.amqp_model.specs.Output.Arrangement.{last_after, IsArranged, HasChannel}
use Rattle.amqp_model.specs.Output.ArrangementRules.{above_0, channels_of, FollowsRules}
use Rattle.amqp_model.proofs.Turns.{Rank, plain, in_turn, leaves, rank, turn-plain, turn-in_turn, turn-leaves}
use Rattle.amqp_model.proofs.Turns.{turn-most, last-stays, last-moves, last-channel, steps-least, steps-most}
use Rattle.amqp_model.proofs.Rows.{filter-none}

-- channels to be met after LAST, each where its turn is
abbrev TakeTurns : (last : ℕ) → List ℕ → Type 0
TakeTurns last [] = Unit {0}
TakeTurns last (d ∷ beyond) = All (λ e. steps last d ≤ steps last e) beyond × TakeTurns d beyond

above-in : (f : Frame) (later : List Frame) → 0 < f.channel → above_0 (f ∷ later) ≡ f ∷ above_0 later
above-in f later h = cond-true (nat_lt 0 f.channel) _ _ (lt-ltb 0 f.channel h)

above-out : (f : Frame) (later : List Frame) → f.channel ≡ 0 → above_0 (f ∷ later) ≡ above_0 later
above-out f later z = cond-false (nat_lt 0 f.channel) _ _ (ap (nat_lt 0) z)

turns-split : (last : ℕ) (ds before beyond : List ℕ) (c d : ℕ) → TakeTurns last ds
    → last ∷ ds ≡ before ++ c ∷ d ∷ beyond → All (λ e. steps c d ≤ steps c e) beyond
turns-split last [] [] beyond c d turns e = absurd (let k : [] ≡ d ∷ beyond = cc in cc)
turns-split last [] (x ∷ before) beyond c d turns e =
    absurd (let k : [] ≡ before ++ c ∷ d ∷ beyond = cc in none before k)
  where
    none : (before : List ℕ) → [] ≡ before ++ c ∷ d ∷ beyond → ⊥
    none [] k = cc
    none (y ∷ before) k = cc
turns-split last (x ∷ ds) [] beyond c d turns e =
    let a : last ≡ c = cc in
    let b : x ≡ d = cc in
    let r : ds ≡ beyond = cc in
    subst (λ l. All (λ e. steps c d ≤ steps c e) l) r (subst (λ y. All (λ e. steps c y ≤ steps c e) ds) b
    (subst (λ y. All (λ e. steps y x ≤ steps y e) ds) a turns.0))
turns-split last (x ∷ ds) (y ∷ before) beyond c d turns e =
    let r : x ∷ ds ≡ before ++ c ∷ d ∷ beyond = cc in
    turns-split x ds before beyond c d turns.1 r

split-turns : (last : ℕ) (ds : List ℕ)
    → ((before beyond : List ℕ) (c d : ℕ) → last ∷ ds ≡ before ++ c ∷ d ∷ beyond
    → All (λ e. steps c d ≤ steps c e) beyond) → TakeTurns last ds
split-turns last [] split = tt
split-turns last (x ∷ ds) split = (
  split [] ds last x refl,
  split-turns x ds (λ before beyond c d e.
      split (last ∷ before) beyond c d (ap (λ l. last ∷ l) e)),
)

-- the channels of an arranged row take turns
arranged-turns : (last : ℕ) (row : List Frame) → IsArranged last row → TakeTurns last (channels_of (above_0 row))
arranged-turns last [] row = tt
arranged-turns last (f ∷ later) row = cases (rank f) (arranged-turns (last_after last f) later row.1)
  where
    skip : f.channel ≡ 0 → TakeTurns (last_after last f) (channels_of (above_0 later))
        → TakeTurns last (channels_of (above_0 (f ∷ later)))
    skip z more =
        subst (λ l. TakeTurns last (channels_of l)) (sym (above-out f later z))
        (subst (λ l. TakeTurns l (channels_of (above_0 later))) (last-stays last f z) more)

    first : 0 < f.channel → is_leaving f ≡ false → (g : Frame) → nat_lt 0 g.channel ≡ true
        → turn last f ≤ turn last g → steps last f.channel ≤ steps last g.channel
    first z l g above before = other (rank g)
      where
        other : Rank g → steps last f.channel ≤ steps last g.channel
        other (plain y m) = let a = ltb-true 0 g.channel above in absurd (omega arith)
        other (leaves y m) = let a = ltb-true 0 g.channel above in absurd (omega arith)
        other (in_turn y m) =
            let a = turn-in_turn last f z l in
            let b = turn-in_turn last g y m in
            omega arith

    cases : Rank f → TakeTurns (last_after last f) (channels_of (above_0 later))
        → TakeTurns last (channels_of (above_0 (f ∷ later)))
    cases (plain z l) more = skip z more
    cases (leaves z l) more = skip z more
    cases (in_turn z l) more =
        let after : TakeTurns f.channel (channels_of (above_0 later)) =
        subst (λ c. TakeTurns c (channels_of (above_0 later))) (last-moves last f z) more in
        let passes : All (λ g. nat_lt 0 g.channel ≡ true) (above_0 later) =
        filter_passes (λ g. nat_lt 0 g.channel) later in
        let next : All (λ g. turn last f ≤ turn last g) (above_0 later) =
        All-filter (λ g. nat_lt 0 g.channel) (λ g. turn last f ≤ turn last g) later row.0 in
        subst (λ l. TakeTurns last (channels_of l)) (sym (above-in f later z)) (
          All-map (λ e. steps last f.channel ≤ steps last e) (λ g. g.channel) (above_0 later)
              (λ k d h. first z l (get_or (above_0 later) k d) (passes k d h) (next k d h)),
          after,
        )

-- and it stands in three parts
arranged-parts : (last : ℕ) (row : List Frame) → last < 65536 → All HasChannel row → IsArranged last row
    → row ≡ queued PlainFrames row ++ (above_0 row ++ queued LeavingFrames row)
arranged-parts last [] l cs row = refl
arranged-parts last (f ∷ later) l cs row =
    cases (rank f) (arranged-parts (last_after last f) later (last-channel last f l (All-head HasChannel f later cs))
    (All-tail HasChannel f later cs) row.1)
  where
    none-plain : 0 < turn last f → queued PlainFrames later ≡ []
    none-plain h =
        filter-none (is_in PlainFrames) later
        (λ k d i. one (get_or later k d) (row.0 k d i) (is_in PlainFrames (get_or later k d)) refl)
      where
        one : (g : Frame) → turn last f ≤ turn last g → (b : Bool) → is_in PlainFrames g ≡ b
            → is_in PlainFrames g ≡ false
        one g m false e = e
        one g m true e =
            let p = and_parts (g.channel == 0) (not (is_leaving g)) e in
            let t = turn-plain last g (eqb-true g.channel 0 p.0) (not-true (is_leaving g) p.1) in
            absurd (omega arith)

    none-above : is_leaving f ≡ true → above_0 later ≡ []
    none-above h =
        filter-none (λ g. nat_lt 0 g.channel) later
        (λ k d i. one (get_or later k d) (All-tail HasChannel f later cs k d i) (row.0 k d i)
        (rank (get_or later k d)))
      where
        off : (g : Frame) → g.channel ≡ 0 → nat_lt 0 g.channel ≡ false
        off g z = ap (nat_lt 0) z

        one : (g : Frame) → HasChannel g → turn last f ≤ turn last g → Rank g → nat_lt 0 g.channel ≡ false
        one g c m (plain z n) = off g z
        one g c m (leaves z n) = off g z
        one g c m (in_turn z n) =
            let a = turn-in_turn last g z n in
            let b = turn-leaves last f h in
            let s = steps-most last g.channel c in
            absurd (omega arith)

    cases : Rank f → later ≡ queued PlainFrames later ++ (above_0 later ++ queued LeavingFrames later)
        → f ∷ later ≡ queued PlainFrames (f ∷ later)
        ++ (above_0 (f ∷ later) ++ queued LeavingFrames (f ∷ later))
    cases (plain z n) parts =
        let p : queued PlainFrames (f ∷ later) ≡ f ∷ queued PlainFrames later =
        cond-true (is_in PlainFrames f) _ _
        (and_from (f.channel == 0) (not (is_leaving f)) (eq-eqb f.channel 0 z) (not_from_false _ n)) in
        let a = above-out f later z in
        let q : queued LeavingFrames (f ∷ later) ≡ queued LeavingFrames later = cond-false (is_leaving f) _ _ n in
        ap (λ m. f ∷ m) parts ∙ sym (ap₂ (λ m t. m ++ t) p (ap₂ (λ m t. m ++ t) a q))
    cases (in_turn z n) parts =
        let off : (f.channel == 0) ≡ false = ne_eqb f.channel 0 (λ e. omega arith) in
        let t = turn-in_turn last f z n in
        let s = steps-least last f.channel l z in
        let none = none-plain (omega arith) in
        let p : queued PlainFrames (f ∷ later) ≡ [] =
        cond-false (is_in PlainFrames f) _ _ (ap (λ b. b && not (is_leaving f)) off) ∙ none in
        let a = above-in f later z in
        let q : queued LeavingFrames (f ∷ later) ≡ queued LeavingFrames later = cond-false (is_leaving f) _ _ n in
        ap (λ m. f ∷ m) (parts ∙ ap (λ m. m ++ (above_0 later ++ queued LeavingFrames later)) none)
        ∙ sym (ap₂ (λ m t. m ++ t) p (ap₂ (λ m t. m ++ t) a q))
    cases (leaves z n) parts =
        let t = turn-leaves last f n in
        let none = none-plain (omega arith) in
        let p : queued PlainFrames (f ∷ later) ≡ [] =
        cond-false (is_in PlainFrames f) _ _
        (and_right (f.channel == 0) (not (is_leaving f)) (not_from_true (is_leaving f) n)) ∙ none in
        let a = above-out f later z ∙ none-above n in
        let q : queued LeavingFrames (f ∷ later) ≡ f ∷ queued LeavingFrames later =
        cond-true (is_leaving f) _ _ n in
        ap (λ m. f ∷ m) (parts ∙ ap₂ (λ m t. m ++ (t ++ queued LeavingFrames later)) none (none-above n))
        ∙ sym (ap₂ (λ m t. m ++ t) p (ap₂ (λ m t. m ++ t) a q))

-- A row in three parts whose channels take turns is arranged.
leaving-arranged : (last : ℕ) (row : List Frame) → All HasChannel row → All (λ f. is_leaving f ≡ true) row
    → IsArranged last row
leaving-arranged last [] cs l = tt
leaving-arranged last (f ∷ later) cs l = (
  λ k d h. next (get_or later k d) (All-tail (λ g. is_leaving g ≡ true) f later l k d h),
  leaving-arranged
      (last_after last f) later (All-tail HasChannel f later cs) (All-tail (λ g. is_leaving g ≡ true) f later l),
)
  where
    next : (g : Frame) → is_leaving g ≡ true → turn last f ≤ turn last g
    next g m =
        let a = turn-leaves last f (All-head (λ x. is_leaving x ≡ true) f later l) in
        let b = turn-leaves last g m in
        omega arith

turns-arranged : (last : ℕ) (row beyond : List Frame) → All HasChannel row → All HasChannel beyond
    → All (λ f. nat_lt 0 f.channel ≡ true) row → All (λ f. is_leaving f ≡ true) beyond
    → TakeTurns last (channels_of row) → IsArranged last (row ++ beyond)
turns-arranged last [] beyond cs bs above l turns = leaving-arranged last beyond bs l
turns-arranged last (f ∷ later) beyond cs bs above l turns = (
  All-append (λ g. turn last f ≤ turn last g) later beyond
      (λ k d h. near (get_or later k d) (All-tail HasChannel f later cs k d h)
      (All-tail (λ g. nat_lt 0 g.channel ≡ true) f later above k d h) (steps-of k d h))
      (λ k d h. far (get_or beyond k d) (l k d h)),
  subst (λ c. IsArranged c (later ++ beyond))
      (sym (last-moves last f here)) (turns-arranged f.channel later beyond (All-tail HasChannel f later cs) bs
      (All-tail (λ g. nat_lt 0 g.channel ≡ true) f later above) l turns.1),
)
  where
    here : 0 < f.channel
    here = ltb-true 0 f.channel (All-head (λ g. nat_lt 0 g.channel ≡ true) f later above)

    stays : (g : Frame) → 0 < g.channel → is_leaving g ≡ false
    stays g h = other (rank g)
      where
        other : Rank g → is_leaving g ≡ false
        other (plain z n) = n
        other (in_turn z n) = n
        other (leaves z n) = absurd (omega arith)

    steps-of : (k : ℕ) (d : Frame) → k < length later
        → steps last f.channel ≤ steps last (get_or later k d).channel
    steps-of k d h =
        subst (λ e. steps last f.channel ≤ steps last e) (get_or-map (λ g. g.channel) later k d d.channel h)
        (turns.0 k d.channel (subst (λ m. k < m) (sym (length-map later (λ g. g.channel))) h))

    near : (g : Frame) → HasChannel g → nat_lt 0 g.channel ≡ true
        → steps last f.channel ≤ steps last g.channel → turn last f ≤ turn last g
    near g c above s =
        let b = ltb-true 0 g.channel above in
        let t = turn-in_turn last f here (stays f here) in
        let u = turn-in_turn last g b (stays g b) in
        omega arith

    far : (g : Frame) → is_leaving g ≡ true → turn last f ≤ turn last g
    far g m =
        let t = turn-most last f (All-head HasChannel f later cs) in
        let u = turn-leaves last g m in
        omega arith

plain-arranged : (last : ℕ) (row beyond : List Frame) → All (λ f. is_in PlainFrames f ≡ true) row
    → IsArranged last beyond → IsArranged last (row ++ beyond)
plain-arranged last [] beyond p arranged = arranged
plain-arranged last (f ∷ later) beyond p arranged = (
  λ k d h. let a = turn-plain last f zero stays in
      omega arith,
  subst (λ c. IsArranged c (later ++ beyond)) (sym (last-stays last f zero))
      (plain-arranged last later beyond (All-tail (λ g. is_in PlainFrames g ≡ true) f later p) arranged),
)
  where
    here : ((f.channel == 0) ≡ true) × (not (is_leaving f) ≡ true)
    here = and_parts (f.channel == 0) (not (is_leaving f)) (All-head (λ g. is_in PlainFrames g ≡ true) f later p)

    zero : f.channel ≡ 0
    zero = eqb-true f.channel 0 here.0

    stays : is_leaving f ≡ false
    stays = not-true (is_leaving f) here.1

pub arranged-rules : (last : ℕ) (row : List Frame) → last < 65536 → All HasChannel row
    → IsArranged last row → FollowsRules last row
arranged-rules last row l cs arranged = record {
  in_parts = arranged-parts last row l cs arranged;
  in_turn =
      λ before beyond c d e split contained. All-contains (λ x. steps c d ≤ steps c x) beyond e
      (turns-split last (channels_of (above_0 row)) before beyond c d (arranged-turns last row arranged) split)
      contained;
}

pub rules-arranged : (last : ℕ) (row : List Frame) → All HasChannel row
    → FollowsRules last row → IsArranged last row
rules-arranged last row cs rules =
    let turns = split-turns last (channels_of (above_0 row)) (λ before beyond c d split k x h.
    rules.in_turn before beyond c d (get_or beyond k x) split (Contains-get_or beyond k x h)) in
    let parts = turns-arranged last (above_0 row) (queued LeavingFrames row)
    (All-filter (λ f. nat_lt 0 f.channel) HasChannel row cs) (All-filter is_leaving HasChannel row cs)
    (filter_passes (λ f. nat_lt 0 f.channel) row) (filter_passes is_leaving row) turns in
    subst (IsArranged last) (sym rules.in_parts)
    (plain-arranged last (queued PlainFrames row) (above_0 row ++ queued LeavingFrames row)
    (filter_passes (is_in PlainFrames) row) parts)

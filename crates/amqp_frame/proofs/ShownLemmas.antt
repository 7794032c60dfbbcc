-- Octets are judged to show a fault exactly when a prefix of them is the first to show it.
use Rattle.std.proofs.Common.{◌≡◌, inl, inr, Bool, true, false, cond, ℕ, ◌+◌, ◌<◌, ◌≤◌, ◌==◌, nat_lt, List, [], ◌∷◌, length, take, get_or, Option, Some, None, refl, sym, ap, subst, arith}
use Rattle.std.proofs.lemmas.Bool.{cases_lt, eqb-true, eqb-false, ltb-true, ltb-false}
use Rattle.std.proofs.lemmas.List.{length-take, length-take-le, get_or-take}
use Rattle.amqp_frame.specs.Frame.{END, type_octet}
use Rattle.amqp_frame.specs.Splitting.{IsTypeOctet, size_of, TellsFirst}
use Rattle.amqp_frame.specs.Judging.{IsBegun}
use Rattle.amqp_frame.specs.Judged.{Judgement, Begun, Whole, Wrong, kind_of_type, frame_in, judged_by_end, judged_by_size, judged_by_type, judged, fault_place}
use Rattle.amqp_frame.specs.declared.faults.FrameFaultKind.{FrameFaultKind}
use Rattle.amqp_frame.specs.declared.faults.FrameFaultKind.TheVariants.{UnknownType, TooLarge, BadEnd, OutOfMemory, Failed}
use Rattle.amqp_frame.specs.declared.frames.FrameKind.{FrameKind}
use Rattle.amqp_frame.specs.declared.frames.FrameKind.TheVariants as frames
use Rattle.amqp_frame.proofs.FrameLemmas.{type_octet-is}
use Rattle.amqp_frame.proofs.SplittingLemmas.{size_of-take, begun_tells_none, begun_prefix, told_first}

-- the type octet of a kind, or of none
data TypeRead (octet : ℕ) : Option FrameKind → Type 0 where
  is_type : (kind : FrameKind) → type_octet kind ≡ octet → TypeRead octet (Some kind)
  no_type : (IsTypeOctet octet → ⊥) → TypeRead octet None

type_read : (octet : ℕ) → TypeRead octet (kind_of_type octet)
type_read octet = first (octet == 1) refl (octet == 2) refl (octet == 3) refl (octet == 8) refl
  where
    first : (a : Bool) → (octet == 1) ≡ a → (b : Bool) → (octet == 2) ≡ b → (c : Bool) → (octet == 3) ≡ c → (d : Bool) → (octet == 8) ≡ d → TypeRead octet (kind_of_type octet)
    first true ea b eb c ec d ed = subst (TypeRead octet) (sym (simp ea)) (is_type frames.Method (sym (eqb-true octet 1 ea)))
    first false ea true eb c ec d ed = subst (TypeRead octet) (sym (simp (ea, eb))) (is_type frames.Header (sym (eqb-true octet 2 eb)))
    first false ea false eb true ec d ed = subst (TypeRead octet) (sym (simp (ea, eb, ec))) (is_type frames.Body (sym (eqb-true octet 3 ec)))
    first false ea false eb false ec true ed = subst (TypeRead octet) (sym (simp (ea, eb, ec, ed))) (is_type frames.Heartbeat (sym (eqb-true octet 8 ed)))
    first false ea false eb false ec false ed = subst (TypeRead octet) (sym (simp (ea, eb, ec, ed))) (no_type none)
      where
        none : IsTypeOctet octet → ⊥
        none (inl e) = eqb-false octet 1 ea e
        none (inr (inl e)) = eqb-false octet 2 eb e
        none (inr (inr (inl e))) = eqb-false octet 3 ec e
        none (inr (inr (inr e))) = eqb-false octet 8 ed e

-- a type, a size within the limit and an end octet, each in its place
record IsWellFormed (limit : ℕ) (xs : List ℕ) : Type 0 where
  typed : IsTypeOctet (get_or xs 0 0)
  seven : 7 ≤ length xs
  within : size_of xs + 8 ≤ limit
  there : size_of xs + 8 ≤ length xs
  ended : get_or xs (size_of xs + 7) 0 ≡ END

-- what a judgement says of the octets
Shown : (limit : ℕ) → List ℕ → Judgement → Type 0
Shown limit xs Begun = IsBegun limit xs
Shown limit xs (Whole f) = IsWellFormed limit xs
Shown limit xs (Wrong kind) = TellsFirst limit xs kind (fault_place kind xs)

-- few octets with a known type
few : (limit : ℕ) (xs : List ℕ) → IsTypeOctet (get_or xs 0 0) → length xs < 7 → IsBegun limit xs
few limit xs typed short = record { typed = λ _. typed; sized = λ seven. absurd (omega arith); short = λ seven. absurd (omega arith) }

-- the header within the limit, and not all of the frame
begun_frame : (limit : ℕ) (xs : List ℕ) (n : ℕ) → IsTypeOctet (get_or xs 0 0) → 7 ≤ length xs → size_of xs + 8 ≤ limit → n ≤ size_of xs + 7 → n ≤ length xs → IsBegun limit (take n xs)
begun_frame limit xs n typed seven within below inside =
    let long = length-take-le n xs inside in
    record {
      typed = λ some. let positive : 0 < n = omega arith in rw (get_or-take n xs 0 0 positive) typed;
      sized = λ more. rw (size_of-take n xs (omega arith) inside) within;
      short = λ more. rw (size_of-take n xs (omega arith) inside) (omega arith);
    }

few_taken : (limit n : ℕ) (xs : List ℕ) → IsTypeOctet (get_or xs 0 0) → n < 7 → IsBegun limit (take n xs)
few_taken limit n xs typed short = record {
  typed = λ some. let positive : 0 < n = (let l = length-take n xs in omega arith) in rw (get_or-take n xs 0 0 positive) typed;
  sized = λ seven. absurd (let l = length-take n xs in omega arith);
  short = λ seven. absurd (let l = length-take n xs in omega arith);
}

module _ (limit first : ℕ) (later : List ℕ) where
  by_end : (kind : FrameKind) → IsTypeOctet first → 7 ≤ length (first ∷ later) → size_of (first ∷ later) + 8 ≤ limit → size_of (first ∷ later) + 8 ≤ length (first ∷ later)
      → (b : Bool) → (get_or (first ∷ later) (size_of (first ∷ later) + 7) 0 == END) ≡ b → Shown limit (first ∷ later) (cond b (Whole (frame_in kind (first ∷ later))) (Wrong BadEnd))
  unfolding Shown
  by_end kind typed seven within there true e = record { typed = typed; seven = seven; within = within; there = there; ended = eqb-true _ END e }
  by_end kind typed seven within there false e =
      let long = length-take-le (size_of (first ∷ later) + 7 + 1) (first ∷ later) (omega arith) in
      let size : size_of (take (size_of (first ∷ later) + 7 + 1) (first ∷ later)) ≡ size_of (first ∷ later) = size_of-take (size_of (first ∷ later) + 7 + 1) (first ∷ later) (omega arith) (omega arith) in
      let inside : size_of (first ∷ later) + 7 < size_of (first ∷ later) + 7 + 1 = omega arith in
      let last : get_or (take (size_of (first ∷ later) + 7 + 1) (first ∷ later)) (size_of (first ∷ later) + 7) 0 ≡ get_or (first ∷ later) (size_of (first ∷ later) + 7) 0 =
      get_or-take (size_of (first ∷ later) + 7 + 1) (first ∷ later) (size_of (first ∷ later) + 7) 0 inside in
      told_first limit (first ∷ later) BadEnd (size_of (first ∷ later) + 7) (omega arith)
      (begun_frame limit (first ∷ later) (size_of (first ∷ later) + 7) typed seven within (omega arith) (omega arith))
      (rw size (omega arith), rw (size, last) (eqb-false _ END e))

  by_length : (kind : FrameKind) → IsTypeOctet first → 7 ≤ length (first ∷ later) → size_of (first ∷ later) + 8 ≤ limit
      → (b : Bool) → nat_lt (length (first ∷ later)) (size_of (first ∷ later) + 8) ≡ b → Shown limit (first ∷ later) (cond b Begun (judged_by_end kind (first ∷ later)))
  unfolding Shown
  by_length kind typed seven within true e = record { typed = λ _. typed; sized = λ _. within; short = λ _. ltb-true _ _ e }
  by_length kind typed seven within false e = by_end kind typed seven within (ltb-false _ _ e) (get_or (first ∷ later) (size_of (first ∷ later) + 7) 0 == END) refl

  by_limit : (kind : FrameKind) → IsTypeOctet first → 7 ≤ length (first ∷ later)
      → (b : Bool) → nat_lt limit (size_of (first ∷ later) + 8) ≡ b → Shown limit (first ∷ later) (cond b (Wrong TooLarge) (cond (nat_lt (length (first ∷ later)) (size_of (first ∷ later) + 8)) Begun (judged_by_end kind (first ∷ later))))
  unfolding Shown
  by_limit kind typed seven true e =
      let long = length-take-le 7 (first ∷ later) seven in
      let size : size_of (take 7 (first ∷ later)) ≡ size_of (first ∷ later) = size_of-take 7 (first ∷ later) (omega arith) seven in
      told_first limit (first ∷ later) TooLarge 6 (omega arith) (few_taken limit 6 (first ∷ later) typed (omega arith)) (omega arith, rw size (ltb-true _ _ e))
  by_limit kind typed seven false e = by_length kind typed seven (ltb-false _ _ e) (nat_lt (length (first ∷ later)) (size_of (first ∷ later) + 8)) refl

  by_seven : (kind : FrameKind) → IsTypeOctet first → (b : Bool) → nat_lt (length (first ∷ later)) 7 ≡ b → Shown limit (first ∷ later) (cond b Begun (judged_by_size limit kind (first ∷ later)))
  unfolding Shown
  by_seven kind typed true e = few limit (first ∷ later) typed (ltb-true _ _ e)
  by_seven kind typed false e = by_limit kind typed (ltb-false _ _ e) (nat_lt limit (size_of (first ∷ later) + 8)) refl

  by_type : (kind : Option FrameKind) → TypeRead first kind → Shown limit (first ∷ later) (judged_by_type limit kind (first ∷ later))
  unfolding Shown
  by_type (Some kind) (is_type k e) = by_seven k (subst IsTypeOctet e (type_octet-is k)) (nat_lt (length (first ∷ later)) 7) refl
  by_type None (no_type none) =
      told_first limit (first ∷ later) UnknownType 0 (omega arith) (record { typed = λ some. absurd (omega arith); sized = λ seven. absurd (omega arith); short = λ seven. absurd (omega arith) }) (omega arith, none)

-- What octets are judged to be, they show.
shown : (limit : ℕ) (xs : List ℕ) → Shown limit xs (judged limit xs)
unfolding Shown
shown limit [] = record { typed = λ some. absurd (omega arith); sized = λ seven. absurd (omega arith); short = λ seven. absurd (omega arith) }
shown limit (first ∷ later) = by_type limit first later (kind_of_type first) (type_read first)

-- The octet that is the first to show a fault stands in the place of that fault.
in_its_place : (limit : ℕ) (xs : List ℕ) (kind : FrameFaultKind) (place : ℕ) → TellsFirst limit xs kind place → place ≡ fault_place kind xs
in_its_place limit xs UnknownType place told = cases place refl
  where
    cases : (n : ℕ) → n ≡ place → place ≡ 0
    cases n e = elim (cases_lt 0 place) [
      | inl later ↦
          let inside = told.within in
          let none = told.told in
          let long = length-take-le 1 xs (omega arith) in
          let one : get_or (take 1 xs) 0 0 ≡ get_or xs 0 0 = get_or-take 1 xs 0 0 (omega arith) in
          let here : get_or (take (place + 1) xs) 0 0 ≡ get_or xs 0 0 = get_or-take (place + 1) xs 0 0 (omega arith) in
          absurd (told.first 1 UnknownType (omega arith) (omega arith, λ t. none.1 (rw here (rw one at t))))
      | inr none ↦ omega arith
    ]
in_its_place limit xs TooLarge place told =
    let inside = told.within in
    let large = told.told in
    let long = length-take-le (place + 1) xs (omega arith) in
    let size : size_of (take (place + 1) xs) ≡ size_of xs = size_of-take (place + 1) xs (omega (arith, large.0)) (omega arith) in
    elim (cases_lt 6 place) [
      | inl later ↦
          let seven = length-take-le 7 xs (omega arith) in
          let same : size_of (take 7 xs) ≡ size_of xs = size_of-take 7 xs (omega arith) (omega arith) in
          absurd (told.first 7 TooLarge (omega arith) (omega arith, rw same (rw size at large.1)))
      | inr none ↦ omega (arith, large.0)
    ]
in_its_place limit xs BadEnd place told =
    let inside = told.within in
    let bad = told.told in
    let long = length-take-le (place + 1) xs (omega arith) in
    let size : size_of (take (place + 1) xs) ≡ size_of xs = size_of-take (place + 1) xs (omega (arith, bad.0)) (omega arith) in
    let least : size_of xs + 8 ≤ place + 1 = rw (← size) (omega (arith, bad.0)) in
    elim (cases_lt (size_of xs + 7) place) [
      | inl later ↦
          let n : ℕ = size_of xs + 8 in
          let short = length-take-le n xs (omega arith) in
          let same : size_of (take n xs) ≡ size_of xs = size_of-take n xs (omega arith) (omega arith) in
          let one : get_or (take n xs) (size_of xs + 7) 0 ≡ get_or xs (size_of xs + 7) 0 = get_or-take n xs (size_of xs + 7) 0 (omega arith) in
          let here : get_or (take (place + 1) xs) (size_of xs + 7) 0 ≡ get_or xs (size_of xs + 7) 0 = get_or-take (place + 1) xs (size_of xs + 7) 0 (omega arith) in
          let wrong : get_or xs (size_of xs + 7) 0 ≡ END → ⊥ = rw (← here) (rw size at bad.1) in
          absurd (told.first n BadEnd (omega arith) (rw same (omega arith), rw (same, one) wrong))
      | inr none ↦ omega arith
    ]
in_its_place limit xs OutOfMemory place told = absurd told.told
in_its_place limit xs Failed place told = absurd told.told

-- A prefix of a frame shows no fault.
well_formed_shows_none : (limit : ℕ) (xs : List ℕ) (kind : FrameFaultKind) (place : ℕ) → IsWellFormed limit xs → TellsFirst limit xs kind place → ⊥
well_formed_shows_none limit xs UnknownType place formed told =
    let inside = told.within in
    let here : get_or (take (place + 1) xs) 0 0 ≡ get_or xs 0 0 = get_or-take (place + 1) xs 0 0 (omega arith) in
    told.told.1 (rw here formed.typed)
well_formed_shows_none limit xs TooLarge place formed told =
    let inside = told.within in
    let large = told.told in
    let long = length-take-le (place + 1) xs (omega arith) in
    let size : size_of (take (place + 1) xs) ≡ size_of xs = size_of-take (place + 1) xs (omega (arith, large.0)) (omega arith) in
    let more = rw size at large.1 in
    let less = formed.within in
    absurd (omega arith)
well_formed_shows_none limit xs BadEnd place formed told =
    let inside = told.within in
    let bad = told.told in
    let long = length-take-le (place + 1) xs (omega arith) in
    let size : size_of (take (place + 1) xs) ≡ size_of xs = size_of-take (place + 1) xs (omega (arith, bad.0)) (omega arith) in
    let least : size_of xs + 8 ≤ place + 1 = rw (← size) (omega (arith, bad.0)) in
    let here : get_or (take (place + 1) xs) (size_of xs + 7) 0 ≡ get_or xs (size_of xs + 7) 0 = get_or-take (place + 1) xs (size_of xs + 7) 0 (omega arith) in
    let wrong : get_or xs (size_of xs + 7) 0 ≡ END → ⊥ = rw (← here) (rw size at bad.1) in
    wrong formed.ended
well_formed_shows_none limit xs OutOfMemory place formed told = told.told
well_formed_shows_none limit xs Failed place formed told = told.told

-- octets that a frame begins show no fault
begun_shows_none : (limit : ℕ) (xs : List ℕ) (kind : FrameFaultKind) (place : ℕ) → IsBegun limit xs → TellsFirst limit xs kind place → ⊥
begun_shows_none limit xs kind place begun told =
    let inside = told.within in
    begun_tells_none limit (take (place + 1) xs) kind (begun_prefix limit (place + 1) xs (omega arith) begun) told.told

-- faults in the same place are the same
same_place : (xs : List ℕ) (limit : ℕ) (kind other : FrameFaultKind) (place another : ℕ) → TellsFirst limit xs kind place → TellsFirst limit xs other another → fault_place kind xs ≡ fault_place other xs → kind ≡ other
same_place xs limit UnknownType UnknownType place another t u e = refl
same_place xs limit UnknownType TooLarge place another t u e = absurd (omega arith)
same_place xs limit UnknownType BadEnd place another t u e = absurd (omega arith)
same_place xs limit TooLarge UnknownType place another t u e = absurd (omega arith)
same_place xs limit TooLarge TooLarge place another t u e = refl
same_place xs limit TooLarge BadEnd place another t u e = absurd (omega arith)
same_place xs limit BadEnd UnknownType place another t u e = absurd (omega arith)
same_place xs limit BadEnd TooLarge place another t u e = absurd (omega arith)
same_place xs limit BadEnd BadEnd place another t u e = refl
same_place xs limit OutOfMemory other place another t u e = absurd t.told
same_place xs limit Failed other place another t u e = absurd t.told
same_place xs limit UnknownType OutOfMemory place another t u e = absurd u.told
same_place xs limit UnknownType Failed place another t u e = absurd u.told
same_place xs limit TooLarge OutOfMemory place another t u e = absurd u.told
same_place xs limit TooLarge Failed place another t u e = absurd u.told
same_place xs limit BadEnd OutOfMemory place another t u e = absurd u.told
same_place xs limit BadEnd Failed place another t u e = absurd u.told

-- Octets show one fault first.
one_first : (limit : ℕ) (xs : List ℕ) (kind other : FrameFaultKind) (place another : ℕ) → TellsFirst limit xs kind place → TellsFirst limit xs other another → kind ≡ other
one_first limit xs kind other place another t u = elim (cases_lt place another) [
  | inl earlier ↦ absurd (u.first (place + 1) kind (omega arith) t.told)
  | inr from ↦ elim (cases_lt another place) [
    | inl earlier ↦ absurd (t.first (another + 1) other (omega arith) u.told)
    | inr same ↦
        let p = in_its_place limit xs kind place t in
        let q = in_its_place limit xs other another u in
        same_place xs limit kind other place another t u (omega arith)
  ]
]

-- what octets show first, they are judged to be
judged_so : (limit : ℕ) (xs : List ℕ) (kind : FrameFaultKind) (place : ℕ) → TellsFirst limit xs kind place → (j : Judgement) → Shown limit xs j → j ≡ Wrong kind
unfolding Shown
judged_so limit xs kind place told Begun s = absurd (begun_shows_none limit xs kind place s told)
judged_so limit xs kind place told (Whole f) s = absurd (well_formed_shows_none limit xs kind place s told)
judged_so limit xs kind place told (Wrong other) s = ap Wrong (one_first limit xs other kind (fault_place other xs) place s told)

pub first_is_judged : (limit : ℕ) (xs : List ℕ) (kind : FrameFaultKind) (place : ℕ) → TellsFirst limit xs kind place → (judged limit xs ≡ Wrong kind) × (place ≡ fault_place kind xs)
first_is_judged limit xs kind place told = (judged_so limit xs kind place told (judged limit xs) (shown limit xs), in_its_place limit xs kind place told)

pub judged_is_first : (limit : ℕ) (xs : List ℕ) (kind : FrameFaultKind) → judged limit xs ≡ Wrong kind → TellsFirst limit xs kind (fault_place kind xs)
unfolding Shown
judged_is_first limit xs kind e = subst (Shown limit xs) e (shown limit xs)

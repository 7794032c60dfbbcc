-- What octets are judged to be is what they are, and nothing else.
use Rattle.std.proofs.Common.{◌≡◌, ◌⊎◌, inl, inr, Bool, true, false, cond, ℕ, ◌+◌, ◌-◌, ◌^◌}
use Rattle.std.proofs.Common.{◌<◌, ◌≤◌, ◌==◌, nat_lt, List, [], ◌∷◌, ◌++◌, All, length, take}
use Rattle.std.proofs.Common.{drop, get_or, slice_index, Option, Some, None, refl, sym, ap, ◌∙◌, subst, arith}
use Rattle.std.proofs.Common.{append-nil, length-append, length-drop}
use Rattle.std.proofs.lemmas.List.Elements.{All-nil, All-get_or, All-take}
use Rattle.std.proofs.lemmas.Bool.{cases_lt, eqb-true, eqb-false, ltb-true, ltb-false}
use Rattle.std.proofs.lemmas.List.{take_all, take_at, take-append-drop, length-take-le, get_or-take, get_or_past}
use Rattle.amqp_frame.specs.declared.frames.FrameKind.{FrameKind}
use Rattle.amqp_frame.specs.declared.frames.FrameKind.TheVariants as frames
use Rattle.amqp_frame.specs.declared.faults.FrameFaultKind.{FrameFaultKind}
use Rattle.amqp_frame.specs.declared.faults.FrameFaultKind.TheVariants.{UnknownType, TooLarge, BadEnd, OutOfMemory}
use Rattle.amqp_frame.specs.declared.faults.FrameFaultKind.TheVariants.{Failed}
use Rattle.amqp_frame.specs.Frame.{octets, Fits, END, type_octet, frame_length}
use Rattle.amqp_frame.specs.Splitting.{IsTypeOctet, size_of, Tells, TellsFirst, IsRest}
use Rattle.amqp_frame.specs.Judging.{IsBegun}
use Rattle.amqp_frame.proofs.FrameLemmas.{one_frame, type_octet-is}
use Rattle.amqp_frame.proofs.SplittingLemmas.{size_of-append, size_of-take, begun_prefix_tells_none, begun_is_rest}
use Rattle.amqp_frame.proofs.SplittingLemmas.{told_first}
use Rattle.amqp_frame.proofs.JudgingLemmas.{AreOctets, judged_whole}
use Rattle.amqp_model.specs.Wire.Frame.{Frame}
use Rattle.amqp_model.specs.Stream.Endpoint.{Judgement, Begun, Whole, Wrong, kind_of_type, frame_in, judged_by_end}
use Rattle.amqp_model.specs.Stream.Endpoint.{judged_by_size, judged_by_type, judged}
use Rattle.amqp_model.specs.Laws.OctetLaws.{IsOctet, IsWhole, TellsLast, IsJudgedWell}

-- the type octet of a kind, or of none
pub data TypeRead (octet : ℕ) : Option FrameKind → Type 0 where
  is_type : (kind : FrameKind) → type_octet kind ≡ octet → TypeRead octet (Some kind)
  no_type : (IsTypeOctet octet → ⊥) → TypeRead octet None

type-read : (octet : ℕ) → TypeRead octet (kind_of_type octet)
type-read octet = first (octet == 1) refl (octet == 2) refl (octet == 3) refl (octet == 8) refl
  where
    first : (a : Bool) → (octet == 1) ≡ a → (b : Bool) → (octet == 2) ≡ b → (c : Bool)
        → (octet == 3) ≡ c → (d : Bool) → (octet == 8) ≡ d → TypeRead octet (kind_of_type octet)
    first true ea b eb c ec d ed =
        subst (TypeRead octet) (sym (simp ea)) (is_type frames.Method (sym (eqb-true octet 1 ea)))
    first false ea true eb c ec d ed =
        subst (TypeRead octet) (sym (simp (ea, eb))) (is_type frames.Header (sym (eqb-true octet 2 eb)))
    first false ea false eb true ec d ed =
        subst (TypeRead octet) (sym (simp (ea, eb, ec))) (is_type frames.Body (sym (eqb-true octet 3 ec)))
    first false ea false eb false ec true ed =
        subst (TypeRead octet) (sym (simp (ea, eb, ec, ed))) (is_type frames.Heartbeat (sym (eqb-true octet 8 ed)))
    first false ea false eb false ec false ed = subst (TypeRead octet) (sym (simp (ea, eb, ec, ed))) (no_type none)
      where
        none : IsTypeOctet octet → ⊥
        none (inl e) = eqb-false octet 1 ea e
        none (inr (inl e)) = eqb-false octet 2 eb e
        none (inr (inr (inl e))) = eqb-false octet 3 ec e
        none (inr (inr (inr e))) = eqb-false octet 8 ed e

are-octets : (xs : List ℕ) → All IsOctet xs → AreOctets xs
are-octets xs all i = cases (cases_lt i (length xs))
  where
    cases : (i < length xs) ⊎ (length xs ≤ i) → get_or xs i 0 < 256
    cases (inl here) = let small : get_or xs i 0 < 2 ^ 8 = All-get_or IsOctet xs i 0 here all in omega arith
    cases (inr past) = rw (get_or_past xs i 0 past) (omega arith)

pub prefix-octets : (prefix tail : List ℕ) → All IsOctet (prefix ++ tail) → All IsOctet prefix
prefix-octets prefix tail all =
    subst (All IsOctet) (take_at prefix tail (length prefix) refl)
    (All-take IsOctet (length prefix) (prefix ++ tail) all)

-- Octets with a type, a size and an end in their places begin with the frame that they encode.
encoded : (limit first : ℕ) (later : List ℕ) (kind : FrameKind) → AreOctets (first ∷ later)
    → type_octet kind ≡ first → 7 ≤ length (first ∷ later) → size_of (first ∷ later) + 8 ≤ limit
    → size_of (first ∷ later) + 8 ≤ length (first ∷ later)
    → slice_index (first ∷ later) (size_of (first ∷ later) + 7) ≡ END
    → (frame_length (frame_in kind (first ∷ later)) ≤ length (first ∷ later))
    × (frame_length (frame_in kind (first ∷ later)) ≤ limit) × Fits (frame_in kind (first ∷ later))
    × (take (frame_length (frame_in kind (first ∷ later))) (first ∷ later)
    ≡ octets (frame_in kind (first ∷ later)))
encoded limit first later kind are type seven within long ending =
    let size : size_of (first ∷ later) + 8 - 1 - 7 ≡ size_of (first ∷ later) = omega arith in
    let place : size_of (first ∷ later) + 8 - 1 ≡ size_of (first ∷ later) + 7 = omega arith in
    judged_whole limit (first ∷ later) (frame_in kind (first ∷ later)) (size_of (first ∷ later) + 8) are seven
    refl within long type (omega arith) (ap (λ n. take n (drop 7 (first ∷ later))) (sym size))
    (ap (λ n. get_or (first ∷ later) n 0) place ∙ ending)

-- A rest is a frame begun.
pub begun-rest : (limit : ℕ) (xs : List ℕ) → All IsOctet xs → IsRest limit xs → IsBegun limit xs
begun-rest limit [] all rest =
    record {
      typed = λ some. absurd (omega arith);
      sized = λ seven. absurd (omega arith);
      short = λ seven. absurd (omega arith);
    }
begun-rest limit (first ∷ later) all rest = by-type (kind_of_type first) (type-read first)
  where
    sized : 7 ≤ length (first ∷ later) → size_of (first ∷ later) + 8 ≤ limit
    sized seven = cases (cases_lt limit (size_of (first ∷ later) + 8))
      where
        cases : (limit < size_of (first ∷ later) + 8) ⊎ (size_of (first ∷ later) + 8 ≤ limit)
            → size_of (first ∷ later) + 8 ≤ limit
        cases (inl large) = absurd (rest.no_fault TooLarge (seven, large))
        cases (inr fits) = fits

    short : (kind : FrameKind) → type_octet kind ≡ first → 7 ≤ length (first ∷ later)
        → length (first ∷ later) < size_of (first ∷ later) + 8
    short kind type seven = cases (cases_lt (length (first ∷ later)) (size_of (first ∷ later) + 8))
      where
        ends : (b : Bool) → (slice_index (first ∷ later) (size_of (first ∷ later) + 7) == END) ≡ b
            → size_of (first ∷ later) + 8 ≤ length (first ∷ later) → ⊥
        ends true e long =
            let whole = encoded limit first later kind (are-octets (first ∷ later) all) type seven
            (sized seven) long (eqb-true _ END e) in
            rest.no_frame (
              frame_in kind (first ∷ later),
              drop (frame_length (frame_in kind (first ∷ later)))
                  (first ∷ later),
              whole.2,
              sym (take-append-drop (frame_length (frame_in kind (first ∷ later)))
                  (first ∷ later))
                  ∙ ap (λ xs. xs ++ drop (frame_length (frame_in kind (first ∷ later))) (first ∷ later)) whole.3,
            )
        ends false e long = rest.no_fault BadEnd (long, eqb-false _ END e)

        cases : (length (first ∷ later) < size_of (first ∷ later) + 8)
            ⊎ (size_of (first ∷ later) + 8 ≤ length (first ∷ later))
            → length (first ∷ later) < size_of (first ∷ later) + 8
        cases (inl below) = below
        cases (inr long) =
            absurd (ends (slice_index (first ∷ later) (size_of (first ∷ later) + 7) == END) refl long)

    by-type : (kind : Option FrameKind) → TypeRead first kind → IsBegun limit (first ∷ later)
    by-type (Some kind) (is_type k type) =
        record { typed = λ some. subst IsTypeOctet type (type_octet-is k); sized = sized; short = short k type }
    by-type None (no_type none) = absurd (rest.no_fault UnknownType (omega arith, none))

-- One octet after a frame begun.
module _ (limit : ℕ) (prefix : List ℕ) (octet first : ℕ) (later : List ℕ) (whole_is : first ∷ later
    ≡ prefix ++ octet ∷ []) (all : All IsOctet (first ∷ later)) (begun : IsBegun limit prefix) where
  length-is : length (first ∷ later) ≡ length prefix + 1
  length-is = ap length whole_is ∙ length-append prefix (octet ∷ [])

  tells-last : (kind : FrameFaultKind) → Tells limit (first ∷ later) kind → TellsLast limit (first ∷ later) kind
  tells-last kind told =
      let l = length-is in
      record {
        place = length prefix;
        last = length-is;
        told = told_first limit (first ∷ later) kind (length prefix) (omega arith)
            (subst (IsBegun limit)
            (sym (ap (take (length prefix)) whole_is ∙ take_at prefix (octet ∷ []) (length prefix) refl)) begun)
            (subst (λ xs. Tells limit xs kind)
            (sym (take_all (length prefix + 1) (first ∷ later) (omega arith))) told);
      }

  by-end : (kind : FrameKind) → type_octet kind ≡ first → 7 ≤ length (first ∷ later)
      → size_of (first ∷ later) + 8 ≤ limit → length (first ∷ later) ≡ size_of (first ∷ later) + 8
      → (b : Bool) → (slice_index (first ∷ later) (size_of (first ∷ later) + 7) == END) ≡ b
      → IsJudgedWell limit (first ∷ later) (cond b (Whole (frame_in kind (first ∷ later))) (Wrong BadEnd))
  by-end kind type seven within exact true e =
      let whole = encoded limit first later kind (are-octets (first ∷ later) all) type seven within
      (omega arith) (eqb-true _ END e) in
      record {
        is_frame = sym (take_all (frame_length (frame_in kind (first ∷ later))) (first ∷ later)
            (is-all whole.0 whole.2 whole.3)) ∙ whole.3;
        fits = whole.2;
        within = whole.1;
      }
    where
      is-all : frame_length (frame_in kind (first ∷ later)) ≤ length (first ∷ later)
          → Fits (frame_in kind (first ∷ later))
          → take (frame_length (frame_in kind (first ∷ later))) (first ∷ later)
          ≡ octets (frame_in kind (first ∷ later))
          → length (first ∷ later) ≤ frame_length (frame_in kind (first ∷ later))
      is-all long fits e =
          let payload : length (frame_in kind (first ∷ later)).payload ≡ size_of (first ∷ later) =
          length-take-le (size_of (first ∷ later)) (drop 7 (first ∷ later)) (simp length-drop (omega arith)) in
          omega arith
  by-end kind type seven within exact false e = tells-last BadEnd (omega arith, eqb-false _ END e)

  by-length : (kind : FrameKind) → type_octet kind ≡ first → 7 ≤ length (first ∷ later)
      → size_of (first ∷ later) + 8 ≤ limit → (b : Bool)
      → nat_lt (length (first ∷ later)) (size_of (first ∷ later) + 8) ≡ b
      → IsJudgedWell limit (first ∷ later) (cond b Begun (judged_by_end kind (first ∷ later)))
  by-length kind type seven within true e =
      begun_is_rest limit (first ∷ later) (record {
        typed = λ some. subst IsTypeOctet type (type_octet-is kind);
        sized = λ seven. within;
        short = λ seven. ltb-true _ _ e;
      })
  by-length kind type seven within false e =
      by-end kind type seven within (exact (cases_lt (length prefix) 7))
      (slice_index (first ∷ later) (size_of (first ∷ later) + 7) == END) refl
    where
      exact : (length prefix < 7) ⊎ (7 ≤ length prefix)
          → length (first ∷ later) ≡ size_of (first ∷ later) + 8
      exact (inl few) =
          let l = length-is in
          let long = ltb-false (length (first ∷ later)) (size_of (first ∷ later) + 8) e in
          omega arith
      exact (inr many) =
          let l = length-is in
          let long = ltb-false (length (first ∷ later)) (size_of (first ∷ later) + 8) e in
          let short = begun.short many in
          let same : size_of (first ∷ later) ≡ size_of prefix = ap size_of whole_is
          ∙ size_of-append prefix (octet ∷ []) many in
          omega arith

  by-limit : (kind : FrameKind) → type_octet kind ≡ first → 7 ≤ length (first ∷ later) → (b : Bool)
      → nat_lt limit (size_of (first ∷ later) + 8) ≡ b
      → IsJudgedWell limit (first ∷ later)
      (cond b (Wrong TooLarge) (cond (nat_lt (length (first ∷ later)) (size_of (first ∷ later) + 8)) Begun
      (judged_by_end kind (first ∷ later))))
  by-limit kind type seven true e = tells-last TooLarge (seven, ltb-true _ _ e)
  by-limit kind type seven false e =
      by-length kind type seven (ltb-false _ _ e)
      (nat_lt (length (first ∷ later)) (size_of (first ∷ later) + 8)) refl

  by-seven : (kind : FrameKind) → type_octet kind ≡ first → (b : Bool) → nat_lt (length (first ∷ later)) 7
      ≡ b → IsJudgedWell limit (first ∷ later) (cond b Begun (judged_by_size limit kind (first ∷ later)))
  by-seven kind type true e =
      let few = ltb-true (length (first ∷ later)) 7 e in
      begun_is_rest limit (first ∷ later) (record {
        typed = λ some. subst IsTypeOctet type (type_octet-is kind);
        sized = λ seven. absurd (omega arith);
        short = λ seven. absurd (omega arith);
      })
  by-seven kind type false e = by-limit kind type (ltb-false _ _ e) (nat_lt limit (size_of (first ∷ later) + 8)) refl

  by-type : (kind : Option FrameKind) → TypeRead first kind
      → IsJudgedWell limit (first ∷ later) (judged_by_type limit kind (first ∷ later))
  by-type (Some kind) (is_type k type) = by-seven k type (nat_lt (length (first ∷ later)) 7) refl
  by-type None (no_type none) = tells-last UnknownType (omega arith, none)

pub judged-well : (limit : ℕ) (prefix : List ℕ) (octet : ℕ) → All IsOctet (prefix ++ octet ∷ [])
    → IsRest limit prefix → IsJudgedWell limit (prefix ++ octet ∷ []) (judged limit (prefix ++ octet ∷ []))
judged-well limit [] octet all rest =
    by-type limit [] octet octet [] refl all (begun-rest limit [] (All-nil IsOctet) rest)
    (kind_of_type octet) (type-read octet)
judged-well limit (first ∷ prefix) octet all rest =
    by-type limit (first ∷ prefix) octet first (prefix ++ octet ∷ []) refl all
    (begun-rest limit (first ∷ prefix) (prefix-octets (first ∷ prefix) (octet ∷ []) all) rest)
    (kind_of_type first) (type-read first)

-- Octets are exactly one of the things that they can be judged.

pub told-whole : (limit : ℕ) (xs : List ℕ) (kind : FrameFaultKind)
    → TellsLast limit xs kind → Tells limit xs kind
told-whole limit xs kind last =
    let l = last.last in
    subst (λ xs. Tells limit xs kind) (take_all (last.place + 1) xs (omega arith)) last.told.told

-- where a fault of this kind is told first
abbrev IsPlaceOf : FrameFaultKind → ℕ → Type 0
IsPlaceOf UnknownType place = place ≡ 0
IsPlaceOf TooLarge place = place ≡ 6
IsPlaceOf BadEnd place = 7 ≤ place
IsPlaceOf OutOfMemory place = ⊥
IsPlaceOf Failed place = ⊥

place-is : (limit : ℕ) (xs : List ℕ) (kind : FrameFaultKind) (place : ℕ) → length xs ≡ place + 1
    → TellsFirst limit xs kind place → Tells limit xs kind → IsPlaceOf kind place
place-is limit xs UnknownType place last first told = cases (cases_lt 0 place)
  where
    cases : (0 < place) ⊎ (place ≤ 0) → place ≡ 0
    cases (inl after) =
        let one : length (take 1 xs) ≡ 1 = length-take-le 1 xs (omega arith) in
        absurd (first.first 1 UnknownType after (
          omega arith,
          λ t.
              told.1 (subst IsTypeOctet (get_or-take 1 xs 0 0 (omega arith)) t),
        ))
    cases (inr none) = omega arith
place-is limit xs TooLarge place last first told = cases (cases_lt 6 place)
  where
    cases : (6 < place) ⊎ (place ≤ 6) → place ≡ 6
    cases (inl after) =
        let seven : length (take 7 xs) ≡ 7 = length-take-le 7 xs told.0 in
        let large : limit < size_of xs + 8 = told.1 in
        let size : size_of (take 7 xs) ≡ size_of xs = size_of-take 7 xs (omega arith) told.0 in
        absurd (first.first 7 TooLarge after (omega arith, omega arith))
    cases (inr few) = let many : 7 ≤ length xs = told.0 in omega arith
place-is limit xs BadEnd place last first told = let long : size_of xs + 8 ≤ length xs = told.0 in omega arith
place-is limit xs OutOfMemory place last first told = told
place-is limit xs Failed place last first told = told

one-kind : (kind other : FrameFaultKind) (place : ℕ) → IsPlaceOf kind place
    → IsPlaceOf other place → kind ≡ other
one-kind UnknownType UnknownType place a b = refl
one-kind UnknownType TooLarge place a b = absurd (omega arith)
one-kind UnknownType BadEnd place a b = absurd (omega arith)
one-kind TooLarge UnknownType place a b = absurd (omega arith)
one-kind TooLarge TooLarge place a b = refl
one-kind TooLarge BadEnd place a b = absurd (omega arith)
one-kind BadEnd UnknownType place a b = absurd (omega arith)
one-kind BadEnd TooLarge place a b = absurd (omega arith)
one-kind BadEnd BadEnd place a b = refl
one-kind OutOfMemory other place a b = absurd a
one-kind Failed other place a b = absurd a
one-kind UnknownType OutOfMemory place a b = absurd b
one-kind UnknownType Failed place a b = absurd b
one-kind TooLarge OutOfMemory place a b = absurd b
one-kind TooLarge Failed place a b = absurd b
one-kind BadEnd OutOfMemory place a b = absurd b
one-kind BadEnd Failed place a b = absurd b

rest-and-whole : (limit : ℕ) (xs : List ℕ) (frame : Frame) → IsRest limit xs → IsWhole limit xs frame → ⊥
rest-and-whole limit xs frame rest whole =
    rest.no_frame (frame, [], whole.fits, whole.is_frame ∙ sym (append-nil (octets frame)))

rest-and-wrong : (limit : ℕ) (xs : List ℕ) (kind : FrameFaultKind) → IsRest limit xs
    → TellsLast limit xs kind → ⊥
rest-and-wrong limit xs kind rest last = rest.no_fault kind (told-whole limit xs kind last)

whole-and-wrong : (limit : ℕ) (xs : List ℕ) (frame : Frame) (kind : FrameFaultKind) → IsWhole limit xs frame
    → TellsLast limit xs kind → ⊥
whole-and-wrong limit xs frame kind whole last =
    begun_prefix_tells_none limit frame xs [] [] kind whole.fits whole.within
    (ap (λ octets. octets ++ []) (sym whole.is_frame)) (told-whole limit xs kind last)

pub one-said : (limit : ℕ) (xs : List ℕ) (one other : Judgement) → IsJudgedWell limit xs one
    → IsJudgedWell limit xs other → one ≡ other
one-said limit xs Begun Begun a b = refl
one-said limit xs Begun (Whole frame) a b = absurd (rest-and-whole limit xs frame a b)
one-said limit xs Begun (Wrong kind) a b = absurd (rest-and-wrong limit xs kind a b)
one-said limit xs (Whole frame) Begun a b = absurd (rest-and-whole limit xs frame b a)
one-said limit xs (Whole frame) (Whole other) a b =
    ap Whole (one_frame frame other [] [] a.fits b.fits
    (ap (λ octets. octets ++ []) (sym a.is_frame ∙ b.is_frame))).0
one-said limit xs (Whole frame) (Wrong kind) a b = absurd (whole-and-wrong limit xs frame kind a b)
one-said limit xs (Wrong kind) Begun a b = absurd (rest-and-wrong limit xs kind b a)
one-said limit xs (Wrong kind) (Whole frame) a b = absurd (whole-and-wrong limit xs frame kind b a)
one-said limit xs (Wrong kind) (Wrong other) a b =
    let la = a.last in
    let lb = b.last in
    let same : b.place ≡ a.place = omega arith in
    ap Wrong (one-kind kind other a.place (place-is limit xs kind a.place a.last a.told (told-whole limit xs kind a))
    (subst (IsPlaceOf other) same (place-is limit xs other b.place b.last b.told (told-whole limit xs other b))))

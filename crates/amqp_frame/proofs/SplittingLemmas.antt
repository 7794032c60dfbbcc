-- Prefixes of octets: what they tell, and that octets split in one way.
use Rattle.std.proofs.Common.{◌≡◌, ℕ, ◌+◌, ◌<◌, ◌≤◌, List, [], ◌∷◌, ◌++◌, length, take, drop, get_or, refl, sym, ap, ◌∙◌, arith, append_assoc, length-append, length-drop}
use Rattle.std.proofs.lemmas.List.{take-append-drop, length-take, length-take-le, drop-append-le, get_or-take, get_or_append_left, take-take}
use Rattle.byteorder.specs.Endian.{big_number}
use Rattle.byteorder.specs.Numbers.{big_from-append}
use Rattle.amqp_frame.specs.Frame.{Frame, octets, Fits, END, frame_length}
use Rattle.amqp_frame.specs.Splitting.{stream, SplitsInto, size_of, Tells, TellsFirst, IsRest}
use Rattle.amqp_frame.specs.Judging.{IsBegun}
use Rattle.amqp_frame.specs.declared.faults.FrameFaultKind.{FrameFaultKind}
use Rattle.amqp_frame.specs.declared.faults.FrameFaultKind.TheVariants.{UnknownType, TooLarge, BadEnd, OutOfMemory, Failed}
use Rattle.amqp_frame.proofs.FrameLemmas.{one_frame, length-octets, type_octet-is, type-at_start, size-at_start, end-at_start}

-- Octets split into frames and a rest in one way only.
pub one_split : (xs : List ℕ) (frames others : List Frame) (rest other : List ℕ) → SplitsInto xs frames rest → SplitsInto xs others other → (frames ≡ others) × (rest ≡ other)
one_split xs [] [] rest other a b = (refl, sym a.joined ∙ b.joined)
one_split xs [] (g ∷ others) rest other a b =
    absurd (a.no_frame (g, stream others ++ other, b.fit.0, sym a.joined ∙ b.joined ∙ append_assoc (octets g) (stream others) other))
one_split xs (f ∷ frames) [] rest other a b =
    absurd (b.no_frame (f, stream frames ++ rest, a.fit.0, sym b.joined ∙ a.joined ∙ append_assoc (octets f) (stream frames) rest))
one_split xs (f ∷ frames) (g ∷ others) rest other a b =
    let joined : octets f ++ (stream frames ++ rest) ≡ octets g ++ (stream others ++ other) =
    sym (append_assoc (octets f) (stream frames) rest) ∙ sym a.joined ∙ b.joined ∙ append_assoc (octets g) (stream others) other in
    let prefix = one_frame f g (stream frames ++ rest) (stream others ++ other) a.fit.0 b.fit.0 joined in
    let after = one_split (stream frames ++ rest) frames others rest other
    (record { joined = refl; fit = a.fit.1; no_frame = a.no_frame })
    (record { joined = prefix.1; fit = b.fit.1; no_frame = b.no_frame }) in
    (cc (prefix.0, after.0), after.1)

-- the size is read from the first seven octets
pub size_of-append : (xs ys : List ℕ) → 7 ≤ length xs → size_of (xs ++ ys) ≡ size_of xs
size_of-append xs ys long =
    let room : 4 ≤ length (drop 3 xs) = simp length-drop (omega arith) in
    ap (big_number 4) (drop-append-le 3 xs ys (omega arith)) ∙ big_from-append 4 (drop 3 xs) ys room

pub size_of-take : (n : ℕ) (xs : List ℕ) → 7 ≤ n → n ≤ length xs → size_of (take n xs) ≡ size_of xs
size_of-take n xs long within =
    let room : 7 ≤ length (take n xs) = simp length-take (omega arith) in
    sym (size_of-append (take n xs) (drop n xs) room) ∙ ap size_of (take-append-drop n xs)

-- A prefix of octets that begin with a frame within the limit shows no fault.
pub begun_prefix_tells_none : (limit : ℕ) (f : Frame) (prefix tail others : List ℕ) (kind : FrameFaultKind)
    → Fits f → frame_length f ≤ limit → octets f ++ others ≡ prefix ++ tail → Tells limit prefix kind → ⊥
begun_prefix_tells_none limit f prefix tail others UnknownType fits within e told =
    let first : get_or prefix 0 0 ≡ get_or (octets f ++ others) 0 0 = rw e (sym (get_or_append_left prefix tail 0 0 told.0)) in
    told.1 (rw (first, type-at_start f others) (type_octet-is f.kind))
begun_prefix_tells_none limit f prefix tail others TooLarge fits within e told =
    let size : size_of prefix ≡ length f.payload = sym (size_of-append prefix tail told.0) ∙ ap size_of (sym e) ∙ size-at_start f others fits in
    absurd (omega (arith, told.1))
begun_prefix_tells_none limit f prefix tail others BadEnd fits within e told =
    let size : size_of prefix ≡ length f.payload = sym (size_of-append prefix tail (omega (arith, told.0))) ∙ ap size_of (sym e) ∙ size-at_start f others fits in
    let here : length f.payload + 7 < length prefix = omega (arith, told.0) in
    let end : get_or prefix (length f.payload + 7) 0 ≡ END =
    sym (get_or_append_left prefix tail 0 (length f.payload + 7) here) ∙ ap (λ (zs : List ℕ). get_or zs (length f.payload + 7) 0) (sym e) ∙ end-at_start f others in
    told.1 (rw size end)
begun_prefix_tells_none limit f prefix tail others OutOfMemory fits within e told = told
begun_prefix_tells_none limit f prefix tail others Failed fits within e told = told

-- octets that a frame begins show no fault
pub begun_tells_none : (limit : ℕ) (xs : List ℕ) (kind : FrameFaultKind) → IsBegun limit xs → Tells limit xs kind → ⊥
begun_tells_none limit xs UnknownType begun told = told.1 (begun.typed told.0)
begun_tells_none limit xs TooLarge begun told = let sized = begun.sized told.0 in absurd (omega (arith, told.1))
begun_tells_none limit xs BadEnd begun told = let short = begun.short (omega (arith, told.0)) in absurd (omega (arith, told.0))
begun_tells_none limit xs OutOfMemory begun told = told
begun_tells_none limit xs Failed begun told = told

-- their prefixes are begun too
pub begun_prefix : (limit n : ℕ) (xs : List ℕ) → n ≤ length xs → IsBegun limit xs → IsBegun limit (take n xs)
begun_prefix limit n xs within begun =
    let n_is = length-take-le n xs within in
    record {
      typed = λ some. let positive : 0 < n = omega arith in rw (get_or-take n xs 0 0 positive) (begun.typed (omega arith));
      sized = λ seven. rw (size_of-take n xs (omega arith) within) (begun.sized (omega arith));
      short = λ seven. rw (size_of-take n xs (omega arith) within) (let whole = begun.short (omega arith) in omega arith);
    }

-- no prefix of them is a frame
begun_has_no_frame : (limit : ℕ) (xs : List ℕ) (f : Frame) (tail : List ℕ) → IsBegun limit xs → Fits f → xs ≡ octets f ++ tail → ⊥
begun_has_no_frame limit xs f tail begun fits e =
    let long : length xs ≡ frame_length f + length tail = ap length e ∙ simp (length-append, length-octets) in
    let size : size_of xs ≡ length f.payload = ap size_of e ∙ size-at_start f tail fits in
    let short = begun.short (omega arith) in
    absurd (omega arith)

-- so they are a rest
pub begun_is_rest : (limit : ℕ) (xs : List ℕ) → IsBegun limit xs → IsRest limit xs
begun_is_rest limit xs begun = record {
  no_frame = λ h. begun_has_no_frame limit xs h.0 h.1 begun h.2 h.3;
  no_fault = λ kind. begun_tells_none limit xs kind begun;
}

-- The octet after octets that a frame begins is the first to tell what it tells.
pub told_first : (limit : ℕ) (xs : List ℕ) (kind : FrameFaultKind) (place : ℕ) → place < length xs → IsBegun limit (take place xs) → Tells limit (take (place + 1) xs) kind → TellsFirst limit xs kind place
told_first limit xs kind place within begun told = record {
  within = within;
  told = told;
  first = λ n other before tells.
      begun_tells_none limit (take n xs) other
      (rw (take-take n place xs before) at (begun_prefix limit n (take place xs) (simp length-take (omega arith)) begun)) tells;
}

-- What a splitter answers, from what it found in its buffer.
use Rattle.std.proofs.Common.{◌≡◌, ℕ, zero, suc, inl, inr, ◌+◌, ◌-◌, ◌<◌, ◌≤◌, List, [], ◌∷◌, ◌++◌, length, take, drop, None, Some, Option, refl, sym, ap, ◌∙◌, subst, arith, append_assoc, length-append}
use Rattle.std.proofs.lemmas.List.{take_all, take-append-le, take-append-drop, append-nil, nil_from_length}
use Rattle.std.proofs.lemmas.Bool.{cases_lt}
use Rattle.amqp_frame.specs.Frame.{Frame, octets, Fits, frame_length}
use Rattle.amqp_frame.specs.Splitting.{size_of, TellsFirst}
use Rattle.amqp_frame.specs.Judged.{Wrong, judged, fault_place, frame_read}
use Rattle.amqp_frame.specs.Stream.{Stream}
use Rattle.amqp_frame.specs.Splitter.{place_after, taken_to, LacksMemoryIfNeeded, MayLackMemory, Completes, Waits, ToldAt, FirstFault, Faults, HasFrameAtStart, OfGiven, given_after}
use Rattle.amqp_frame.specs.Judging.{IsBegun, IsFilled, IsWhole}
use Rattle.amqp_frame.specs.declared.splitting.Place.TheVariants.{Buffer}
use Rattle.amqp_frame.specs.declared.faults.FrameFaultKind.{FrameFaultKind}
use Rattle.amqp_frame.specs.declared.faults.FrameFaultKind.TheVariants.{UnknownType, TooLarge, BadEnd, OutOfMemory, Failed}
use Rattle.amqp_frame.proofs.FrameLemmas.{size-at_start}
use Rattle.amqp_frame.proofs.ShownLemmas.{first_is_judged, judged_is_first}
use Rattle.amqp_frame.proofs.SplittingLemmas.{begun_prefix_tells_none, begun_tells_none, begun_prefix, begun_is_rest}

-- where a frame within the limit stands at the start, nothing shows a fault
pub told_without_frame : (limit : ℕ) (xs : List ℕ) (kind : FrameFaultKind) (place : ℕ) → TellsFirst limit xs kind place → HasFrameAtStart limit xs → ⊥
told_without_frame limit xs kind place told here =
    begun_prefix_tells_none limit here.f (take (place + 1) xs) (drop (place + 1) xs) here.tail kind here.fits here.within
    (sym here.at_start ∙ sym (take-append-drop (place + 1) xs)) told.told

-- and the octets are more than a frame begun
pub begun_without_frame : (limit : ℕ) (xs : List ℕ) → IsBegun limit xs → HasFrameAtStart limit xs → ⊥
begun_without_frame limit xs begun here = (begun_is_rest limit xs begun).no_frame (here.f, here.tail, here.fits, here.at_start)

-- a first teller stays the first, whatever follows
pub told_before : (limit : ℕ) (xs ys : List ℕ) (kind : FrameFaultKind) (place : ℕ) → TellsFirst limit xs kind place → TellsFirst limit (xs ++ ys) kind place
told_before limit xs ys kind place told =
    let inside = told.within in
    record {
      within = simp length-append (omega arith);
      told = rw (take-append-le (place + 1) xs ys (omega arith)) told.told;
      first = λ n other before tells. told.first n other before (rw (take-append-le n xs ys (omega arith)) at tells);
    }

-- the buffer and what is left of the piece are the pending octets and the piece
pub whole_piece : (old piece buffer : List ℕ) (taken : ℕ) → buffer ≡ old ++ take taken piece → buffer ++ drop taken piece ≡ old ++ piece
whole_piece old piece buffer taken joined =
    rw joined (append_assoc old (take taken piece) (drop taken piece) ∙ ap (λ (zs : List ℕ). old ++ zs) (take-append-drop taken piece))

-- what the buffer tells is told after the octets that were pending
pub told_after : (limit : ℕ) (old piece buffer : List ℕ) (taken : ℕ) (kind : FrameFaultKind) (place : ℕ)
    → IsBegun limit old → IsFilled limit old piece buffer taken → TellsFirst limit buffer kind place → length old ≤ place
told_after limit old piece buffer taken kind place begun filled told = elim (cases_lt place (length old)) [
  | inl before ↦
      let prefix : take (place + 1) buffer ≡ take (place + 1) old = ap (take (place + 1)) filled.joined ∙ take-append-le (place + 1) old (take taken piece) (omega arith) in
      absurd (begun_tells_none limit (take (place + 1) old) kind (begun_prefix limit (place + 1) old (omega arith) begun) (rw prefix at told.told))
  | inr after ↦ after
]

-- a place and a kind that the octets tell are the fault
first_fault : (old : Stream) (piece : List ℕ) (kind : FrameFaultKind) (at : ℕ) → ToldAt old piece kind at → FirstFault old piece kind at
first_fault old piece UnknownType at told = told
first_fault old piece TooLarge at told = told
first_fault old piece BadEnd at told = told
first_fault old piece OutOfMemory at told = absurd told.told.told
first_fault old piece Failed at told = absurd told.told.told

pub fault_of : (fault : Option ℕ) (old : Stream) (piece : List ℕ) (kind : FrameFaultKind) (place at : ℕ)
    → fault ≡ None → TellsFirst old.limit (old.pending ++ piece) kind place → length old.pending ≤ place → at ≡ place_after old.taken (place - length old.pending)
    → Faults fault old piece (record { at = at; kind = kind })
fault_of fault old piece kind place at running told after at_is =
    rw running (first_fault old piece kind at (record { place = place; told = told; after = after; at_is = at_is }))

-- the frame that the buffer holds is the frame that the piece completes
pub completed : (old : Stream) (piece buffer : List ℕ) (taken : ℕ) (f : Frame)
    → IsBegun old.limit old.pending → IsFilled old.limit old.pending piece buffer taken
    → frame_length f ≤ length buffer → frame_length f ≤ old.limit → Fits f → take (frame_length f) buffer ≡ octets f
    → Completes old (take taken piece) f
completed old piece buffer taken f begun filled long within fits is_frame =
    let at_start : buffer ≡ octets f ++ drop (frame_length f) buffer = sym (take-append-drop (frame_length f) buffer) ∙ ap (λ (zs : List ℕ). zs ++ drop (frame_length f) buffer) is_frame in
    let size : size_of buffer ≡ length f.payload = ap size_of at_start ∙ size-at_start f (drop (frame_length f) buffer) fits in
    let short = filled.no_further (omega arith) (omega arith) in
    record {
      is_frame = sym filled.joined ∙ sym (take_all (frame_length f) buffer (omega arith)) ∙ is_frame;
      fits = fits;
      within = within;
    }

-- the frame ends in the piece, since none ends in octets that one begins
pub some_taken : (old : Stream) (piece : List ℕ) (taken : ℕ) (f : Frame) → IsBegun old.limit old.pending → Completes old (take taken piece) f → 0 < taken
some_taken old piece zero f begun completes =
    absurd ((begun_is_rest old.limit old.pending begun).no_frame (f, [], completes.fits, sym (append-nil old.pending) ∙ completes.is_frame ∙ sym (append-nil (octets f))))
some_taken old piece (suc taken) f begun completes = omega arith

-- octets are left in the piece only where the buffer's are no frame begun
all_taken : (old : Stream) (piece buffer : List ℕ) (taken : ℕ) → IsFilled old.limit old.pending piece buffer taken → IsBegun old.limit buffer → taken ≡ length piece
all_taken old piece buffer taken filled begun = elim (cases_lt taken (length piece)) [
  | inl left ↦
      let long = filled.sized left in
      let ended = filled.up_to_end left (begun.sized long) in
      let short = begun.short long in
      absurd (omega arith)
  | inr none ↦ let within = filled.within in omega arith
]

pub buffer_is : (old : Stream) (piece buffer : List ℕ) (taken : ℕ) → IsFilled old.limit old.pending piece buffer taken → taken ≡ length piece → buffer ≡ old.pending ++ piece
buffer_is old piece buffer taken filled all = filled.joined ∙ ap (λ (zs : List ℕ). old.pending ++ zs) (take_all taken piece (omega arith))

-- a frame begun, and all of the piece in it
pub waiting : (old : Stream) (piece buffer : List ℕ) (taken : ℕ) → IsFilled old.limit old.pending piece buffer taken → IsBegun old.limit buffer → Waits old piece taken
waiting old piece buffer taken filled begun =
    let all = all_taken old piece buffer taken filled begun in
    record {
      all = all;
      rest = rw (← buffer_is old piece buffer taken filled all) (begun_is_rest old.limit buffer begun);
    }

-- a piece that has octets has a length
pub some_octets : (xs : List ℕ) → ((xs ≡ []) → ⊥) → 0 < length xs
some_octets [] some = absurd (some refl)
some_octets (x ∷ xs) some = omega arith

-- splitters with equal parts are equal
pub same_stream : (pending others : List ℕ) (limit taken other : ℕ) (fault : Option ℕ) (to_fault : ℕ) (given another : Option Frame)
    → pending ≡ others → taken ≡ other → given ≡ another
    → ◌≡◌ {A = Stream} (record { pending = pending; limit = limit; taken = taken; fault = fault; taken_to_fault = to_fault; given = given })
    (record { pending = others; limit = limit; taken = other; fault = fault; taken_to_fault = to_fault; given = another })
same_stream pending others limit taken other fault to_fault given another p t g = rw (p, t, g) refl

-- a fault is shown after the octets that were pending
pub shown_after : (limit : ℕ) (old piece : List ℕ) (kind : FrameFaultKind) (place : ℕ) → IsBegun limit old → TellsFirst limit (old ++ piece) kind place → length old ≤ place
shown_after limit old piece kind place begun told = elim (cases_lt place (length old)) [
  | inl before ↦
      let prefix : take (place + 1) (old ++ piece) ≡ take (place + 1) old = take-append-le (place + 1) old piece (omega arith) in
      absurd (begun_tells_none limit (take (place + 1) old) kind (begun_prefix limit (place + 1) old (omega arith) begun) (rw prefix at told.told))
  | inr after ↦ after
]

-- the octets taken of the piece, with the one that shows the fault
pub taken_to_is : (old : Stream) (piece : List ℕ) (kind : FrameFaultKind) (place n : ℕ) → TellsFirst old.limit (old.pending ++ piece) kind place → place ≡ fault_place kind (old.pending ++ piece) → length old.pending ≤ place → n ≡ place - length old.pending + 1 → n ≡ taken_to kind old piece
taken_to_is old piece UnknownType place n told is after n_is = omega arith
taken_to_is old piece TooLarge place n told is after n_is = omega arith
taken_to_is old piece BadEnd place n told is after n_is = omega arith
taken_to_is old piece OutOfMemory place n told is after n_is = absurd told.told
taken_to_is old piece Failed place n told is after n_is = absurd told.told

-- after a fault that was shown
pub failed_stream : (limit taken : ℕ) (fault : Option ℕ) (n m : ℕ) → n ≡ m
    → ◌≡◌ {A = Stream} (record { pending = []; limit = limit; taken = taken; fault = fault; taken_to_fault = n; given = None })
    (record { pending = []; limit = limit; taken = taken; fault = fault; taken_to_fault = m; given = None })
failed_stream limit taken fault n m e = rw e refl

-- a fault that octets show is no refusal of memory
pub memory_aside : (old : Stream) (piece : List ℕ) (kind : FrameFaultKind) (place : ℕ) → TellsFirst old.limit (old.pending ++ piece) kind place → LacksMemoryIfNeeded kind old piece
memory_aside old piece UnknownType place told = tt
memory_aside old piece TooLarge place told = tt
memory_aside old piece BadEnd place told = tt
memory_aside old piece OutOfMemory place told = absurd told.told
memory_aside old piece Failed place told = tt

-- an empty piece leaves a frame begun
pub nothing_waits : (old : Stream) (piece : List ℕ) → IsBegun old.limit old.pending → length piece ≡ 0 → Waits old piece 0
nothing_waits old piece begun empty =
    let none : piece ≡ [] = nil_from_length piece empty in
    record { all = sym empty; rest = rw (none, append-nil old.pending) (begun_is_rest old.limit old.pending begun) }

-- what is found across two parts is shown first
pub shown_first : (limit : ℕ) (old now piece : List ℕ) (kind : FrameFaultKind) (place : ℕ) → now ≡ old → (judged limit (now ++ piece) ≡ Wrong kind) × (place ≡ fault_place kind (now ++ piece)) → TellsFirst limit (old ++ piece) kind place × (place ≡ fault_place kind (old ++ piece))
shown_first limit old now piece kind place same shows =
    let wrong : judged limit (old ++ piece) ≡ Wrong kind = rw (← same) shows.0 in
    let at : place ≡ fault_place kind (old ++ piece) = rw (← same) shows.1 in
    (subst (TellsFirst limit (old ++ piece) kind) (sym at) (judged_is_first limit (old ++ piece) kind wrong), at)

-- no fault is found across two parts, so a part of them shows none
pub none_in_part : (limit : ℕ) (old now piece buffer : List ℕ) (taken : ℕ) (kind : FrameFaultKind) (place : ℕ) → now ≡ old → ((k : FrameFaultKind) → judged limit (now ++ piece) ≡ Wrong k → ⊥) → buffer ≡ old ++ take taken piece → TellsFirst limit buffer kind place → ⊥
none_in_part limit old now piece buffer taken kind place same none joined told =
    let whole = rw (whole_piece old piece buffer taken joined) at (told_before limit buffer (drop taken piece) kind place told) in
    none kind (rw same (first_is_judged limit (old ++ piece) kind place whole).0)

-- nothing is added by an empty piece
pub nothing_added : (pending piece now : List ℕ) → now ≡ pending → piece ≡ [] → now ≡ pending ++ piece
nothing_added pending piece now same none = rw none (same ∙ sym (append-nil pending))

-- where a frame is whole, memory may be refused for a copy of its payload
pub lacks_at_frame : (old : Stream) (piece : List ℕ) (taken : ℕ) (f : Frame) → IsBegun old.limit old.pending → taken ≤ length piece → Completes old (take taken piece) f → MayLackMemory old piece
lacks_at_frame old piece taken f begun within completes =
    let some = some_taken old piece taken f begun completes in
    let at_start : old.pending ++ piece ≡ octets f ++ drop taken piece =
    sym (whole_piece old.pending piece (old.pending ++ take taken piece) taken refl) ∙ ap (λ (zs : List ℕ). zs ++ drop taken piece) completes.is_frame in
    record {
      some = λ none. absurd (let e : length piece ≡ 0 = ap length none in omega arith);
      no_fault = λ kind wrong. told_without_frame old.limit (old.pending ++ piece) kind (fault_place kind (old.pending ++ piece)) (judged_is_first old.limit (old.pending ++ piece) kind wrong)
          (record { f = f; tail = drop taken piece; fits = completes.fits; within = completes.within; at_start = at_start });
    }

-- A frame that the octets taken alone are stands at the start of the piece.
pub none_pending_none_given : (old : Stream) (piece : List ℕ) (taken : ℕ) (f : Frame) → Completes old (take taken piece) f
    → (old.pending ≡ [] → HasFrameAtStart old.limit piece → ⊥) → old.pending ≡ [] → ⊥
none_pending_none_given old piece taken f completes none empty =
    let alone : take taken piece ≡ octets f = rw empty at completes.is_frame in
    none empty (record {
      f = f;
      tail = drop taken piece;
      fits = completes.fits;
      within = completes.within;
      at_start = sym (take-append-drop taken piece) ∙ ap (λ (zs : List ℕ). zs ++ drop taken piece) alone;
    })

-- the frame in a buffer that holds pending octets and those taken
pub given_is : (pending taken buffer : List ℕ) → buffer ≡ pending ++ taken → (pending ≡ [] → ⊥) → frame_read buffer ≡ given_after pending taken
given_is [] taken buffer joined some = absurd (some refl)
given_is (octet ∷ pending) taken buffer joined some = ap frame_read joined

-- the buffer ends where its frame does
pub buffer_is_whole : (old : Stream) (piece buffer : List ℕ) (taken : ℕ) (f : Frame)
    → IsFilled old.limit old.pending piece buffer taken
    → frame_length f ≤ length buffer → frame_length f ≤ old.limit → Fits f → take (frame_length f) buffer ≡ octets f
    → IsWhole buffer
buffer_is_whole old piece buffer taken f filled long within fits is_frame =
    let at_start : buffer ≡ octets f ++ drop (frame_length f) buffer = sym (take-append-drop (frame_length f) buffer) ∙ ap (λ (zs : List ℕ). zs ++ drop (frame_length f) buffer) is_frame in
    let size : size_of buffer ≡ length f.payload = ap size_of at_start ∙ size-at_start f (drop (frame_length f) buffer) fits in
    let short = filled.no_further (omega arith) (omega arith) in
    record { header = omega arith; all = omega arith }

-- what is lent of the buffer is what completes the frame
pub given_completes : (old : Stream) (taken buffer : List ℕ) (f : Frame) → frame_read buffer ≡ Some f → Completes old taken f → OfGiven Buffer (frame_read buffer) (Completes old taken)
given_completes old taken buffer f is completes = subst (λ given. OfGiven Buffer given (Completes old taken)) (sym is) completes

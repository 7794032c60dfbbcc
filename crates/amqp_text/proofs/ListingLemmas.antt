-- A listing, frame by frame.
use Rattle.std.proofs.Common.{◌≡◌, ℕ, ◌+◌, ◌-◌, ◌^◌, ◌≤◌, List, [], ◌∷◌, ◌++◌, length, take, drop, map, None, Some, refl, ap, ◌∙◌, arith, append_assoc, length-append, min}
use Rattle.std.proofs.lemmas.List.{append-nil, take-append-drop, length-take-le, map-append}
use Rattle.amqp_frame.specs.Frame.{Frame, octets, Fits, frame_length, owned}
use Rattle.amqp_frame.specs.Splitting.{stream, AllFit}
use Rattle.amqp_frame.specs.Splitter.{place_after, Completes, after_taking}
use Rattle.amqp_frame.specs.Stream.{Stream}
use Rattle.amqp_frame.specs.declared.frames.RawFrame.{RawFrame}
use Rattle.amqp_text.specs.Listing.{GREATEST_FRAME, AllWithin}

stream-push : (frames : List Frame) (f : Frame) → stream (frames ++ f ∷ []) ≡ stream frames ++ octets f
stream-push [] f = append-nil (octets f)
stream-push (g ∷ frames) f = rw (stream-push frames f, append_assoc) refl

AllFit-push : (frames : List Frame) (f : Frame) → AllFit frames → Fits f → AllFit (frames ++ f ∷ [])
AllFit-push [] f all fits = (fits, tt)
AllFit-push (g ∷ frames) f all fits = (all.0, AllFit-push frames f all.1 fits)

AllWithin-push : (frames : List Frame) (f : Frame) → AllWithin frames → frame_length f ≤ GREATEST_FRAME → AllWithin (frames ++ f ∷ [])
AllWithin-push [] f all within = (within, tt)
AllWithin-push (g ∷ frames) f all within = (all.0, AllWithin-push frames f all.1 within)

-- the frames listed and the rest are the octets, and the splitter stands between them
pub record ListedSoFar (input rest : List ℕ) (frames : List RawFrame) (splitter : Stream) : Type 0 where
  pub joined : input ≡ stream (map owned frames) ++ rest
  pub fit : AllFit (map owned frames)
  pub within : AllWithin (map owned frames)
  pub between : splitter ≡ record { pending = []; limit = GREATEST_FRAME; taken = place_after 0 (length (stream (map owned frames))); fault = None; taken_to_fault = 0; given = None }

pub listed_nothing : (input : List ℕ) (splitter : Stream) → splitter ≡ record { pending = []; limit = GREATEST_FRAME; taken = 0; fault = None; taken_to_fault = 0; given = None } → ListedSoFar input input [] splitter
listed_nothing input splitter between = record { joined = refl; fit = tt; within = tt; between = between }

-- a frame more
pub listed_frame : (input rest after : List ℕ) (frames more : List RawFrame) (old new : Stream) (taken : ℕ) (f : RawFrame)
    → ListedSoFar input rest frames old → taken ≤ length rest → Completes old (take taken rest) (owned f) → new ≡ after_taking old rest taken (Some f)
    → more ≡ frames ++ f ∷ [] → after ≡ drop taken rest → ListedSoFar input after more new
listed_frame input rest after frames more old new taken f so_far within completes new_is more_is after_is =
    let pending : old.pending ≡ [] = ap (λ (s : Stream). s.pending) so_far.between in
    let limit : old.limit ≡ GREATEST_FRAME = ap (λ (s : Stream). s.limit) so_far.between in
    let counted : old.taken ≡ place_after 0 (length (stream (map owned frames))) = ap (λ (s : Stream). s.taken) so_far.between in
    let running : old.fault ≡ None = ap (λ (s : Stream). s.fault) so_far.between in
    let unshown : old.taken_to_fault ≡ 0 = ap (λ (s : Stream). s.taken_to_fault) so_far.between in
    let in_piece : take taken rest ≡ octets (owned f) = rw pending at completes.is_frame in
    let frames_are : map owned more ≡ map owned frames ++ owned f ∷ [] = rw more_is (map-append owned frames (f ∷ [])) in
    let stream_is : stream (map owned more) ≡ stream (map owned frames) ++ octets (owned f) = rw frames_are (stream-push (map owned frames) (owned f)) in
    let length_is : length (octets (owned f)) ≡ taken = rw (← in_piece) (length-take-le taken rest within) in
    let total : length (stream (map owned more)) ≡ length (stream (map owned frames)) + taken = rw stream_is (simp length-append (omega arith)) in
    let place : min (place_after 0 (length (stream (map owned frames))) + taken) (2 ^ 64 - 1) ≡ place_after 0 (length (stream (map owned frames)) + taken) = omega arith in
    record {
      joined = so_far.joined ∙ rw (stream_is, after_is, append_assoc (stream (map owned frames)) (octets (owned f)) (drop taken rest), ← in_piece, take-append-drop taken rest) refl;
      fit = rw frames_are (AllFit-push (map owned frames) (owned f) so_far.fit completes.fits);
      within = rw frames_are (AllWithin-push (map owned frames) (owned f) so_far.within (rw limit at completes.within));
      between = new_is ∙ rw (pending, limit, counted, running, unshown, total, place) refl;
    }

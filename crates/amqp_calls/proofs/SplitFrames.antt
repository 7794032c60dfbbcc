-- Frames that a splitter gives one after the other.
use Rattle.std.proofs.Common.{◌≡◌, ℕ, ◌+◌, ◌<◌, ◌≤◌, List, [], ◌∷◌, ◌++◌, length, take, drop, drop-drop, slice_set, Some, None, Ok, Err, refl, sym, subst, ap, ◌∙◌, arith}
use Rattle.std.proofs.lemmas.List.{drop-set-lt, length-set, take_more_set}
use Rattle.amqp_frame.specs.Advances.{Advances}
use Rattle.amqp_frame.specs.Splitter.{after_feed_ref}
use Rattle.amqp_frame.specs.Stream.{Stream}
use Rattle.amqp_frame.specs.declared.faults.FrameFault.{FrameFault}
use Rattle.amqp_frame.specs.declared.frames.FrameRef.{FrameRef}
use Rattle.amqp_frame.specs.declared.splitting.Advanced.{Advanced}
use Rattle.amqp_frame.specs.declared.splitting.Place.TheVariants.{Piece}
use Rattle.amqp_calls.specs.SplitPieces.{faulty, Gives, GivesEach, waiting}
use Rattle.amqp_calls.specs.Splitters.{answer_of, Answers, frame_fault, frame_there}
use Rattle.amqp_calls.specs.declared.splitting.FedFrame.{FedFrame}
use Rattle.amqp_calls.specs.declared.splitting.SplitPiece.{SplitPiece}

-- what stays after some places stays after one more
pub later : {A : Type 0} (count : ℕ) (frames places : List A) → drop count frames ≡ drop count places → drop (count + 1) frames ≡ drop (count + 1) places
later count frames places same = sym (drop-drop 1 count frames) ∙ ap (drop 1) same ∙ drop-drop 1 count places

-- one frame more
pub gives_one_more : (frames : List FedFrame) (old : Stream) (octets : List ℕ) (left : Stream) (rest : List ℕ) (frame : FedFrame)
    → GivesEach old octets frames left rest → Gives left rest frame
    → GivesEach old octets (frames ++ frame ∷ []) (after_feed_ref left rest (answer_of 0 frame)) (drop frame.taken rest)
gives_one_more [] old octets left rest frame (left_is, rest_is) gives =
    (subst (λ s. Gives s octets frame) left_is (subst (λ r. Gives left r frame) rest_is gives), rw (left_is, rest_is) (refl, refl))
gives_one_more (first ∷ frames) old octets left rest frame (gives_first, others) gives =
    (gives_first, gives_one_more frames _ _ left rest frame others gives)

-- a frame that lies in the piece is what a feed gives
answers_frame : (old : Stream) (octets : List ℕ) (taken : ℕ) (f : FrameRef) (new : Stream)
    → Advances old octets (Ok (record { taken = taken; place = Some (Piece f) })) new
    → Answers old octets (Ok (record { taken = taken; frame = Some f }))
answers_frame old octets taken f new a =
    record {
      frame = a.frame;
      rest = a.rest;
      fault = a.fault;
      memory = a.memory;
      running = a.running;
      within = a.within;
      progress = a.progress;
      in_place = a.in_place;
    }

pub gives_frame : (old : Stream) (octets : List ℕ) (advanced : Advanced) (f : FrameRef) (new : Stream) (frame : FedFrame)
    → Advances old octets (Ok advanced) new → advanced.place ≡ Some (Piece f) → frame.taken ≡ advanced.taken → frame_there frame ≡ Some f
    → Gives old octets frame × (new ≡ after_feed_ref old octets (answer_of 0 frame)) × (new.pending ≡ [])
gives_frame old octets advanced f new frame a place_is taken_is there_is =
    let there = subst (λ place. Advances old octets (Ok (record { taken = advanced.taken; place = place })) new) place_is a in (
      record { answers = rw (taken_is, there_is) (answers_frame old octets advanced.taken f new there); there = rw (there_is) refl },
      rw (taken_is, there_is) there.after,
      ap (λ (s : Stream). s.pending) there.after,
    )

-- with one frame more in its place, the other places stay
pub record MorePlaces (old : Stream) (piece : List ℕ) (places frames : List FedFrame) (count : ℕ) (new : Stream) (rest : List ℕ) : Type 0 where
  pub within : count ≤ length frames
  pub as_many : length frames ≡ length places
  pub others : drop count frames ≡ drop count places
  pub gives : GivesEach old piece (take count frames) new rest

pub one_place_more : (old : Stream) (piece : List ℕ) (places frames : List FedFrame) (count : ℕ) (left new : Stream) (rest : List ℕ)
    (taken : ℕ) (frame : FedFrame) → MorePlaces old piece places frames count left rest → count < length frames → Gives left rest frame
    → new ≡ after_feed_ref left rest (answer_of 0 frame) → frame.taken ≡ taken
    → MorePlaces old piece places (slice_set frames count frame) (count + 1) new (drop taken rest)
one_place_more old piece places frames count left new rest taken frame before room gives new_is taken_is =
    record {
      within = rw (length-set frames count frame) (omega (arith, room));
      as_many = length-set frames count frame ∙ before.as_many;
      others = drop-set-lt (count + 1) frames count frame (omega arith) ∙ later count frames places before.others;
      gives = rw (take_more_set frames count frame room, new_is, sym taken_is) (gives_one_more (take count frames) old piece left rest frame before.gives gives);
    }

-- octets that end no frame are taken
answers_waiting : (old : Stream) (octets : List ℕ) (new : Stream)
    → Advances old octets (Ok (record { taken = length octets; place = None })) new → Answers old octets (waiting octets)
answers_waiting old octets new a =
    record {
      frame = a.frame;
      rest = a.rest;
      fault = a.fault;
      memory = a.memory;
      running = a.running;
      within = a.within;
      progress = a.progress;
      in_place = a.in_place;
    }

pub waits : (old : Stream) (octets : List ℕ) (advanced : Advanced) (new : Stream) → Advances old octets (Ok advanced) new
    → advanced.place ≡ None → Answers old octets (waiting octets) × (new ≡ after_feed_ref old octets (waiting octets))
waits old octets advanced new a place_is =
    let none = subst (λ place. Advances old octets (Ok (record { taken = advanced.taken; place = place })) new) place_is a in
    let all = subst (λ n. Advances old octets (Ok (record { taken = n; place = None })) new) none.rest.all none in
    (answers_waiting old octets new all, all.after)

-- a fault is told
answers_fault : (old : Stream) (octets : List ℕ) (fault : FrameFault) (new : Stream) → Advances old octets (Err fault) new
    → Answers old octets (Err fault)
answers_fault old octets fault new a =
    record {
      frame = a.frame;
      rest = a.rest;
      fault = a.fault;
      memory = a.memory;
      running = a.running;
      within = a.within;
      progress = a.progress;
      in_place = a.in_place;
    }

pub fault_shown : (old : Stream) (octets : List ℕ) (fault : FrameFault) (new : Stream) (status : ℕ) (out : SplitPiece)
    → Advances old octets (Err fault) new → out.at ≡ fault.at → frame_fault status ≡ fault.kind
    → Answers old octets (faulty status out) × (new ≡ after_feed_ref old octets (faulty status out))
fault_shown old octets fault new status out a at_is kind_is =
    rw (at_is, kind_is) (answers_fault old octets fault new a, a.after)

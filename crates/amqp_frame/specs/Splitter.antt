-- What a piece of the stream does to a splitter, and what the splitter answers.
use Rattle.std.specs.Prelude.{◌≡◌, ◌≢◌, ℕ, ◌+◌, ◌-◌, ◌^◌, ◌≤◌, List, [], ◌∷◌, ◌++◌, length, take, min, Option, Some, None, Result, Ok, Err}
use Rattle.std.specs.Borrow.{MutBor, Fml}
use Rattle.std.specs.Io.BufRead.{Rests}
use Rattle.amqp_frame.specs.Frame.{Frame, octets, Fits, frame_length, lent}
use Rattle.amqp_frame.specs.Splitting.{IsRest, TellsFirst}
use Rattle.amqp_frame.specs.Judged.{Wrong, judged, fault_place, frame_read}
use Rattle.amqp_frame.specs.Stream.{Stream}
use Rattle.amqp_frame.specs.contracts.splitting.Splitter.{the_row}
use Rattle.amqp_frame.specs.declared.faults.FrameFault.{FrameFault}
use Rattle.amqp_frame.specs.declared.faults.FrameFaultKind.{FrameFaultKind}
use Rattle.amqp_frame.specs.declared.faults.FrameFaultKind.TheVariants.{UnknownType, TooLarge, BadEnd, OutOfMemory, Failed}
use Rattle.amqp_frame.specs.declared.frames.FrameRef.{FrameRef}
use Rattle.amqp_frame.specs.declared.splitting.Advanced.{Advanced}
use Rattle.amqp_frame.specs.declared.splitting.Fed.{Fed}
use Rattle.amqp_frame.specs.declared.splitting.FedRef.{FedRef}
use Rattle.amqp_frame.specs.declared.splitting.Place.{Place}
use Rattle.amqp_frame.specs.declared.splitting.Place.TheVariants.{Piece, Buffer}

-- A place in the stream, counted from 0. The count stays at the greatest number of 64 bits.
abbrev pub place_after : ℕ → ℕ → ℕ
place_after taken n = min (taken + n) (2 ^ 64 - 1)

-- the pending octets and those taken of the piece are the frame, which is no longer than the limit
pub record Completes (old : Stream) (taken : List ℕ) (f : Frame) : Type 0 where
  pub is_frame : old.pending ++ taken ≡ octets f
  pub fits : Fits f
  pub within : frame_length f ≤ old.limit

-- no octet of the piece ends a frame, and none shows a fault: the whole of it was taken
pub record Waits (old : Stream) (piece : List ℕ) (taken : ℕ) : Type 0 where
  pub all : taken ≡ length piece
  pub rest : IsRest old.limit (old.pending ++ piece)

-- The octet of the piece that shows the fault stands after the pending octets, which show none.
pub record ToldAt (old : Stream) (piece : List ℕ) (kind : FrameFaultKind) (at : ℕ) : Type 0 where
  pub place : ℕ
  pub told : TellsFirst old.limit (old.pending ++ piece) kind place
  pub after : length old.pending ≤ place
  pub at_is : at ≡ place_after old.taken (place - length old.pending)

-- a splitter that has told no fault tells this one
abbrev pub FirstFault : Stream → List ℕ → FrameFaultKind → ℕ → Type 0
FirstFault old piece UnknownType at = ToldAt old piece UnknownType at
FirstFault old piece TooLarge at = ToldAt old piece TooLarge at
FirstFault old piece BadEnd at = ToldAt old piece BadEnd at
FirstFault old piece OutOfMemory at = at ≡ old.taken
FirstFault old piece Failed at = ⊥

-- The fault is the one that the octets tell, or out of memory; after a fault it is Failed, at the first one's place.
abbrev pub Faults : Option ℕ → Stream → List ℕ → FrameFault → Type 0
Faults None old piece fault = FirstFault old piece fault.kind fault.at
Faults (Some place) old piece fault = (fault.kind ≡ Failed) × (fault.at ≡ place)

-- Memory may be refused only where an octet of the piece has to be kept: there is one, and none shows a fault.
pub record MayLackMemory (old : Stream) (piece : List ℕ) : Type 0 where
  pub some : piece ≢ []
  pub no_fault : (kind : FrameFaultKind) → judged old.limit (old.pending ++ piece) ≢ Wrong kind

-- so it is of a fault, if that is a refusal of memory
abbrev pub LacksMemoryIfNeeded : FrameFaultKind → Stream → (piece : List ℕ) → Type 0
LacksMemoryIfNeeded OutOfMemory old piece = MayLackMemory old piece
LacksMemoryIfNeeded kind old piece = Unit {0}

-- a whole frame within the limit stands at the start
pub record HasFrameAtStart (limit : ℕ) (piece : List ℕ) : Type 0 where
  pub f : Frame
  pub tail : List ℕ
  pub fits : Fits f
  pub within : frame_length f ≤ limit
  pub at_start : piece ≡ octets f ++ tail

-- A frame of which octets were pending is given by way of the buffer; one of which none were lies in the piece.
abbrev pub given_after : (pending taken : List ℕ) → Option Frame
given_after [] taken = None
given_after (octet ∷ pending) taken = frame_read (octet ∷ (pending ++ taken))

-- after octets were taken: after a frame nothing is pending
abbrev pub after_taking : {A : Type 0} → Stream → List ℕ → ℕ → Option A → Stream
after_taking old piece taken None =
    record old { pending = old.pending ++ piece; taken = place_after old.taken taken; given = None }
after_taking old piece taken (Some f) =
    record old { pending = []; taken = place_after old.taken taken; given = given_after old.pending (take taken piece) }

-- how many octets of a piece are taken up to the octet that shows a fault, that octet included: none where memory was
-- refused
abbrev pub taken_to : FrameFaultKind → Stream → (piece : List ℕ) → ℕ
taken_to UnknownType old piece = fault_place UnknownType (old.pending ++ piece) + 1 - length old.pending
taken_to TooLarge old piece = fault_place TooLarge (old.pending ++ piece) + 1 - length old.pending
taken_to BadEnd old piece = fault_place BadEnd (old.pending ++ piece) + 1 - length old.pending
taken_to OutOfMemory old piece = 0
taken_to Failed old piece = old.taken_to_fault

-- after a fault nothing is pending, and the place of the first fault stays
abbrev after_fault : Stream → (piece : List ℕ) → FrameFault → Stream
after_fault old piece fault =
    record old { pending = []; fault = Some fault.at; taken_to_fault = taken_to fault.kind old piece; given = None }

abbrev pub after_feed : Stream → List ℕ → Result Fed FrameFault → Stream
after_feed old piece (Ok fed) = after_taking old piece fed.taken fed.frame
after_feed old piece (Err fault) = after_fault old piece fault

abbrev pub after_feed_ref : Stream → List ℕ → Result FedRef FrameFault → Stream
after_feed_ref old piece (Ok fed) = after_taking old piece fed.taken fed.frame
after_feed_ref old piece (Err fault) = after_fault old piece fault

abbrev pub after_advance : Stream → List ℕ → Result Advanced FrameFault → Stream
after_advance old piece (Ok advanced) = after_taking old piece advanced.taken advanced.place
after_advance old piece (Err fault) = after_fault old piece fault

-- The frame given meets P: the one in the piece, or the one in the buffer of the splitter as it was left.
abbrev pub OfGiven : Place → (left : Option Frame) → (Frame → Type 0) → Type 0
OfGiven (Piece f) left P = P (lent f)
OfGiven Buffer None P = ⊥
OfGiven Buffer (Some f) P = P f

-- The frame lies in the piece where no octet of it was pending, and in the buffer otherwise.
abbrev pub LiesAt : (pending : List ℕ) → Place → Type 0
LiesAt pending (Piece f) = pending ≡ []
LiesAt pending Buffer = pending ≢ []

-- a frame was taken that lies whole in the piece
abbrev pub all_of : FrameRef → Advanced
all_of frame = record { taken = frame_length (lent frame); place = Some (Piece frame) }

-- what the splitter is once the frame that it lent is given up
abbrev pub LeavesAfter : MutBor Stream → List ℕ → Result FedRef FrameFault → Fml
LeavesAfter s piece result = Rests the_row s (λ new. new ≡ after_feed_ref s.now piece result)

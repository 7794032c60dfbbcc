-- How a splitter judges the octets of a frame begun, from the facts that it looks at.
use Rattle.std.specs.Prelude.{◌≡◌, ◌≢◌, ℕ, ◌+◌, ◌<◌, ◌≤◌, List, [], ◌++◌, length, take, slice_index, Option, Some, None}
use Rattle.amqp_frame.specs.Frame.{Frame, octets, Fits, frame_length, lent}
use Rattle.amqp_frame.specs.Splitting.{IsTypeOctet, size_of, TellsFirst}
use Rattle.amqp_frame.specs.Judged as judged
use Rattle.amqp_frame.specs.declared.faults.FrameFaultKind.{FrameFaultKind}
use Rattle.amqp_frame.specs.declared.frames.FrameRef.{FrameRef}
use Rattle.amqp_frame.specs.declared.judging.Held.{Held}
use Rattle.amqp_frame.specs.declared.judging.Held.TheVariants as held
use Rattle.amqp_frame.specs.declared.judging.Judgement.{Judgement}
use Rattle.amqp_frame.specs.declared.judging.Judgement.TheVariants.{Begun, Wrong, Whole}

-- the buffer's octets, as long as they are a frame begun
abbrev pub pending_of : Held → List ℕ → List ℕ
pending_of held.Begun buffer = buffer
pending_of held.Given buffer = []
pending_of held.Spent buffer = []

-- the frame in the buffer, once a call has given it and until the next
abbrev pub given_of : Held → List ℕ → Option Frame
given_of held.Begun buffer = None
given_of held.Given buffer = judged.frame_read buffer
given_of held.Spent buffer = None

-- the octets are as many as the payload's size in them says
pub record IsWhole (xs : List ℕ) : Type 0 where
  pub header : 7 ≤ length xs
  pub all : length xs ≡ size_of xs + 8

-- so are those of a frame that was given
abbrev pub IsWholeIfGiven : Held → List ℕ → Type 0
IsWholeIfGiven held.Begun buffer = Unit {0}
IsWholeIfGiven held.Given buffer = IsWhole buffer
IsWholeIfGiven held.Spent buffer = Unit {0}

-- the frame lent, if one is
abbrev pub lent_of : Option FrameRef → Option Frame
lent_of None = None
lent_of (Some f) = Some (lent f)

-- nothing is wrong with what is there, and the end octet isn't
pub record IsBegun (limit : ℕ) (xs : List ℕ) : Type 0 where
  pub typed : 0 < length xs → IsTypeOctet (slice_index xs 0)
  pub sized : 7 ≤ length xs → size_of xs + 8 ≤ limit
  pub short : 7 ≤ length xs → length xs < size_of xs + 8

-- what is to be said of octets that a frame begins
abbrev pub IsJudged : ℕ → List ℕ → Judgement → Type 0
IsJudged limit xs Begun = IsBegun limit xs
IsJudged limit xs (Wrong kind place) = TellsFirst limit xs kind place
IsJudged limit xs (Whole f) =
    (frame_length (lent f) ≤ length xs) × (frame_length (lent f) ≤ limit) × Fits (lent f)
    × (take (frame_length (lent f)) xs ≡ octets (lent f))

-- where the fault is shown
abbrev pub IsPlaced : List ℕ → Judgement → Type 0
IsPlaced xs Begun = Unit {0}
IsPlaced xs (Wrong kind place) = place ≡ judged.fault_place kind xs
IsPlaced xs (Whole f) = Unit {0}

-- no octet of them shows a fault
abbrev pub ShowsNoFault : (limit : ℕ) → List ℕ → Type 0
ShowsNoFault limit xs = (kind : FrameFaultKind) → judged.judged limit xs ≢ judged.Wrong kind

-- they show this fault, in this place
abbrev pub ShowsFault : (limit : ℕ) → List ℕ → FrameFaultKind × ℕ → Type 0
ShowsFault limit xs w = (judged.judged limit xs ≡ judged.Wrong w.0) × (w.1 ≡ judged.fault_place w.0 xs)

-- the judgement, apart from where the frame lies and where the fault is shown
abbrev pub judgement_view : Judgement → judged.Judgement
judgement_view Begun = judged.Begun
judgement_view (Wrong kind place) = judged.Wrong kind
judgement_view (Whole f) = judged.Whole (lent f)

-- Octets of the piece were added to those of a frame begun, up to the end of that frame and no further.
pub record IsFilled (limit : ℕ) (old piece new : List ℕ) (taken : ℕ) : Type 0 where
  pub within : taken ≤ length piece
  pub joined : new ≡ old ++ take taken piece
  -- octets are left only where the payload's size is there
  pub sized : taken < length piece → 7 ≤ length new
  pub no_further : 7 ≤ length new → size_of new + 8 ≤ limit → length new ≤ size_of new + 8
  pub up_to_end : taken < length piece → size_of new + 8 ≤ limit → length new ≡ size_of new + 8
  -- of a frame that is too long no octet is added after its size
  pub too_long : limit < size_of new + 8 → length new ≤ 7

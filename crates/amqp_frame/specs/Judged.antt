-- What octets are, as a function of them: a frame begun, a frame, or octets that show a fault. It looks at the type
-- octet, the payload's size and the end octet alone: AMQP 0-9-1 specification, section 4.2.3.
use Rattle.std.specs.Prelude.{cond, ◌==◌, nat_lt, ℕ, ◌+◌, ◌*◌, List, [], ◌∷◌, length, take, drop, slice_index, Option, Some, None}
use Rattle.amqp_frame.specs.Frame.{Frame, END}
use Rattle.amqp_frame.specs.Splitting.{size_of}
use Rattle.amqp_frame.specs.declared.faults.FrameFaultKind.{FrameFaultKind}
use Rattle.amqp_frame.specs.declared.faults.FrameFaultKind.TheVariants.{UnknownType, TooLarge, BadEnd, OutOfMemory, Failed}
use Rattle.amqp_frame.specs.declared.frames.FrameKind.{FrameKind}
use Rattle.amqp_frame.specs.declared.frames.FrameKind.TheVariants as frames

-- a frame begun; the frame that they begin with; or the fault that they show
pub data Judgement : Type 0 where
  Begun : Judgement
  Whole : Frame → Judgement
  Wrong : FrameFaultKind → Judgement

-- the kind of frame that a type octet stands for
abbrev pub kind_of_type : (octet : ℕ) → Option FrameKind
kind_of_type octet =
    cond (octet == 1) (Some frames.Method)
    (cond (octet == 2) (Some frames.Header)
    (cond (octet == 3) (Some frames.Body)
    (cond (octet == 8) (Some frames.Heartbeat) None)))

-- the channel, as the second and the third octet have it
abbrev pub channel_in : List ℕ → ℕ
channel_in octets = 256 * slice_index octets 1 + slice_index octets 2

-- the frame of this kind that octets begin with
abbrev pub frame_in : FrameKind → List ℕ → Frame
frame_in kind octets = record {
  kind = kind;
  channel = channel_in octets;
  payload = take (size_of octets)
      (drop 7 octets);
}

-- the frame of a kind that a type octet may stand for
abbrev pub frame_of_type : Option FrameKind → List ℕ → Option Frame
frame_of_type None octets = None
frame_of_type (Some kind) octets = Some (frame_in kind octets)

-- the frame that octets begin with, as their first seven have it: none where the type octet stands for no kind
abbrev pub frame_read : List ℕ → Option Frame
frame_read [] = None
frame_read (type_octet ∷ later) = frame_of_type (kind_of_type type_octet) (type_octet ∷ later)

-- the octet is there that is to end the frame
abbrev pub judged_by_end : FrameKind → List ℕ → Judgement
judged_by_end kind octets = cond (slice_index octets (size_of octets + 7) == END) (Whole (frame_in kind octets))
    (Wrong BadEnd)

-- the payload's size is there
abbrev pub judged_by_size : (limit : ℕ) → FrameKind → List ℕ → Judgement
judged_by_size limit kind octets =
    cond (nat_lt limit (size_of octets + 8)) (Wrong TooLarge)
    (cond (nat_lt (length octets) (size_of octets + 8)) Begun (judged_by_end kind octets))

-- the type octet is there
abbrev pub judged_by_type : (limit : ℕ) → Option FrameKind → List ℕ → Judgement
judged_by_type limit None octets = Wrong UnknownType
judged_by_type limit (Some kind) octets = cond (nat_lt (length octets) 7) Begun (judged_by_size limit kind octets)

-- what the octets are, under a limit on a frame's octets
abbrev pub judged : (limit : ℕ) → List ℕ → Judgement
judged limit [] = Begun
judged limit (type_octet ∷ later) = judged_by_type limit (kind_of_type type_octet) (type_octet ∷ later)

-- the place of the octet that shows a fault: the type octet, the last octet of the size, the end octet
abbrev pub fault_place : FrameFaultKind → List ℕ → ℕ
fault_place UnknownType octets = 0
fault_place TooLarge octets = 6
fault_place BadEnd octets = size_of octets + 7
fault_place OutOfMemory octets = 0
fault_place Failed octets = 0

-- What an end does with a frame, by what it keeps: its verdict, what that puts, and which frames it takes at all.
use Rattle.std.specs.Prelude.{◌≡◌, ◌≤◌, Bool, true, false, ℕ, List, map}
use Rattle.amqp_frame.specs.Frame.{Fits, frame_length}
use Rattle.amqp_model.specs.Wire.Frame.{Frame}
use Rattle.amqp_model.specs.Wire.Notes.{Role}
use Rattle.amqp_model.specs.Wire.Readings.{reading}
use Rattle.amqp_model.specs.End.Channels.{Phase, Handshake, AwaitsProtocolHeader, Closed, Failed, End}
use Rattle.amqp_model.specs.History.Negotiation.{Config, frame_limit}
use Rattle.amqp_model.specs.End.Closes.{FrameError, frame_of}
use Rattle.amqp_model.specs.End.Events.{Peer, FrameVerdict, Proceeds, RefusesContent, Faults}
use Rattle.amqp_model.specs.End.FrameVerdict.{Facts, verdict_on, methods_put}

-- what a verdict on a frame of this channel rests on
abbrev pub facts_at : {role : Role} → Config role → End → (number : ℕ) → Facts role
facts_at config end number =
    record { config = config; phase = end.phase; agreed = end.agreed; number = number; channel = end.channels number }

-- the verdict of an end on a frame
abbrev pub end_verdict : {role : Role} → Config role → End → Frame → FrameVerdict
end_verdict config end frame = verdict_on (facts_at config end frame.channel) (reading frame)

-- the frames that the verdict puts, the oldest first
abbrev pub end_puts : {role : Role} → Config role → End → Frame → List Frame
end_puts config end frame =
    map frame_of (methods_put (facts_at config end frame.channel) (end_verdict config end frame))

-- the frames that close the connection where octets show a frame above the limit
abbrev pub too_large_puts : {role : Role} → Config role → End → List Frame
too_large_puts config end = map frame_of (methods_put (facts_at config end 0) (Faults (Peer FrameError)))

-- the end goes on after such a verdict
abbrev pub goes_on : FrameVerdict → Bool
goes_on (Proceeds event owed) = true
goes_on RefusesContent = true
goes_on (Faults fault) = false

-- the end takes frames in this phase: not once it is closed or has failed, nor where it awaits the protocol header
abbrev pub takes_frames : Phase → Bool
takes_frames Closed = false
takes_frames Failed = false
takes_frames (Handshake AwaitsProtocolHeader) = false
takes_frames phase = true

-- it takes octets: it is not closed, and has not failed
abbrev pub takes_octets : Phase → Bool
takes_octets Closed = false
takes_octets Failed = false
takes_octets phase = true

-- the end takes this frame: its fields fit, and it is no longer than the limit
pub record CanTake (end : End) (frame : Frame) : Type 0 where
  pub in_phase : takes_frames end.phase ≡ true
  pub fits : Fits frame
  pub within : frame_length frame ≤ frame_limit end.agreed

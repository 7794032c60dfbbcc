-- What a splitter behind a handle does with a piece.
use Rattle.std.specs.Prelude.{◌≡◌, ◌≢◌, ℕ, ◌<◌, ◌≤◌, List, [], length, take, Option, Some, None}
use Rattle.std.specs.Prelude.{Result, Ok, Err, IsOk, IfOk, IfErr, IfSome, IfNone, if◌then◌else◌, nat_eq}
use Rattle.std.specs.Prelude.{◌⊎◌}
use Rattle.amqp_frame.specs.Frame.{lent}
use Rattle.amqp_frame.specs.Splitter.{Completes, Waits, Faults, LacksMemoryIfNeeded, HasFrameAtStart}
use Rattle.amqp_frame.specs.Stream.{Stream}
use Rattle.amqp_frame.specs.declared.faults.FrameFault.{FrameFault}
use Rattle.amqp_frame.specs.declared.faults.FrameFaultKind.{FrameFaultKind}
use Rattle.amqp_frame.specs.declared.faults.FrameFaultKind.TheVariants.{UnknownType, TooLarge, BadEnd, OutOfMemory}
use Rattle.amqp_frame.specs.declared.faults.FrameFaultKind.TheVariants.{Failed}
use Rattle.amqp_frame.specs.declared.frames.FrameKind.TheVariants.{Method, Header, Body, Heartbeat}
use Rattle.amqp_frame.specs.declared.frames.FrameRef.{FrameRef}
use Rattle.amqp_frame.specs.declared.splitting.FedRef.{FedRef}
use Rattle.amqp_handle.specs.declared.held.Held.{Held}
use Rattle.amqp_handle.specs.declared.held.Held.TheVariants.{Splitter, Content}
use Rattle.amqp_calls.specs.declared.splitting.FedFrame.{FedFrame}

-- the fault of a status above 100
abbrev pub frame_fault : ℕ → FrameFaultKind
frame_fault status =
    if nat_eq status 101 then UnknownType
    else if nat_eq status 102 then TooLarge
    else if nat_eq status 103 then BadEnd
    else if nat_eq status 104 then OutOfMemory
    else Failed

-- the frame of a type octet: 0 says that there is none
abbrev pub frame_there : FedFrame → Option FrameRef
frame_there out =
    if nat_eq out.kind 1 then Some (record { kind = Method; channel = out.channel; payload = out.payload })
    else if nat_eq out.kind 2 then Some (record { kind = Header; channel = out.channel; payload = out.payload })
    else if nat_eq out.kind 3 then Some (record { kind = Body; channel = out.channel; payload = out.payload })
    else if nat_eq out.kind 8 then Some (record { kind = Heartbeat; channel = out.channel; payload = out.payload })
    else None

-- the splitter's answer that a status and what stands beside it tell
abbrev pub answer_of : ℕ → FedFrame → Result FedRef FrameFault
answer_of status out =
    if nat_eq status 0 then Ok (record { taken = out.taken; frame = frame_there out })
    else Err (record { at = out.at; kind = frame_fault status })

-- a splitter's answer to a piece
pub record Answers (old : Stream) (piece : List ℕ) (answer : Result FedRef FrameFault) : Type 0 where
  pub frame : IfOk answer (λ fed. IfSome fed.frame (λ f. Completes old (take fed.taken piece) (lent f)))
  pub rest : IfOk answer (λ fed. IfNone fed.frame (Waits old piece fed.taken))
  pub fault : IfErr answer (λ fault. Faults old.fault old piece fault)
  pub memory : IfErr answer (λ fault. LacksMemoryIfNeeded fault.kind old piece)
  pub running : IsOk answer → old.fault ≡ None
  pub within : IfOk answer (λ fed. fed.taken ≤ length piece)
  pub progress : IfOk answer (λ fed. piece ≢ [] → 0 < fed.taken)
  pub in_place : old.fault ≡ None → old.pending ≡ [] → HasFrameAtStart old.limit piece → IsOk answer

-- what the splitter of an open handle answers
abbrev pub AnswersOf : Option Held → List ℕ → Result FedRef FrameFault → Type 0
AnswersOf None piece answer = ⊥
AnswersOf (Some (Splitter s)) piece answer = Answers s piece answer
AnswersOf (Some (Content c)) piece answer = ⊥

-- an open splitter is fed; any other handle is refused
abbrev pub FeedsSplitter : Option Held → List ℕ → ℕ → FedFrame → Type 0
FeedsSplitter None piece status out = status ≡ 1
FeedsSplitter (Some (Splitter s)) piece status out = Answers s piece (answer_of status out)
FeedsSplitter (Some (Content c)) piece status out = status ≡ 3

-- the value of an open splitter meets P; any other handle is refused and stays
abbrev pub OfSplitter : Option Held → (Stream → Type 0) → (status : ℕ) → Type 0
OfSplitter None P status = status ≡ 1
OfSplitter (Some (Splitter s)) P status = P s
OfSplitter (Some (Content c)) P status = status ≡ 3

-- the limit is set: between two frames, and with room for one
abbrev LimitIsSet : Stream → (limit status : ℕ) → (new : Option Held) → Type 0
LimitIsSet s limit status new =
    (status ≡ 0) × (s.pending ≡ []) × (8 ≤ limit) × (new ≡ Some (Splitter (record s { limit = limit })))

-- the limit stays: a frame is begun, or the new one leaves no room for a frame
abbrev LimitStays : Stream → (limit status : ℕ) → (new : Option Held) → Type 0
LimitStays s limit status new =
    (status ≡ 5) × ((s.pending ≢ []) ⊎ (limit < 8)) × (new ≡ Some (Splitter s))

-- a limit is set between two frames, and only one that leaves room for a frame
abbrev pub SetsLimit : Option Held → ℕ → ℕ → Option Held → Type 0
SetsLimit None limit status new = (status ≡ 1) × (new ≡ None)
SetsLimit (Some (Splitter s)) limit status new = LimitIsSet s limit status new ⊎ LimitStays s limit status new
SetsLimit (Some (Content c)) limit status new = (status ≡ 3) × (new ≡ Some (Content c))

-- a splitter as it begins
abbrev new_stream : ℕ → Stream
new_stream limit = record { pending = []; limit = limit; taken = 0; fault = None; taken_to_fault = 0; given = None }

-- a closed handle is opened with a new splitter
abbrev IsOpened : (old : Option Held) → (limit status : ℕ) → (new : Option Held) → Type 0
IsOpened old limit status new =
    (status ≡ 0) × (old ≡ None) × (8 ≤ limit) × (new ≡ Some (Splitter (new_stream limit)))

-- it was open, and stays as it is
abbrev WasOpen : (old : Option Held) → (status : ℕ) → (new : Option Held) → Type 0
WasOpen old status new = (status ≡ 2) × (old ≢ None) × (new ≡ old)

-- memory is refused
abbrev MemoryIsRefused : (old : Option Held) → (status : ℕ) → (new : Option Held) → Type 0
MemoryIsRefused old status new = (status ≡ 4) × (old ≡ None) × (new ≡ old)

-- the limit leaves no room for a frame
abbrev NoRoomForFrame : (old : Option Held) → (limit status : ℕ) → (new : Option Held) → Type 0
NoRoomForFrame old limit status new = (status ≡ 5) × (limit < 8) × (new ≡ old)

-- a closed handle is opened with a new splitter, unless the limit leaves no room for a frame or memory is refused
abbrev pub OpensSplitter : Option Held → ℕ → ℕ → Option Held → Type 0
OpensSplitter old limit status new =
    IsOpened old limit status new
    ⊎ (WasOpen old status new ⊎ (MemoryIsRefused old status new ⊎ NoRoomForFrame old limit status new))

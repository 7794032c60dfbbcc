-- What an end writes reads as what it was made of, and fits its fields: the statements.
use Rattle.std.specs.Prelude.{◌≡◌, ◌<◌, ◌≤◌, ◌^◌, ℕ, List, map, Some, None, Bool}
use Rattle.std.specs.List.{AllByRecursion}
use Rattle.amqp_frame.specs.Frame.{Fits, frame_length}
use Rattle.amqp_frame.specs.Splitting.{AllFit}
use Rattle.amqp_model.specs.Wire.Frame.{Frame}
use Rattle.amqp_model.specs.Wire.Notes.{Role, Server}
use Rattle.amqp_model.specs.Wire.Methods.{Method, Header, ReadsBack, header_at, plain_header}
use Rattle.amqp_model.specs.Wire.Readings.{Reading, reading as reading_of, payload_of}
use Rattle.amqp_model.specs.End.Channels.{End}
use Rattle.amqp_model.specs.History.Negotiation.{Config, FRAME_MIN, start}
use Rattle.amqp_model.specs.End.Closes.{FrameError, AllReadBack, method_frame, frame_of}
use Rattle.amqp_model.specs.End.Events.{Message, Peer, Faults}
use Rattle.amqp_model.specs.End.FrameVerdict.{Facts, verdict_on, methods_put}
use Rattle.amqp_model.specs.End.Asks.{Ask, Send, frame_max, method_asked, payload_frame, message_payloads, Puts}
use Rattle.amqp_model.specs.End.Asks.{ask_verdict}
use Rattle.amqp_model.specs.End.ReadingBack.{AskReadsBack, WritesReadBack}
use Rattle.amqp_model.specs.History.Histories.{History}
use Rattle.amqp_model.specs.End.StateFromHistory.{end_from}
use Rattle.amqp_model.specs.End.LawfulHistories.{Lawful}
use Rattle.amqp_model.specs.End.Machine.{end_after_taken, end_after_put}
use Rattle.amqp_model.specs.End.Fitting.{MethodFits, HeaderFits, ConfigFits, ConfigWrites, AgreedFits, AskFits}
use Rattle.amqp_model.specs.End.Fitting.{HelloFits, config_fault, IfAgreedFits}

-- what is written of a method that fits its fields reads as the method
abbrev pub MethodReadsBack : Type 0
MethodReadsBack =
    (method : Method)
    → MethodFits method → ReadsBack method

-- what is written of a content header that fits its fields reads as the header
abbrev pub HeaderReadsBack : Header → Type 0
HeaderReadsBack header = HeaderFits header → header_at (plain_header header) ≡ Some header

-- What is written of a content header that fits its fields reads as the header.
abbrev pub EveryHeaderReadsBack : Type 0
EveryHeaderReadsBack = (header : Header) → HeaderReadsBack header

-- a configuration that has no fault fits its fields, where its numbers and its hello do
abbrev pub FaultlessConfigFits : Type 0
FaultlessConfigFits =
    (role : Role) (config : Config role)
    → config_fault role config ≡ None → config.channel_max < 2 ^ 16 → config.max_body < 2 ^ 64
    → config.heartbeat < 2 ^ 16 → HelloFits config.hello
    → ConfigFits config

-- A configuration that fits its fields has no fault.
abbrev pub FittingConfigIsFaultless : Type 0
FittingConfigIsFaultless =
    (role : Role) (config : Config role)
    → ConfigFits config → config_fault role config ≡ None

-- what an end says of itself can be written where its configuration fits its fields
abbrev pub FittingConfigWrites : Type 0
FittingConfigWrites =
    (role : Role) (config : Config role)
    → ConfigFits config → ConfigWrites config

-- what is written for an ask reads back, where the ask fits its fields
abbrev pub AskedReadsBack : Type 0
AskedReadsBack =
    (ask : Ask)
    → AskFits ask → AskReadsBack ask

-- what is written of the methods that a verdict puts reads as they are
abbrev pub OwedReadBack : Type 0
OwedReadBack =
    (role : Role) (facts : Facts role) (reading : Reading)
    → ConfigWrites facts.config → AllReadBack (methods_put facts (verdict_on facts reading))

-- what is written of the close that an end puts where a frame is above the limit reads as that close
abbrev pub CloseReadsBack : Type 0
CloseReadsBack =
    (role : Role) (facts : Facts role)
    → AllReadBack (methods_put facts (Faults (Peer FrameError)))

-- each frame of a message that reads back says the payload that it was made of
abbrev pub FramesSayPayloads : Type 0
FramesSayPayloads =
    (max channel : ℕ) (message : Message)
    → AskReadsBack (Send channel message)
    → map (λ (frame : Frame). payload_of (reading_of frame))
    (map (payload_frame channel) (message_payloads max message))
    ≡ message_payloads max message

-- All that an end of a configuration that can be written writes of itself reads back.
abbrev pub AllReadsBack : (role : Role) → Config role → Type 0
AllReadsBack role config = ConfigWrites config → WritesReadBack role config

-- All that an end writes of itself reads back, where its configuration can be written.
abbrev pub EverythingReadsBack : Type 0
EverythingReadsBack = (role : Role) (config : Config role) → AllReadsBack role config

-- the frame of a server's start fits its fields
abbrev pub StartFits : Type 0
StartFits =
    (config : Config Server)
    → ConfigWrites config → Fits (method_frame 0 (start config))

-- the frames of the methods that a verdict puts fit their fields
abbrev pub OwedFit : Type 0
OwedFit =
    (role : Role) (facts : Facts role) (reading : Reading)
    → ConfigWrites facts.config → facts.number < 2 ^ 16
    → AllFit (map frame_of (methods_put facts (verdict_on facts reading)))

-- the frame of the close that an end puts where a frame is above the limit fits its fields
abbrev pub CloseFits : Type 0
CloseFits =
    (role : Role) (facts : Facts role)
    → AllFit (map frame_of (methods_put facts (Faults (Peer FrameError))))

-- the frames that an accepted ask puts fit their fields, where what is written for it reads back
abbrev pub AskedFit : Role → End → Ask → List Frame → Type 0
AskedFit role end ask frames =
    AskReadsBack ask → AgreedFits end.agreed → ask_verdict role end ask ≡ Puts frames → AllFit frames

-- The frames that an accepted ask puts fit their fields.
abbrev pub AllAskedFit : Type 0
AllAskedFit = (role : Role) (end : End) (ask : Ask) (frames : List Frame) → AskedFit role end ask frames

-- no frame has more octets than this
abbrev pub AllWithin : (limit : ℕ) → List Frame → Type 0
AllWithin limit frames = AllByRecursion (λ frame. frame_length frame ≤ limit) frames

-- the frames of the methods that a verdict puts have at most 4096 octets, which every end takes
abbrev pub OwedAreShort : (role : Role) → Facts role → Reading → Type 0
OwedAreShort role facts reading =
    ConfigWrites facts.config → AllWithin FRAME_MIN (map frame_of (methods_put facts (verdict_on facts reading)))

-- The frames that a verdict puts have at most 4096 octets.
abbrev pub AllOwedAreShort : Type 0
AllOwedAreShort = (role : Role) (facts : Facts role) (reading : Reading) → OwedAreShort role facts reading

-- the frame of the close that an end puts where a frame is above the limit has at most 4096 octets
abbrev pub CloseIsShort : (role : Role) → Facts role → Type 0
CloseIsShort role facts = AllWithin FRAME_MIN (map frame_of (methods_put facts (Faults (Peer FrameError))))

-- The frame of the close that an end puts where a frame is above the limit has at most 4096 octets.
abbrev pub EveryCloseIsShort : Type 0
EveryCloseIsShort = (role : Role) (facts : Facts role) → CloseIsShort role facts

-- the frames that an accepted ask puts are no longer than was agreed
abbrev pub AskedAreWithin : Role → End → Ask → List Frame → Type 0
AskedAreWithin role end ask frames =
    AskReadsBack ask → FRAME_MIN ≤ frame_max end.agreed → ask_verdict role end ask ≡ Puts frames
    → AllWithin (frame_max end.agreed) frames

-- The frames that an accepted ask puts are no longer than was agreed.
abbrev pub AllAskedAreWithin : Type 0
AllAskedAreWithin = (role : Role) (end : End) (ask : Ask) (frames : List Frame) → AskedAreWithin role end ask frames

-- what was agreed in a lawful history is within the limits
abbrev pub AgreedIsWithin : Type 0
AgreedIsWithin =
    (role : Role) (config : Config role) (failed : Bool) (history : History)
    → ConfigWrites config → Lawful role config failed history
    → IfAgreedFits (end_from role config failed history).agreed

-- it stays so by each frame that an end takes
abbrev pub AgreedStaysWithin : (role : Role) → Config role → End → Frame → Type 0
AgreedStaysWithin role config end frame =
    ConfigWrites config → IfAgreedFits end.agreed
    → IfAgreedFits (end_after_taken role config end (reading_of frame) frame).agreed

-- What was agreed fits its fields still after each frame that an end takes.
abbrev pub AllAgreedStaysWithin : Type 0
AllAgreedStaysWithin =
    (role : Role) (config : Config role) (end : End) (frame : Frame)
    → AgreedStaysWithin role config end frame

-- and no ask changes it
abbrev pub AskKeepsAgreed : (role : Role) → Config role → End → Ask → List Frame → Type 0
AskKeepsAgreed role config end ask frames =
    ReadsBack (method_asked ask) → ask_verdict role end ask ≡ Puts frames
    → (end_after_put role config frames end).agreed ≡ end.agreed

-- No ask changes what was agreed.
abbrev pub EveryAskKeepsAgreed : Type 0
EveryAskKeepsAgreed =
    (role : Role) (config : Config role) (end : End) (ask : Ask) (frames : List Frame)
    → AskKeepsAgreed role config end ask frames

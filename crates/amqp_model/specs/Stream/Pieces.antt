-- A piece of octets that an end is fed at once. An end is a machine that takes octet by octet (`Endpoint`), and the
-- code of an end gives the whole piece to a splitter (`amqp_frame`): these statements join the two, in the words of the
-- splitter's contract. AMQP 0-9-1 specification, sections 2.3.4, "Delimiting Frames", and 4.2.2, "Protocol Header".
use Rattle.std.specs.Prelude.{◌≡◌, ◌≢◌, ◌+◌, ◌<◌, ◌≤◌, Bool, true, not, ◌&&◌, ℕ, suc}
use Rattle.std.specs.Prelude.{List, [], ◌++◌, length, take, slice_index, All}
use Rattle.amqp_frame.specs.Splitting.{IsRest}
use Rattle.amqp_frame.specs.Stream.{Stream}
use Rattle.amqp_frame.specs.Splitter.{Completes, Waits, FirstFault, place_after}
use Rattle.amqp_frame.specs.declared.faults.FrameFaultKind.{FrameFaultKind}
use Rattle.amqp_frame.specs.declared.faults.FrameFaultKind.TheVariants.{OutOfMemory}
use Rattle.amqp_model.specs.Wire.Frame.{Frame}
use Rattle.amqp_model.specs.Wire.Notes.{Role}
use Rattle.amqp_model.specs.History.Histories.{History}
use Rattle.amqp_model.specs.End.Channels.{Phase}
use Rattle.amqp_model.specs.History.Negotiation.{Config, frame_limit}
use Rattle.amqp_model.specs.End.Asks.{Ask}
use Rattle.amqp_model.specs.End.ReadingBack.{AskReadsBack}
use Rattle.amqp_model.specs.End.EndVerdict.{takes_octets}
use Rattle.amqp_model.specs.Stream.Octets.{opening_read}
use Rattle.amqp_model.specs.Stream.Endpoint.{Whole, Wrong, Same, Differs, Endpoint, Feeding, new_endpoint}
use Rattle.amqp_model.specs.Stream.Endpoint.{awaits_opening, holds_octets, after_opening, after_judged, after_feed}
use Rattle.amqp_model.specs.Stream.Endpoint.{after_ask, after_wrote}
use Rattle.amqp_model.specs.Laws.OctetLaws.{IsOctet, EndpointStandsFor}

-- What is unfinished between two pieces.

-- the octets begin the whole, and are not all of it
abbrev pub IsProperPrefixOf : (prefix whole : List ℕ) → Type 0
IsProperPrefixOf prefix whole = (missing : List ℕ) × (missing ≢ []) × (whole ≡ prefix ++ missing)

-- the end reads frames: it is not closed, has not failed, and awaits no protocol header
abbrev pub reads_frames : Role → Phase → Bool
reads_frames role phase = takes_octets phase && not (awaits_opening role phase)

-- octets of which no prefix is a frame, and which show no fault
pub record AreBegun (limit : ℕ) (xs : List ℕ) : Type 0 where
  pub are_octets : All IsOctet xs
  pub rest : IsRest limit xs

-- The unfinished octets of an end: of the protocol header, where that is awaited, and of one frame, where frames are
-- read.
pub record HoldsUnfinished (role : Role) (endpoint : Endpoint) : Type 0 where
  pub of_opening :
      awaits_opening role endpoint.end.phase ≡ true → IsProperPrefixOf endpoint.unfinished (opening_read role)
  pub of_frame :
      reads_frames role endpoint.end.phase ≡ true → AreBegun (frame_limit endpoint.end.agreed) endpoint.unfinished

-- A new end has no unfinished octets.
abbrev pub NewHolds : Type 0
NewHolds =
    (role : Role)
    → HoldsUnfinished role (new_endpoint role)

-- The unfinished octets of an end that stands for a history are of the protocol header or of one frame.
abbrev pub StandsHolds : Type 0
StandsHolds =
    (role : Role) (config : Config role) (endpoint : Endpoint) (history : History) (fed written : List ℕ)
    → EndpointStandsFor role config endpoint history fed written → HoldsUnfinished role endpoint

-- and so is what it holds after a piece, an ask and a write
abbrev pub FeedHolds : (role : Role) → Config role → Endpoint → (piece : List ℕ) → Type 0
FeedHolds role config endpoint piece =
    HoldsUnfinished role endpoint → All IsOctet piece
    → HoldsUnfinished role (after_feed role config endpoint piece).endpoint

-- The unfinished octets are held on after a piece.
abbrev pub EveryFeedHolds : Type 0
EveryFeedHolds =
    (role : Role) (config : Config role) (endpoint : Endpoint) (piece : List ℕ)
    → FeedHolds role config endpoint piece

abbrev pub AskHolds : (role : Role) → Config role → Endpoint → Ask → Type 0
AskHolds role config endpoint ask =
    HoldsUnfinished role endpoint → AskReadsBack ask → HoldsUnfinished role (after_ask role config endpoint ask)

-- The unfinished octets are held on after an ask.
abbrev pub EveryAskHolds : Type 0
EveryAskHolds =
    (role : Role) (config : Config role) (endpoint : Endpoint) (ask : Ask)
    → AskHolds role config endpoint ask

-- The unfinished octets are held on after a write.
abbrev pub WroteHolds : Type 0
WroteHolds =
    (role : Role) (endpoint : Endpoint) (n : ℕ)
    → HoldsUnfinished role endpoint → HoldsUnfinished role (after_wrote n endpoint)

-- A piece, where frames are read.

-- the same, with so many octets of a piece taken
abbrev pub with_taken : ℕ → Feeding → Feeding
with_taken taken feeding = record { endpoint = feeding.endpoint; taken = taken; outcome = feeding.outcome }

-- a splitter's pending octets are the end's unfinished ones, and its limit is that of the end's frames
pub record SplitsFor (endpoint : Endpoint) (stream : Stream) : Type 0 where
  pub pending : stream.pending ≡ endpoint.unfinished
  pub limit : stream.limit ≡ frame_limit endpoint.end.agreed

-- an end that reads frames, and a splitter between two pieces of octets
pub record IsFedBy (role : Role) (endpoint : Endpoint) (stream : Stream) (piece : List ℕ) : Type 0 where
  pub reads : reads_frames role endpoint.end.phase ≡ true
  pub holds : HoldsUnfinished role endpoint
  pub splits : SplitsFor endpoint stream
  pub are_octets : All IsOctet piece

-- the unfinished octets and those taken of the piece are a whole frame: the end does what that frame asks
abbrev pub FeedGivesFrame : (role : Role) → Config role → Endpoint → Stream → (piece : List ℕ)
    → (taken : ℕ) → Frame → Type 0
FeedGivesFrame role config endpoint stream piece taken frame =
    IsFedBy role endpoint stream piece → taken ≤ length piece → Completes stream (take taken piece) frame
    → after_feed role config endpoint piece
    ≡ with_taken taken (after_judged role config endpoint (endpoint.unfinished ++ take taken piece) (Whole frame))

-- Where the unfinished octets and those of a piece are a whole frame, the end does what that frame asks.
abbrev pub EveryFeedGivesFrame : Type 0
EveryFeedGivesFrame =
    (role : Role) (config : Config role) (endpoint : Endpoint) (stream : Stream) (piece : List ℕ) (taken : ℕ)
    (frame : Frame)
    → FeedGivesFrame role config endpoint stream piece taken frame

-- the unfinished octets and the piece are still no frame, and show no fault: all of the piece is taken, and nothing
-- comes
abbrev pub FeedWaits : (role : Role) → Config role → Endpoint → Stream → (piece : List ℕ)
    → (taken : ℕ) → Type 0
FeedWaits role config endpoint stream piece taken =
    IsFedBy role endpoint stream piece → Waits stream piece taken
    → after_feed role config endpoint piece
    ≡ with_taken taken (holds_octets endpoint (endpoint.unfinished ++ piece))

-- Where the unfinished octets and a piece are no whole frame and show no fault, nothing comes of the piece.
abbrev pub EveryFeedWaits : Type 0
EveryFeedWaits =
    (role : Role) (config : Config role) (endpoint : Endpoint) (stream : Stream) (piece : List ℕ) (taken : ℕ)
    → FeedWaits role config endpoint stream piece taken

-- An octet of the piece shows a fault, so many octets after the piece's first: it is the last that is taken. The place
-- at which the splitter reports the fault is that of this octet.
pub record FaultFed (role : Role) (config : Config role) (endpoint : Endpoint) (stream : Stream) (piece : List ℕ)
    (kind : FrameFaultKind) (at : ℕ) : Type 0 where
  pub before : ℕ
  pub within : before < length piece
  pub at_is : at ≡ place_after stream.taken before
  pub fed :
      after_feed role config endpoint piece
      ≡ with_taken (suc before) (after_judged role config endpoint (endpoint.unfinished ++ take (suc before) piece)
      (Wrong kind))

abbrev pub FeedFindsFault : (role : Role) → Config role → Endpoint → Stream
    → (piece : List ℕ) → FrameFaultKind → (at : ℕ) → Type 0
FeedFindsFault role config endpoint stream piece kind at =
    IsFedBy role endpoint stream piece → kind ≢ OutOfMemory → FirstFault stream piece kind at
    → FaultFed role config endpoint stream piece kind at

-- Where the unfinished octets and a piece show a fault, the end finds the first one.
abbrev pub EveryFeedFindsFault : Type 0
EveryFeedFindsFault =
    (role : Role) (config : Config role) (endpoint : Endpoint) (stream : Stream) (piece : List ℕ)
    (kind : FrameFaultKind) (at : ℕ)
    → FeedFindsFault role config endpoint stream piece kind at

-- A piece, where a server awaits the protocol header.

-- the unfinished octets and the piece begin the header
abbrev pub FeedBeginsOpening : (role : Role) → Config role → Endpoint → (piece : List ℕ) → Type 0
FeedBeginsOpening role config endpoint piece =
    awaits_opening role endpoint.end.phase ≡ true
    → IsProperPrefixOf (endpoint.unfinished ++ piece) (opening_read role)
    → after_feed role config endpoint piece ≡ with_taken (length piece)
    (holds_octets endpoint (endpoint.unfinished ++ piece))

-- A piece that begins the rest of the protocol header is taken whole.
abbrev pub EveryFeedBeginsOpening : Type 0
EveryFeedBeginsOpening =
    (role : Role) (config : Config role) (endpoint : Endpoint) (piece : List ℕ)
    → FeedBeginsOpening role config endpoint piece

-- with so many octets of the piece they are the header
abbrev pub FeedEndsOpening : (role : Role) → Config role → Endpoint → (piece : List ℕ)
    → (taken : ℕ) → Type 0
FeedEndsOpening role config endpoint piece taken =
    awaits_opening role endpoint.end.phase ≡ true → HoldsUnfinished role endpoint
    → taken ≤ length piece → endpoint.unfinished ++ take taken piece ≡ opening_read role
    → after_feed role config endpoint piece
    ≡ with_taken taken (after_opening role config endpoint (endpoint.unfinished ++ take taken piece) Same)

-- A piece that has the rest of the protocol header ends it.
abbrev pub EveryFeedEndsOpening : Type 0
EveryFeedEndsOpening =
    (role : Role) (config : Config role) (endpoint : Endpoint) (piece : List ℕ) (taken : ℕ)
    → FeedEndsOpening role config endpoint piece taken

-- they begin it up to an octet of the piece that differs
abbrev pub FeedLeavesOpening : (role : Role) → Config role → Endpoint → (piece : List ℕ)
    → (before : ℕ) → Type 0
FeedLeavesOpening role config endpoint piece before =
    awaits_opening role endpoint.end.phase ≡ true
    → before < length piece → IsProperPrefixOf (endpoint.unfinished ++ take before piece) (opening_read role)
    → slice_index piece before ≢ slice_index (opening_read role) (length endpoint.unfinished + before)
    → after_feed role config endpoint piece
    ≡ with_taken (suc before) (after_opening role config endpoint
    (endpoint.unfinished ++ take (suc before) piece) Differs)

-- A piece that differs from the protocol header is taken up to the octet that differs.
abbrev pub EveryFeedLeavesOpening : Type 0
EveryFeedLeavesOpening =
    (role : Role) (config : Config role) (endpoint : Endpoint) (piece : List ℕ) (before : ℕ)
    → FeedLeavesOpening role config endpoint piece before

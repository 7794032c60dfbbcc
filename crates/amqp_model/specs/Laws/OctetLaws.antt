-- What holds of one end, octet by octet: the statements that the public laws carry.
use Rattle.std.specs.Prelude.{◌≡◌, ◌≢◌, ℕ, ◌+◌, ◌^◌, ◌<◌, ◌≤◌, true, false, not, List}
use Rattle.std.specs.Prelude.{[], ◌∷◌, ◌++◌, length, map, take, Option, Some, All}
use Rattle.amqp_frame.specs.declared.faults.FrameFaultKind.{FrameFaultKind}
use Rattle.amqp_frame.specs.Frame.{octets, Fits, frame_length}
use Rattle.amqp_frame.specs.Splitting.{AllFit, IsRest, TellsFirst}
use Rattle.amqp_model.specs.Wire.Frame.{Frame}
use Rattle.amqp_model.specs.Wire.Notes.{Role}
use Rattle.amqp_model.specs.History.Histories.{History}
use Rattle.amqp_model.specs.End.Channels.{Closed, Failed, End}
use Rattle.amqp_model.specs.History.Negotiation.{Config, PROTOCOL_HEADER, frame_limit}
use Rattle.amqp_model.specs.End.Closes.{frame_of}
use Rattle.amqp_model.specs.End.Events.{Event, Quiet, Fault, WrongProtocolHeader, AlreadyClosed, AlreadyFailed, Faults}
use Rattle.amqp_model.specs.End.FrameVerdict.{event_told}
use Rattle.amqp_model.specs.End.Asks.{Ask, Refusal, is_made, Refused, Puts, ask_verdict}
use Rattle.amqp_model.specs.Output.Outputs.{output_octets}
use Rattle.amqp_model.specs.Output.Departures.{IsOutputOf}
use Rattle.amqp_model.specs.End.Fitting.{ConfigWrites}
use Rattle.amqp_model.specs.End.EndVerdict.{facts_at, end_verdict, goes_on, takes_frames}
use Rattle.amqp_model.specs.End.ReadingBack.{AskReadsBack}
use Rattle.amqp_model.specs.End.LawfulHistories.{Lawful, then_put, then_taken}
use Rattle.amqp_model.specs.End.Machine.{StandsFor}
use Rattle.amqp_model.specs.Stream.Octets.{frames_put, opening_written, has_opened, FedAs, FailedAt}
use Rattle.amqp_model.specs.Stream.Endpoint.{Judgement, Begun, Whole, Wrong, judged, Endpoint, Feeding, Unfinished}
use Rattle.amqp_model.specs.Stream.Endpoint.{Finished, Found, new_endpoint, awaits_opening, owed_at_start, fault_told}
use Rattle.amqp_model.specs.Stream.Endpoint.{owed_at_fault, after_octet, after_feed, after_ask, after_wrote}

-- a number of eight bits
abbrev pub IsOctet : ℕ → Type 0
IsOctet octet = octet < 2 ^ 8

-- What octets are.

-- the octets are those of the frame, which is no longer than the limit
pub record IsWhole (limit : ℕ) (xs : List ℕ) (frame : Frame) : Type 0 where
  pub is_frame : xs ≡ octets frame
  pub fits : Fits frame
  pub within : frame_length frame ≤ limit

-- the last of the octets is the first that shows the fault
pub record TellsLast (limit : ℕ) (xs : List ℕ) (kind : FrameFaultKind) : Type 0 where
  pub place : ℕ
  pub last : length xs ≡ place + 1
  pub told : TellsFirst limit xs kind place

-- octets are what they are judged to be: a frame begun that shows no fault, a whole frame, or octets whose last shows a
-- fault
abbrev pub IsJudgedWell : (limit : ℕ) → List ℕ → Judgement → Type 0
IsJudgedWell limit xs Begun = IsRest limit xs
IsJudgedWell limit xs (Whole frame) = IsWhole limit xs frame
IsJudgedWell limit xs (Wrong kind) = TellsLast limit xs kind

-- a rest with one more octet is what it is judged to be
abbrev pub JudgedIsSaid : Type 0
JudgedIsSaid =
    (limit : ℕ) (prefix : List ℕ) (octet : ℕ)
    → All IsOctet (prefix ++ octet ∷ []) → IsRest limit prefix
    → IsJudgedWell limit (prefix ++ octet ∷ []) (judged limit (prefix ++ octet ∷ []))

-- there is exactly one thing that octets can be judged to be
abbrev pub OneIsSaid : Type 0
OneIsSaid =
    (limit : ℕ) (xs : List ℕ) (one other : Judgement) → IsJudgedWell limit xs one → IsJudgedWell limit xs other
    → one ≡ other

-- How a piece may be cut.

-- what is left by two pieces, of which the second was fed after the first
abbrev pub then_fed : (first later : Feeding) → Feeding
then_fed first later = record { endpoint = later.endpoint; taken = first.taken + later.taken; outcome = later.outcome }

-- where nothing comes of the first piece, the second is fed after it
abbrev pub CutGoesOn : (role : Role) → Config role → Endpoint → (p q : List ℕ) → Type 0
CutGoesOn role config endpoint p q =
    (after_feed role config endpoint p).outcome ≡ Unfinished
    → after_feed role config endpoint (p ++ q)
    ≡ then_fed (after_feed role config endpoint p)
    (after_feed role config (after_feed role config endpoint p).endpoint q)

-- Where nothing comes of a first piece, the two come to what the second comes to after it.
abbrev pub EveryCutGoesOn : Type 0
EveryCutGoesOn =
    (role : Role) (config : Config role) (endpoint : Endpoint) (p q : List ℕ)
    → CutGoesOn role config endpoint p q

-- where something comes of the first piece, it does not matter what stands after it
abbrev pub CutStops : (role : Role) → Config role → Endpoint → (p q : List ℕ) → Type 0
CutStops role config endpoint p q =
    (after_feed role config endpoint p).outcome ≢ Unfinished
    → after_feed role config endpoint (p ++ q) ≡ after_feed role config endpoint p

-- Where something comes of a first piece, what stands after it changes nothing.
abbrev pub EveryCutStops : Type 0
EveryCutStops =
    (role : Role) (config : Config role) (endpoint : Endpoint) (p q : List ℕ)
    → CutStops role config endpoint p q

-- a piece that has octets loses one, unless the end is closed or has failed
abbrev pub FeedProgresses : Type 0
FeedProgresses =
    (role : Role) (config : Config role) (endpoint : Endpoint) (piece : List ℕ)
    → endpoint.end.phase ≢ Closed → endpoint.end.phase ≢ Failed → piece ≢ []
    → 0 < (after_feed role config endpoint piece).taken

-- no more octets are taken than the piece has
abbrev pub FeedTakesWithin : (role : Role) → Config role → Endpoint → (piece : List ℕ) → Type 0
FeedTakesWithin role config endpoint piece = (after_feed role config endpoint piece).taken ≤ length piece

-- No more octets are taken than a piece has.
abbrev pub EveryFeedTakesWithin : Type 0
EveryFeedTakesWithin =
    (role : Role) (config : Config role) (endpoint : Endpoint) (piece : List ℕ)
    → FeedTakesWithin role config endpoint piece

-- where nothing came of the piece, all of it was taken
abbrev pub FeedTakesAll : (role : Role) → Config role → Endpoint → (piece : List ℕ) → Type 0
FeedTakesAll role config endpoint piece =
    (after_feed role config endpoint piece).outcome ≡ Unfinished
    → (after_feed role config endpoint piece).taken ≡ length piece

-- Where nothing comes of a piece all of it is taken.
abbrev pub EveryFeedTakesAll : Type 0
EveryFeedTakesAll =
    (role : Role) (config : Config role) (endpoint : Endpoint) (piece : List ℕ)
    → FeedTakesAll role config endpoint piece

-- an end that takes nothing stays as it is, and says why
abbrev pub nothing_taken : Endpoint → Fault → Feeding
nothing_taken endpoint fault = record { endpoint = endpoint; taken = 0; outcome = Found fault }

-- an end that is closed takes nothing, and says so
abbrev pub FeedStaysClosed : (role : Role) → Config role → Endpoint → (piece : List ℕ) → Type 0
FeedStaysClosed role config endpoint piece =
    endpoint.end.phase ≡ Closed → after_feed role config endpoint piece ≡ nothing_taken endpoint AlreadyClosed

-- An end that is closed takes nothing of a piece, and stays as it is.
abbrev pub EveryClosedStaysClosed : Type 0
EveryClosedStaysClosed =
    (role : Role) (config : Config role) (endpoint : Endpoint) (piece : List ℕ)
    → FeedStaysClosed role config endpoint piece

-- and so does one that has failed
abbrev pub FeedStaysFailed : (role : Role) → Config role → Endpoint → (piece : List ℕ) → Type 0
FeedStaysFailed role config endpoint piece =
    endpoint.end.phase ≡ Failed → after_feed role config endpoint piece ≡ nothing_taken endpoint AlreadyFailed

-- An end that has failed takes nothing of a piece, and stays as it is.
abbrev pub EveryFailedStaysFailed : Type 0
EveryFailedStaysFailed =
    (role : Role) (config : Config role) (endpoint : Endpoint) (piece : List ℕ)
    → FeedStaysFailed role config endpoint piece

-- What an end stands for.

-- An end that has not failed: its record stands for its history, which is lawful, its unfinished octets are what was
-- fed after the frames taken, and its output is what was put and not written.
pub record EndpointStandsFor (role : Role) (config : Config role) (endpoint : Endpoint) (history : History)
    (fed written : List ℕ) : Type 0 where
  pub lawful : Lawful role config false history
  pub stands : StandsFor role config false endpoint.end history
  -- it awaits the protocol header until that was read
  pub opens : awaits_opening role endpoint.end.phase ≡ not (has_opened role history)
  pub are_octets : All IsOctet fed
  pub read : FedAs role (frame_limit endpoint.end.agreed) history fed endpoint.unfinished
  pub out : IsOutputOf (opening_written role) (frames_put history) written endpoint.output

-- An end that has failed: its record stands for its history, which is lawful; what it was fed shows why at its last
-- octet; and its output is what was put and not written, after these octets.
pub record HasFailed (role : Role) (config : Config role) (limit : ℕ) (opening : List ℕ)
    (history : History) (fed written : List ℕ) (endpoint : Endpoint) : Type 0 where
  pub lawful : Lawful role config true history
  pub stands : StandsFor role config true endpoint.end history
  pub read : FailedAt role limit history fed
  pub out : IsOutputOf opening (frames_put history) written endpoint.output

-- what is written for an ask reads back, and its frames fit their fields
pub record AskWrites (ask : Ask) (frames : List Frame) : Type 0 where
  pub reads_back : AskReadsBack ask
  pub fit : AllFit frames

-- What becomes of an end that stands for a history.

-- these octets, and those that are taken of a piece after them
abbrev with_taken_of : (piece : List ℕ) → Feeding → (octets : List ℕ) → List ℕ
with_taken_of piece new octets = octets ++ take new.taken piece

-- what the feeding leaves stands for such a history
abbrev pub StandsThen : (role : Role) → Config role → History
    → (fed written piece : List ℕ) → Feeding → Type 0
StandsThen role config history fed written piece new =
    EndpointStandsFor role config new.endpoint history (with_taken_of piece new fed) written

-- it has failed with such a history, by the limit on frames that held before
abbrev pub HasFailedThen :
    (role : Role) → Config role → Endpoint → (opening : List ℕ) → History
    → (fed written piece : List ℕ) → Feeding → Type 0
HasFailedThen role config old opening history fed written piece new =
    HasFailed role config (frame_limit old.end.agreed) opening history
    (with_taken_of piece new fed) written new.endpoint

-- the octets that were unfinished, with those taken, are this whole frame
abbrev pub CompletesFrame : Endpoint → (piece : List ℕ) → Feeding → Frame → Type 0
CompletesFrame old piece new frame = IsWhole (frame_limit old.end.agreed) (with_taken_of piece new old.unfinished) frame

-- the last of them is the first that shows this fault
abbrev pub ShowsFault : Endpoint → (piece : List ℕ) → Feeding → FrameFaultKind → Type 0
ShowsFault old piece new kind = TellsLast (frame_limit old.end.agreed) (with_taken_of piece new old.unfinished) kind

-- the event of a frame that an end takes
abbrev pub event_of_frame : {role : Role} → Config role → End → Frame → Option Event
event_of_frame config end frame = event_told (facts_at config end frame.channel) (end_verdict config end frame)

-- What comes of a piece that is fed: the history that follows, and what the end stands for then, with the octets taken.
pub data Follows (role : Role) (config : Config role) (old : Endpoint) (history : History)
    (fed written piece : List ℕ)
    (new : Feeding) : Type 0 where
  -- nothing is whole yet, and the history is what it was
  waits :
      new.outcome ≡ Unfinished → StandsThen role config history fed written piece new
      → Follows role config old history fed written piece new
  -- the protocol header is whole, and start is put
  greets : awaits_opening role old.end.phase ≡ true → history ≡ [] → new.outcome ≡ Finished (Some Quiet)
      → StandsThen role config (then_put (map frame_of (owed_at_start role config)) history) fed written piece new
      → Follows role config old history fed written piece new
  -- a frame is whole and taken, and the end goes on
  takes : (frame : Frame) → takes_frames old.end.phase ≡ true → CompletesFrame old piece new frame
      → goes_on (end_verdict config old.end frame) ≡ true
      → new.outcome ≡ Finished (event_of_frame config old.end frame)
      → StandsThen role config (then_taken config old.end frame history) fed written piece new
      → Follows role config old history fed written piece new
  -- a frame is whole and taken, and the end finds fault with it
  faults : (frame : Frame) (fault : Fault) → takes_frames old.end.phase ≡ true
      → CompletesFrame old piece new frame
      → end_verdict config old.end frame ≡ Faults fault → new.outcome ≡ Found fault
      → HasFailedThen role config old (opening_written role)
      (then_taken config old.end frame history) fed written piece new
      → Follows role config old history fed written piece new
  -- the octets that are no whole frame show a fault
  tells :
      (kind : FrameFaultKind) → takes_frames old.end.phase ≡ true → ShowsFault old piece new kind
      → new.outcome ≡ Found (fault_told kind)
      → HasFailedThen role config old (opening_written role)
      (then_put (map frame_of (owed_at_fault config old.end kind)) history) fed written piece new
      → Follows role config old history fed written piece new
  -- an octet is not the protocol header's, and nothing was put yet
  differs : awaits_opening role old.end.phase ≡ true → new.outcome ≡ Found WrongProtocolHeader
      → HasFailedThen role config old PROTOCOL_HEADER history fed written piece new
      → Follows role config old history fed written piece new
  -- the connection is closed, and nothing is taken
  refuses :
      old.end.phase ≡ Closed → new ≡ nothing_taken old AlreadyClosed
      → Follows role config old history fed written piece new

-- a new end stands for nothing put or taken, fed or written
abbrev pub NewStands : (role : Role) → Config role → Type 0
NewStands role config = EndpointStandsFor role config (new_endpoint role) [] [] []

-- an octet is fed to an end that stands for a history
abbrev pub OctetFollows : Type 0
OctetFollows =
    (role : Role) (config : Config role) (endpoint : Endpoint) (history : History)
    (fed written : List ℕ) (octet : ℕ)
    → EndpointStandsFor role config endpoint history fed written → IsOctet octet → ConfigWrites config
    → Follows role config endpoint history fed written (octet ∷ []) (after_octet role config endpoint octet)

-- a piece of octets is fed to it, in which something comes at the last octet taken, if at all
abbrev pub FeedFollows : (role : Role) → Config role → Endpoint → History
    → (fed written piece : List ℕ) → Type 0
FeedFollows role config endpoint history fed written piece =
    EndpointStandsFor role config endpoint history fed written → All IsOctet piece → ConfigWrites config
    → Follows role config endpoint history fed written piece (after_feed role config endpoint piece)

-- After a piece an end stands for the history that follows, or has failed with it.
abbrev pub EveryFeedFollows : Type 0
EveryFeedFollows =
    (role : Role) (config : Config role) (endpoint : Endpoint) (history : History) (fed written piece : List ℕ)
    → FeedFollows role config endpoint history fed written piece

-- an ask is accepted: the end stands for its history with the frames put
abbrev pub AcceptedFollows : (role : Role) → Config role → Endpoint → History → (fed written : List ℕ) → Ask
    → List Frame → Type 0
AcceptedFollows role config endpoint history fed written ask frames =
    EndpointStandsFor role config endpoint history fed written
    → AskWrites ask frames → is_made ask ≡ true → ask_verdict role endpoint.end ask ≡ Puts frames
    → EndpointStandsFor role config (after_ask role config endpoint ask) (then_put frames history) fed written

-- After an accepted ask an end stands for its history with the frames put.
abbrev pub EveryAcceptedAskFollows : Type 0
EveryAcceptedAskFollows =
    (role : Role) (config : Config role) (endpoint : Endpoint) (history : History) (fed written : List ℕ) (ask : Ask)
    (frames : List Frame)
    → AcceptedFollows role config endpoint history fed written ask frames

-- an ask is refused: nothing changes
abbrev pub RefusedStays : Type 0
RefusedStays =
    (role : Role) (config : Config role) (endpoint : Endpoint) (ask : Ask) (refusal : Refusal)
    → ask_verdict role endpoint.end ask ≡ Refused refusal → after_ask role config endpoint ask ≡ endpoint

-- some octets of the output are written, or all of them: the end stands for what was written and these
abbrev pub WroteFollows : (role : Role) → Config role → Endpoint → History
    → (fed written : List ℕ) → (n : ℕ) → Type 0
WroteFollows role config endpoint history fed written n =
    EndpointStandsFor role config endpoint history fed written → n ≤ length (output_octets endpoint.output)
    → EndpointStandsFor role config (after_wrote n endpoint) history fed
    (written ++ take n (output_octets endpoint.output))

-- After a write an end stands for its history, with the octets written.
abbrev pub EveryWriteFollows : Type 0
EveryWriteFollows =
    (role : Role) (config : Config role) (endpoint : Endpoint) (history : History) (fed written : List ℕ) (n : ℕ)
    → WroteFollows role config endpoint history fed written n

-- the same of an end that has failed, whose close is still to be written
abbrev pub FailedWrites :
    (role : Role) → Config role → (limit : ℕ) → (opening : List ℕ) → History
    → (fed written : List ℕ) → Endpoint → (n : ℕ) → Type 0
FailedWrites role config limit opening history fed written endpoint n =
    HasFailed role config limit opening history fed written endpoint → n ≤ length (output_octets endpoint.output)
    → HasFailed role config limit opening history fed (written ++ take n (output_octets endpoint.output))
    (after_wrote n endpoint)

-- An end that has failed writes on what it has put.
abbrev pub EveryFailedEndWrites : Type 0
EveryFailedEndWrites =
    (role : Role) (config : Config role) (limit : ℕ) (opening : List ℕ) (history : History) (fed written : List ℕ)
    (endpoint : Endpoint) (n : ℕ)
    → FailedWrites role config limit opening history fed written endpoint n

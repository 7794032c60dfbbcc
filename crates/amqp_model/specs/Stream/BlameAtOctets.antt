-- What is told of the octet at which an end finds fault: the protocol header's that differs, the one that shows a frame
-- too long, of a type that there isn't or with a wrong end, or the last octet of a frame that breaks a rule. AMQP 0-9-1
-- specification, sections 2.3.4, 4.2.2 and 4.2.3. The octet is the last that the end takes: so much for its place.
use Rattle.std.specs.Prelude.{Bool, true, false, ℕ, List, [], ◌∷◌, ◌++◌, Option, Some, None}
use Rattle.amqp_frame.specs.Judged.{channel_in}
use Rattle.amqp_frame.specs.declared.faults.FrameFaultKind.{FrameFaultKind}
use Rattle.amqp_frame.specs.declared.faults.FrameFaultKind.TheVariants.{UnknownType, TooLarge, BadEnd, OutOfMemory}
use Rattle.amqp_frame.specs.declared.faults.FrameFaultKind.TheVariants.{Failed}
use Rattle.amqp_model.specs.Wire.Notes.{Role}
use Rattle.amqp_model.specs.End.Channels.{End}
use Rattle.amqp_model.specs.History.Negotiation.{Config, frame_limit}
use Rattle.amqp_model.specs.End.EndVerdict.{facts_at}
use Rattle.amqp_model.specs.Stream.Octets.{opening_read}
use Rattle.amqp_model.specs.Stream.Endpoint.{Judgement, Begun, Whole, Wrong, judged, Comparison, Prefix, Same, Differs}
use Rattle.amqp_model.specs.Stream.Endpoint.{compared, Endpoint, Outcome, Unfinished, awaits_opening, after_octet}
use Rattle.amqp_model.specs.End.Blame.{Rule, FrameTooLarge, FrameTypeUnknown, FrameEndWrong, ProtocolHeaderWrong, Blame}
use Rattle.amqp_model.specs.End.Blame.{blame_on}

abbrev only : Rule → (channel : Option ℕ) → Option Blame
only rule channel = Some (record { rule = rule; channel = channel; called = None; field = None })

-- octets that are no frame: of a type that there isn't no channel is read
abbrev pub blame_of_octets : FrameFaultKind → (octets : List ℕ) → Option Blame
blame_of_octets TooLarge octets = only FrameTooLarge (Some (channel_in octets))
blame_of_octets BadEnd octets = only FrameEndWrong (Some (channel_in octets))
blame_of_octets UnknownType octets = only FrameTypeUnknown None
blame_of_octets OutOfMemory octets = None
blame_of_octets Failed octets = None

abbrev pub blame_of_opening : Comparison → Option Blame
blame_of_opening Differs = only ProtocolHeaderWrong None
blame_of_opening Prefix = None
blame_of_opening Same = None

abbrev pub blame_of_judged : {role : Role} → Config role → End → (octets : List ℕ)
    → Judgement → Option Blame
blame_of_judged config end octets Begun = None
blame_of_judged config end octets (Whole frame) = blame_on (facts_at config end frame.channel) frame
blame_of_judged config end octets (Wrong kind) = blame_of_octets kind octets

-- the octets that are not whole yet, with one more
abbrev pub blame_of_next : (role : Role) → Config role → End → (octets : List ℕ)
    → (awaits : Bool) → Option Blame
blame_of_next role config end octets true = blame_of_opening (compared octets (opening_read role))
blame_of_next role config end octets false = blame_of_judged config end octets (judged (frame_limit end.agreed) octets)

-- the next octet, fed to an end that is neither closed nor failed
abbrev pub blame_at_octet : (role : Role) → Config role → Endpoint → (octet : ℕ) → Option Blame
blame_at_octet role config endpoint octet =
    blame_of_next role config endpoint.end (endpoint.unfinished ++ octet ∷ [])
    (awaits_opening role endpoint.end.phase)

-- the octets after the first are looked at where nothing came of that one
abbrev pub blame_then : Outcome → (first later : Option Blame) → Option Blame
blame_then Unfinished first later = later
blame_then outcome first later = first

-- a piece, up to where something comes
abbrev pub blame_in_feed : (role : Role) → Config role → Endpoint → (piece : List ℕ) → Option Blame
blame_in_feed role config endpoint [] = None
blame_in_feed role config endpoint (octet ∷ later) =
    blame_then (after_octet role config endpoint octet).outcome (blame_at_octet role config endpoint octet)
    (blame_in_feed role config (after_octet role config endpoint octet).endpoint later)

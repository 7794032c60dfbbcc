-- One end of a connection, octet by octet: what it keeps, and what becomes of it by the next octet, by a piece of
-- octets, by an ask and by a write. AMQP 0-9-1 specification, sections 2.3.4, "Delimiting Frames", 4.2.2, "Protocol
-- Header", and 4.2.3, "General Frame Format".
use Rattle.std.specs.Prelude.{Bool, true, false, cond, ℕ, suc, ◌==◌, List, [], ◌∷◌, ◌++◌, map, Option}
use Rattle.std.specs.Prelude.{Some, None}
use Rattle.amqp_frame.specs.declared.faults.FrameFaultKind.{FrameFaultKind}
use Rattle.amqp_frame.specs.declared.faults.FrameFaultKind.TheVariants.{TooLarge}
use Rattle.amqp_model.specs.Wire.Frame.{Frame}
use Rattle.amqp_model.specs.Wire.Notes.{Role, Client, Server}
use Rattle.amqp_model.specs.Wire.Readings.{reading}
use Rattle.amqp_model.specs.End.Channels.{Phase, Handshake, Closed, Failed, AwaitsProtocolHeader, End}
use Rattle.amqp_model.specs.History.Negotiation.{Config, PROTOCOL_HEADER, frame_limit, start}
use Rattle.amqp_model.specs.End.Closes.{FrameError, Owed, frame_of}
use Rattle.amqp_model.specs.End.Events.{Event, Quiet, Fault, Peer, Fatal, WrongProtocolHeader, AlreadyClosed}
use Rattle.amqp_model.specs.End.Events.{AlreadyFailed, FrameVerdict, Faults}
use Rattle.amqp_model.specs.End.FrameVerdict.{Facts, on_zero, methods_put, event_told}
use Rattle.amqp_model.specs.End.Asks.{Ask, AskVerdict, Refused, Puts, ask_verdict}
use Rattle.amqp_model.specs.End.Controls.{Control, control_verdict}
use Rattle.amqp_model.specs.Output.Outputs.{Output, after_puts, after_writing}
use Rattle.amqp_model.specs.End.EndVerdict.{facts_at, end_verdict, end_puts}
use Rattle.amqp_model.specs.End.Machine.{end_after_owed, end_after_put, end_after_taken, failed_by, new_end}
use Rattle.amqp_model.specs.Stream.Octets.{opening_read, opening_written}
-- What octets are: a frame begun, a whole frame, or octets of which the last shows a fault. Those who read of an end
-- read of it here.
pub use Rattle.amqp_frame.specs.Judged.{Judgement, Begun, Whole, Wrong, kind_of_type, frame_in, judged_by_end}
pub use Rattle.amqp_frame.specs.Judged.{judged_by_size, judged_by_type, judged}

-- Octets beside those that are wanted.

-- a shorter prefix of these, the same, or octets that differ
pub data Comparison : Type 0 where
  Prefix Same Differs : Comparison

-- the octets, compared one by one
abbrev pub compared : (octets wanted : List ℕ) → Comparison
compared [] [] = Same
compared [] (next ∷ later) = Prefix
compared (octet ∷ octets) [] = Differs
compared (octet ∷ octets) (next ∷ later) = cond (octet == next) (compared octets later) Differs

-- What an end keeps.

pub record Endpoint : Type 0 where
  pub end : End
  -- the octets fed that are no whole frame yet, nor the whole protocol header
  pub unfinished : List ℕ
  pub output : Output

-- an output of these octets alone
abbrev pub output_of : List ℕ → Output
output_of octets = record { ahead = octets; begun_on = 0; last = 0; row = [] }

-- a new client has the protocol header to write, a new server nothing
abbrev pub new_endpoint : Role → Endpoint
new_endpoint role = record { end = new_end role; unfinished = []; output = output_of (opening_written role) }

-- What octets make of it.

-- nothing is whole yet; the protocol header is, or a frame, with an event or none; or a fault is found
pub data Outcome : Type 0 where
  Unfinished : Outcome
  Finished : Option Event → Outcome
  Found : Fault → Outcome

-- what is left by a piece, how many octets of it were taken, and what came of them
pub record Feeding : Type 0 where
  pub endpoint : Endpoint
  pub taken : ℕ
  pub outcome : Outcome

-- an end that is closed or has failed takes no octet
abbrev pub refusal_in : Phase → Option Fault
refusal_in Closed = Some AlreadyClosed
refusal_in Failed = Some AlreadyFailed
refusal_in phase = None

-- such an end stays as it is, and what is fed to any other does this
abbrev pub unless_over : Endpoint → Option Fault → Feeding → Feeding
unless_over endpoint (Some fault) feeding = record { endpoint = endpoint; taken = 0; outcome = Found fault }
unless_over endpoint None feeding = feeding

-- an octet is taken, and nothing is whole yet
abbrev pub holds_octets : Endpoint → (octets : List ℕ) → Feeding
holds_octets endpoint octets =
    record {
      endpoint = record { end = endpoint.end; unfinished = octets; output = endpoint.output };
      taken = 1;
      outcome = Unfinished;
    }

-- an octet is taken by which this comes, with these frames put
abbrev pub comes_to : Endpoint → End → (put : List Frame) → Outcome → Feeding
comes_to endpoint end put outcome =
    record {
      endpoint = record { end = end; unfinished = []; output = after_puts put endpoint.output };
      taken = 1;
      outcome = outcome;
    }

-- the end has not read yet what stands before the frames: a server awaits the protocol header
abbrev pub awaits_opening : Role → Phase → Bool
awaits_opening Server (Handshake AwaitsProtocolHeader) = true
awaits_opening role phase = false

-- what an end puts once it has read that: a server puts start
abbrev pub owed_at_start : (role : Role) → Config role → List Owed
owed_at_start Client config = []
owed_at_start Server config = on_zero (start config) ∷ []

-- octets of the protocol header: at one that differs the end has that header to write, and fails
abbrev pub after_opening : (role : Role) → Config role → Endpoint → (octets : List ℕ) → Comparison → Feeding
after_opening role config endpoint octets Prefix = holds_octets endpoint octets
after_opening role config endpoint octets Same =
    comes_to endpoint (end_after_owed role config (owed_at_start role config) endpoint.end)
    (map frame_of (owed_at_start role config))
    (Finished (Some Quiet))
after_opening role config endpoint octets Differs =
    record {
      endpoint = record {
        end = failed_by (Faults WrongProtocolHeader) endpoint.end;
        unfinished = [];
        output = output_of PROTOCOL_HEADER;
      };
      taken = 1;
      outcome = Found WrongProtocolHeader;
    }

-- what is reported of a frame that was taken
abbrev pub outcome_of : {role : Role} → Facts role → FrameVerdict → Outcome
outcome_of facts (Faults fault) = Found fault
outcome_of facts verdict = Finished (event_told facts verdict)

-- a frame above the limit is answered with a close; a type that there isn't, and a wrong end, can't be
abbrev pub fault_told : FrameFaultKind → Fault
fault_told TooLarge = Peer FrameError
fault_told kind = Fatal

-- the methods that an end puts where octets show a fault
abbrev pub owed_at_fault : {role : Role} → Config role → End → FrameFaultKind → List Owed
owed_at_fault config end kind = methods_put (facts_at config end 0) (Faults (fault_told kind))

-- octets of a frame
abbrev pub after_judged : (role : Role) → Config role → Endpoint → (octets : List ℕ) → Judgement → Feeding
after_judged role config endpoint octets Begun = holds_octets endpoint octets
after_judged role config endpoint octets (Whole frame) =
    comes_to endpoint (end_after_taken role config endpoint.end (reading frame) frame)
    (end_puts config endpoint.end frame)
    (outcome_of (facts_at config endpoint.end frame.channel) (end_verdict config endpoint.end frame))
after_judged role config endpoint octets (Wrong kind) =
    comes_to endpoint
    (failed_by (Faults (fault_told kind))
    (end_after_owed role config (owed_at_fault config endpoint.end kind) endpoint.end))
    (map frame_of (owed_at_fault config endpoint.end kind)) (Found (fault_told kind))

-- the octets that are not whole yet, with one more
abbrev pub after_octets : (role : Role) → Config role → Endpoint → (octets : List ℕ)
    → (awaits : Bool) → Feeding
after_octets role config endpoint octets true =
    after_opening role config endpoint octets (compared octets (opening_read role))
after_octets role config endpoint octets false =
    after_judged role config endpoint octets (judged (frame_limit endpoint.end.agreed) octets)

-- the next octet
abbrev pub after_octet : (role : Role) → Config role → Endpoint → (octet : ℕ) → Feeding
after_octet role config endpoint octet =
    unless_over endpoint (refusal_in endpoint.end.phase)
    (after_octets role config endpoint (endpoint.unfinished ++ octet ∷ []) (awaits_opening role endpoint.end.phase))

-- the octets after the first are fed where nothing came of that one
abbrev pub fed_after : (first : Feeding) → Outcome → (later : Feeding) → Feeding
fed_after first Unfinished later =
    record { endpoint = later.endpoint; taken = suc later.taken; outcome = later.outcome }
fed_after first outcome later = first

-- a piece, octet by octet, up to where something comes
abbrev pub after_feed : (role : Role) → Config role → Endpoint → (piece : List ℕ) → Feeding
after_feed role config endpoint [] =
    unless_over endpoint (refusal_in endpoint.end.phase)
    (record { endpoint = endpoint; taken = 0; outcome = Unfinished })
after_feed role config endpoint (octet ∷ later) =
    fed_after (after_octet role config endpoint octet) (after_octet role config endpoint octet).outcome
    (after_feed role config (after_octet role config endpoint octet).endpoint later)

-- What asks and writes make of it.

-- what an ask makes of it by its answer: a refusal changes nothing, and frames are put
abbrev pub after_answer : (role : Role) → Config role → Endpoint → AskVerdict → Endpoint
after_answer role config endpoint (Refused refusal) = endpoint
after_answer role config endpoint (Puts frames) =
    record {
      end = end_after_put role config frames endpoint.end;
      unfinished = endpoint.unfinished;
      output = after_puts frames endpoint.output;
    }

-- an ask
abbrev pub after_ask : (role : Role) → Config role → Endpoint → Ask → Endpoint
after_ask role config endpoint ask = after_answer role config endpoint (ask_verdict role endpoint.end ask)

-- a heartbeat, or a decision in the handshake
abbrev pub after_control : (role : Role) → Config role → Endpoint → Control → Endpoint
after_control role config endpoint control =
    after_answer role config endpoint (control_verdict role config endpoint.end control)

-- so many octets of the output were written
abbrev pub after_wrote : ℕ → Endpoint → Endpoint
after_wrote n endpoint =
    record { end = endpoint.end; unfinished = endpoint.unfinished; output = after_writing n endpoint.output }

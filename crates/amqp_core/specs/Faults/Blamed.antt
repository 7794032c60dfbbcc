-- What was wrong with the octets with which an end found fault: where the frame begins, what it is, and the code of the
-- close that is put. AMQP 0-9-1 specification, sections 1.2, "Reply Codes", and 4.2.3, "General Frame Format".
use Rattle.std.specs.Prelude.{◌≡◌, ◌+◌, ◌-◌, ◌^◌, length, min, true, false, ℕ, List, Option, Some, None, Result, Ok}
use Rattle.std.specs.Prelude.{Err}
use Rattle.amqp_frame.specs.declared.faults.FrameFaultKind.{FrameFaultKind}
use Rattle.amqp_frame.specs.declared.faults.FrameFaultKind.TheVariants.{TooLarge}
use Rattle.amqp_frame.specs.declared.frames.FrameKind.{FrameKind}
use Rattle.amqp_frame.specs.declared.frames.FrameKind.TheVariants as frames
use Rattle.amqp_frame.specs.Frame.{frame_length}
use Rattle.amqp_method.specs.Ids.{kind_of_ids}
use Rattle.amqp_method.specs.declared.kinds.Kind.{Kind}
use Rattle.amqp_model.specs.End.Closes as closes
use Rattle.amqp_model.specs.End.Events as events
use Rattle.amqp_model.specs.End.EndVerdict.{takes_frames, takes_octets}
use Rattle.amqp_model.specs.Laws.OctetLaws.{CompletesFrame, ShowsFault}
use Rattle.amqp_model.specs.Stream.Endpoint.{Endpoint, Feeding, awaits_opening}
use Rattle.amqp_model.specs.Wire.Frame.{Frame}
use Rattle.amqp_model.specs.Wire.Notes.{Role}
use Rattle.amqp_channel.specs.Events.Closes.{code_view}
use Rattle.amqp_channel.specs.declared.codes.CloseCode.{CloseCode}
use Rattle.amqp_core.specs.Faults.Answering.{ran_out}
use Rattle.amqp_core.specs.declared.blame.Blame as declared
use Rattle.amqp_core.specs.declared.blame.Rule.{Rule}
use Rattle.amqp_core.specs.declared.blame.Rule.TheVariants as rules
use Rattle.amqp_core.specs.declared.faults.CoreFault.{CoreFault}
use Rattle.amqp_core.specs.declared.faults.CoreFault.TheVariants as core
use Rattle.amqp_core.specs.declared.tally.Tally as kept

-- What callers see.

pub record Blamed : Type 0 where
  pub octet : ℕ
  pub channel : Option ℕ
  pub frame : Option FrameKind
  pub method : Option Kind
  pub code : Option closes.CloseCode

abbrev pub code_there : Option CloseCode → Option closes.CloseCode
code_there (Some code) = Some (code_view code)
code_there None = None

-- the code of the close that answers a broken rule
abbrev pub rule_code : Rule → Option closes.CloseCode
rule_code rules.ProtocolHeader = None
rule_code (rules.Framing TooLarge) = Some closes.FrameError
rule_code (rules.Framing kind) = None
rule_code rules.HeartbeatIsEmpty = Some closes.FrameError
rule_code rules.HeartbeatOnZero = Some closes.FrameError
rule_code rules.KnownMethod = Some closes.NotImplemented
rule_code rules.NoSecure = Some closes.NotImplemented
rule_code rules.Syntax = Some closes.SyntaxError
rule_code rules.HandshakeOrder = Some closes.CommandInvalid
rule_code rules.TuneFrameSize = Some closes.FrameError
rule_code rules.TuneOkRange = None
rule_code rules.HandshakeIsOver = Some closes.CommandInvalid
rule_code rules.ConnectionOnZero = Some closes.CommandInvalid
rule_code rules.SentBySide = Some closes.CommandInvalid
rule_code rules.WasAsked = Some closes.CommandInvalid
rule_code rules.NotOnZero = Some closes.ChannelError
rule_code rules.ChannelMaximum = Some closes.ChannelError
rule_code rules.OpenedOnce = Some closes.ChannelError
rule_code rules.ChannelOpen = Some closes.ChannelError
rule_code rules.HeaderDue = Some closes.UnexpectedFrame
rule_code rules.BodyDue = Some closes.UnexpectedFrame
rule_code rules.ContentBegun = Some closes.UnexpectedFrame
rule_code rules.BodySize = Some closes.FrameError
rule_code rules.WaitingRequests = Some closes.ResourceError
rule_code rules.ContentSize = Some closes.ContentTooLarge

abbrev pub blame_view : declared.Blame → Blamed
blame_view blame =
    record {
      octet = blame.octet;
      channel = blame.channel;
      frame = blame.frame;
      method = blame.method;
      code = rule_code blame.rule;
    }

abbrev blame_there : Option declared.Blame → Option Blamed
blame_there (Some blame) = Some (blame_view blame)
blame_there None = None

-- what an end counts of the octets that it takes, and what it blames
pub record Tally : Type 0 where
  pub taken : ℕ
  pub blame : Option Blamed

abbrev pub tally_view : kept.Tally → Tally
tally_view tally = record { taken = tally.octets; blame = blame_there tally.blame }

abbrev pub no_octets : Tally
no_octets = record { taken = 0; blame = None }

-- What is blamed.

-- the method that the octets of a frame name
abbrev pub method_named : FrameKind → List ℕ → Option Kind
method_named frames.Method payload = kind_of_ids payload
method_named kind payload = None

-- a whole frame that begins there
abbrev pub frame_blamed : (octet : ℕ) → Frame → Option closes.CloseCode → Blamed
frame_blamed octet frame code =
    record {
      octet = octet;
      channel = Some frame.channel;
      frame = Some frame.kind;
      method = method_named frame.kind frame.payload;
      code = code;
    }

-- octets from there on that are no frame
abbrev pub octets_blamed : (octet : ℕ) → Option closes.CloseCode → Blamed
octets_blamed octet code = record { octet = octet; channel = None; frame = None; method = None; code = code }

abbrev pub code_of : events.Fault → Option closes.CloseCode
code_of (events.Peer code) = Some code
code_of fault = None

-- the code of a fault that is found with octets
abbrev pub code_told : CoreFault → Option (Option closes.CloseCode)
code_told (core.Peer code) = Some (Some (code_view code))
code_told core.Fatal = Some None
code_told fault = None

abbrev pub code_found : {A : Type 0} → Result A CoreFault → Option (Option closes.CloseCode)
code_found (Ok done) = None
code_found (Err fault) = code_told fault

-- the rule is one that is broken where this is answered
abbrev pub IsBroken : Rule → CoreFault → Type 0
IsBroken rule (core.Peer code) = rule_code rule ≡ Some (code_view code)
IsBroken rule core.Fatal = rule_code rule ≡ None
IsBroken rule fault = Unit {0}

-- the code of a fault, if one is found
abbrev pub code_by : Option events.Fault → Option (Option closes.CloseCode)
code_by (Some fault) = Some (code_of fault)
code_by None = None

-- this is blamed where fault is found, and else what was
abbrev pub blamed_if : Option (Option closes.CloseCode) → (Option closes.CloseCode → Blamed) → Option Blamed
    → Option Blamed
blamed_if (Some code) blamed before = Some (blamed code)
blamed_if None blamed before = before

-- the place of a frame that so many octets end
abbrev pub begins_at : (taken : ℕ) → Frame → ℕ
begins_at taken frame = taken - frame_length frame

-- so many more, up to the greatest number of 64 bits
abbrev pub counted : (before more : ℕ) → ℕ
counted before more = min (before + more) (2 ^ 64 - 1)

-- a frame was taken, and fault is found with this code, if it is
abbrev pub blames_frame : Option (Option closes.CloseCode) → Frame → Tally → Tally
blames_frame code frame before =
    record {
      taken = before.taken;
      blame = blamed_if code (frame_blamed (begins_at before.taken frame) frame) before.blame;
    }

-- so many octets are taken that are no frame with so many before, and fault is found with this code, if it is
abbrev pub blames_octets : Option (Option closes.CloseCode) → (pending octets : ℕ) → Tally → Tally
blames_octets code pending octets before = record {
  taken = counted before.taken octets;
  blame = blamed_if code (octets_blamed (before.taken - pending)) before.blame;
}

-- What becomes of it by a piece that is fed.
pub record Blames {A : Type 0} (role : Role) (result : Result A CoreFault) (old : Endpoint) (piece : List ℕ)
    (fed : Feeding)
    (before after : Tally) : Type 0 where
  -- All octets that are taken count, also those that show a fault.
  pub taken : takes_octets old.end.phase ≡ true → ran_out result ≡ false → after.taken ≡ counted before.taken fed.taken
  -- Where no fault of theirs is found, nothing new is blamed.
  pub faultless : code_found result ≡ None → after.blame ≡ before.blame
  -- A whole frame with which fault is found is blamed, with the code of the fault. It ends with the octets taken.
  pub frame : (frame : Frame) → takes_frames old.end.phase ≡ true → CompletesFrame old piece fed frame
      → after.blame ≡ blamed_if (code_found result) (frame_blamed (begins_at after.taken frame) frame) before.blame
  -- So are octets that are no frame, from where that would begin.
  pub octets : (kind : FrameFaultKind) → takes_frames old.end.phase ≡ true → ShowsFault old piece fed kind
      → after.blame ≡ blamed_if (code_found result) (octets_blamed (before.taken - length old.unfinished)) before.blame
  -- So is another protocol header.
  pub header : awaits_opening role old.end.phase ≡ true
      → after.blame ≡ blamed_if (code_found result) (octets_blamed (before.taken - length old.unfinished)) before.blame

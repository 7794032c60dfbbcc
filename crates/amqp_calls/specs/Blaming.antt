-- What was wrong with the octets with which an end behind a handle found fault, as it is told.
use Rattle.std.specs.Prelude.{◌≡◌, ℕ, List, Option, Some, None, Result, unwrap_or}
use Rattle.amqp_frame.specs.Frame.{type_octet}
use Rattle.amqp_frame.specs.declared.faults.FrameFaultKind.TheVariants as framing
use Rattle.amqp_frame.specs.declared.frames.FrameKind.{FrameKind}
use Rattle.amqp_method.specs.declared.faults.MethodFault.{MethodFault}
use Rattle.amqp_model.specs.End.Closes as closes
use Rattle.amqp_core.specs.End.Counters.{Counters}
use Rattle.amqp_core.specs.Faults.Blamed.{blame_view, rule_code}
use Rattle.amqp_core.specs.Stream.View.{counters_of}
use Rattle.amqp_core.specs.declared.blame.Blame.{Blame}
use Rattle.amqp_core.specs.declared.blame.Rule.{Rule}
use Rattle.amqp_core.specs.declared.blame.Rule.TheVariants as rules
use Rattle.amqp_handle.specs.declared.kept.HeldEnd.{HeldEnd}
use Rattle.amqp_calls.specs.CodecStatuses.{method_status}
use Rattle.amqp_calls.specs.EndAnswers.{kind_told}
use Rattle.amqp_calls.specs.HeldEnds.{Answers}
use Rattle.amqp_calls.specs.Writing.{ToldWrite, Writes}
use Rattle.amqp_calls.specs.declared.codec.writing.WriteFault.{WriteFault}
use Rattle.amqp_calls.specs.declared.codec.writing.Written.{Written}
use Rattle.amqp_calls.specs.declared.ends.blaming.BlameTold.{BlameTold}

abbrev pub rule_number : Rule → ℕ
rule_number rules.ProtocolHeader = 1
rule_number (rules.Framing framing.UnknownType) = 2
rule_number (rules.Framing framing.TooLarge) = 3
rule_number (rules.Framing framing.BadEnd) = 4
rule_number (rules.Framing framing.OutOfMemory) = 5
rule_number (rules.Framing framing.Failed) = 6
rule_number rules.HeartbeatIsEmpty = 7
rule_number rules.HeartbeatOnZero = 8
rule_number rules.KnownMethod = 9
rule_number rules.NoSecure = 10
rule_number rules.Syntax = 11
rule_number rules.HandshakeOrder = 12
rule_number rules.TuneFrameSize = 13
rule_number rules.TuneOkRange = 14
rule_number rules.HandshakeIsOver = 15
rule_number rules.ConnectionOnZero = 16
rule_number rules.SentBySide = 17
rule_number rules.WasAsked = 18
rule_number rules.NotOnZero = 19
rule_number rules.ChannelMaximum = 20
rule_number rules.OpenedOnce = 21
rule_number rules.ChannelOpen = 22
rule_number rules.HeaderDue = 23
rule_number rules.BodyDue = 24
rule_number rules.ContentBegun = 25
rule_number rules.BodySize = 26
rule_number rules.WaitingRequests = 27
rule_number rules.ContentSize = 28

-- the type octet of a frame, 0 where there is none
abbrev pub frame_told : Option FrameKind → ℕ
frame_told None = 0
frame_told (Some kind) = type_octet kind

-- the code of the close, 0 where none is put
abbrev pub code_number : Option closes.CloseCode → ℕ
code_number None = 0
code_number (Some code) = closes.number_of code

-- the status of what can't be read, 0 where all can
abbrev pub field_told : Option MethodFault → ℕ
field_told None = 0
field_told (Some fault) = method_status fault.kind

abbrev pub field_place : Option MethodFault → ℕ
field_place None = 0
field_place (Some fault) = fault.at

pub record TellsBlame (blame : Blame) (out : BlameTold) : Type 0 where
  -- where the frame, or what is none, begins in the stream
  pub octet : out.octet ≡ blame.octet
  -- the channel, the kind and the method of the frame, 0 where it isn't known
  pub channel : out.channel ≡ unwrap_or blame.channel 0
  pub frame : out.frame ≡ frame_told blame.frame
  pub method : out.method ≡ kind_told blame.method
  -- what can't be read of it, and where in its payload
  pub field : out.field ≡ field_told blame.field
  pub field_at : out.field_at ≡ field_place blame.field
  -- the rule that it breaks, and the code of the close with that
  pub rule : out.rule ≡ rule_number blame.rule
  pub code : out.code ≡ code_number (rule_code blame.rule)

-- nothing is blamed; or this is, and is told
pub data ToldBlame (counters : Counters) (status : ℕ) (out : BlameTold) : Type 0 where
  faultless : counters.tally.blame ≡ None → status ≡ 8 → ToldBlame counters status out
  blamed :
      (blame : Blame) → counters.tally.blame ≡ Some (blame_view blame) → status ≡ 0 → TellsBlame blame out
      → ToldBlame counters status out

-- the end of an open handle tells it, and stays as it is
abbrev pub BlamesEnd : Option HeldEnd → ℕ → BlameTold → Option HeldEnd → Type 0
BlamesEnd old status out new = Answers status (λ R H G kept. ToldBlame (counters_of kept.end.value) status out) old new

-- ---- as a line

-- a line is put into the room, or the room stays
abbrev pub WritesLine : List ℕ → Result ℕ WriteFault → List ℕ → Type 0
WritesLine old written new = Writes (λ octets. Unit {0}) ⊥ (λ fault. ⊥) old written new

-- nothing is blamed, and the room stays; or something is, and its line is written
pub data WritesLineOf (counters : Counters) (old : List ℕ) (status : ℕ) (out : Written)
    (new : List ℕ) : Type 0 where
  faultless : counters.tally.blame ≡ None → status ≡ 8 → new ≡ old
      → WritesLineOf counters old status out new
  blamed :
      (blame : Blame) → counters.tally.blame ≡ Some (blame_view blame) → (written : Result ℕ WriteFault)
      → WritesLine old written new → ToldWrite written status out → WritesLineOf counters old status out new

-- the end of an open handle, which stays as it is
abbrev pub LineOfEnd : Option HeldEnd → List ℕ → ℕ → Written → List ℕ → Option HeldEnd → Type 0
LineOfEnd old room status out now new =
    Answers status (λ R H G kept. WritesLineOf (counters_of kept.end.value) room status out now) old new
    × (old ≡ None → now ≡ room)

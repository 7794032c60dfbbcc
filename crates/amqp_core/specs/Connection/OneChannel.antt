-- What is decided and left on one channel is what the whole end decides and keeps: the statement.
use Rattle.std.specs.Prelude.{◌≡◌, ◌<◌, true, ℕ, List, [], ◌∷◌, map, Some}
use Rattle.amqp_frame.specs.declared.frames.FrameKind.{FrameKind}
use Rattle.amqp_model.specs.End.Asks.{payload_frame}
use Rattle.amqp_model.specs.End.Channels.{Agreed, Channel, Running, End}
use Rattle.amqp_model.specs.Wire.Contents.{Payload, Unread}
use Rattle.amqp_model.specs.Wire.Frame.{Frame}
use Rattle.amqp_model.specs.End.EndVerdict.{goes_on}
use Rattle.amqp_model.specs.End.Machine.{set_channel, taken_verdict, end_after_taken, end_after_put}
use Rattle.amqp_model.specs.History.Negotiation.{Config}
use Rattle.amqp_model.specs.Wire.Readings.{Reading, payload_of, reading}
use Rattle.amqp_channel.specs.Channels.Payloads.{after_payloads}
use Rattle.amqp_channel.specs.Roles.{role_of}
use Rattle.amqp_channel.specs.Verdict.VerdictView.{left_by, verdict_view, whole_now, Rules}
use Rattle.amqp_channel.specs.declared.site.Site.{Site}
use Rattle.amqp_channel.specs.declared.verdict.Verdict.{Verdict}

-- an end whose connection is Running
abbrev pub running_end : Site → (limits : Agreed) → (ℕ → Channel) → End
running_end site limits channels =
    record {
      phase = Running;
      agreed = Some (record limits { channel_max = site.channel_max });
      channels = channels;
    }

abbrev pub frame_here : Site → FrameKind → List ℕ → Frame
frame_here site kind payload = record { kind = kind; channel = site.number; payload = payload }

-- the verdict is the end's, and the end keeps the channel that is left, and all else as it was
pub record IsStepOfEnd (site : Site) (config : Config (role_of site.side)) (limits : Agreed) (channels : ℕ → Channel)
    (frame : Frame) (reading : Reading) (said : Verdict) : Type 0 where
  pub verdict_is :
      taken_verdict config (running_end site limits channels) site.number reading
      ≡ verdict_view site.number reading (whole_now (channels site.number) reading) said
  pub end_is :
      end_after_taken (role_of site.side) config (running_end site limits channels) reading frame
      ≡ running_end site limits
      (set_channel site.number (left_by (role_of site.side) reading said (channels site.number)) channels)

-- Where a channel goes on by its own rules, with the verdict that is said, this is a step of the whole end.
abbrev pub StepsAsEnd : Type 0
StepsAsEnd =
    (site : Site) (config : Config (role_of site.side)) (limits : Agreed) (channels : ℕ → Channel) (kind : FrameKind)
    (payload : List ℕ) (reading : Reading) (said : Verdict)
    → 0 < site.number → config.max_body ≡ site.max_body → Rules site (channels site.number) reading said
    → goes_on (verdict_view site.number reading (whole_now (channels site.number) reading) said) ≡ true
    → IsStepOfEnd site config limits channels (frame_here site kind payload) reading said

-- an end writes such a payload
abbrev pub IsWritten : Payload → Type 0
IsWritten Unread = ⊥
IsWritten payload = Unit {0}

abbrev pub AreWritten : List Payload → Type 0
AreWritten [] = Unit {0}
AreWritten (payload ∷ later) = IsWritten payload × AreWritten later

-- each frame says the payload that it was made of
abbrev pub SayPayloads : (number : ℕ) → List Payload → Type 0
SayPayloads number [] = Unit {0}
SayPayloads number (payload ∷ later) =
    (payload_of (reading (payload_frame number payload)) ≡ payload) × SayPayloads number later

-- What payloads that are put leave of a channel is what the end keeps of it then.
abbrev pub PutsAsEnd : Type 0
PutsAsEnd =
    (site : Site) (config : Config (role_of site.side)) (limits : Agreed) (channels : ℕ → Channel) (payload : Payload)
    (later : List Payload)
    → 0 < site.number → AreWritten (payload ∷ later) → SayPayloads site.number (payload ∷ later)
    → end_after_put (role_of site.side) config (map (payload_frame site.number) (payload ∷ later))
    (running_end site limits channels)
    ≡ running_end site limits (set_channel site.number
    (after_payloads (role_of site.side) site.number (payload ∷ later) (channels site.number)) channels)

-- What the rules say of a frame that an end takes, in the words of the model, and what the frame leaves of the end.
use Rattle.std.specs.Prelude.{◌≡◌, ◌<◌, true, ℕ, Option, Some, None}
use Rattle.amqp_method.specs.declared.kinds.Kind.TheVariants as kinds
use Rattle.amqp_model.specs.End.Channels as model
use Rattle.amqp_model.specs.End.Channels.{End, Running}
use Rattle.amqp_model.specs.Wire.Contents.{Content}
use Rattle.amqp_model.specs.Stream.Endpoint.{Finished, Found, Outcome}
use Rattle.amqp_model.specs.End.Events as events
use Rattle.amqp_model.specs.End.Events.{Event, FrameVerdict}
use Rattle.amqp_model.specs.End.Machine.{as_failed, set_channel, taken_verdict}
use Rattle.amqp_model.specs.Wire.Methods.{octets_at}
use Rattle.amqp_model.specs.Wire.Notes.{Role}
use Rattle.amqp_model.specs.Wire.Readings.{Reading, Calls}
use Rattle.amqp_channel.specs.Channels.ChannelsView.{channels_view}
use Rattle.amqp_channel.specs.Events.EventView.{agreed_view}
use Rattle.amqp_channel.specs.Verdict.VerdictView.{Drops, Fits, FitsEvent, IsUnanswered, handed_out, left_by}
use Rattle.amqp_channel.specs.Verdict.VerdictView.{reason_read, verdict_view as channel_verdict, whole_now}
use Rattle.amqp_channel.specs.Channels.Used.{is_closing_at}
use Rattle.amqp_channel.specs.declared.channels.Channels.{Channels}
use Rattle.amqp_channel.specs.declared.verdict.Verdict.TheVariants as ruled
use Rattle.amqp_core.specs.Connection.View.{fault_of, EndLeft}
use Rattle.amqp_core.specs.Connection.Handshakes.{is_in_handshake}
use Rattle.amqp_core.specs.Connection.Owed.{owed_view}
use Rattle.amqp_core.specs.Connection.Rulings.{Ruling, OnChannel, OnConnection}
use Rattle.amqp_core.specs.Config.Settings.{config_view, role_for}
use Rattle.amqp_core.specs.Connection.Stages.{agreed_at, phase_at}
use Rattle.amqp_core.specs.declared.verdict.Fault.{Fault}
use Rattle.amqp_core.specs.declared.owed.Owed.TheVariants as owed
use Rattle.amqp_core.specs.declared.settings.Settings.{Settings}
use Rattle.amqp_core.specs.declared.stage.Stage.{Stage}
use Rattle.amqp_core.specs.declared.verdict.Notice.{Notice}
use Rattle.amqp_core.specs.declared.verdict.Notice.TheVariants as notice
use Rattle.amqp_core.specs.declared.verdict.Verdict.{Verdict}
use Rattle.amqp_core.specs.declared.verdict.Verdict.TheVariants.{Proceeds, Faults}

-- an end at this stage, with these channels
abbrev pub end_at : Stage → Channels → End
end_at stage channels = record { phase = phase_at stage; agreed = agreed_at stage; channels = channels_view channels }

-- Events.

abbrev blocked_read : Reading → Option Event
blocked_read (Calls method) = Some (events.Blocked (octets_at 0 method))
blocked_read reading = None

-- the event of what a frame tells of the connection
abbrev pub noticed : (number : ℕ) → Reading → Notice → Option Event
noticed number reading notice.Quiet = Some events.Quiet
noticed number reading notice.Discarded = Some (events.Discarded number)
noticed number reading notice.AnswerAsked = Some events.AnswerAsked
noticed number reading notice.LoginAsked = Some events.LoginAsked
noticed number reading notice.OpenAsked = Some events.OpenAsked
noticed number reading (notice.Negotiated agreed) = Some (events.Negotiated (agreed_view agreed))
noticed number reading notice.ClosedByPeer = Some (events.ConnectionClosed (reason_read reading))
noticed number reading notice.ClosedByUs = Some (events.ConnectionClosed None)
noticed number reading notice.Blocked = blocked_read reading
noticed number reading notice.Unblocked = Some events.Unblocked

-- the verdict on a frame that says this and makes this content whole, if any
abbrev pub verdict_view : Settings → (number : ℕ) → Reading → Option Content → Ruling → FrameVerdict
verdict_view settings number reading whole (OnChannel said) = channel_verdict number reading whole said
verdict_view settings number reading whole (OnConnection (Proceeds told stage due)) =
    events.Proceeds (noticed number reading told) (owed_view settings due)
verdict_view settings number reading whole (OnConnection (Faults fault)) = events.Faults (fault_of fault)

-- the verdict on a frame that says this, by what is kept of its channel
abbrev pub verdict_here : Settings → End → (number : ℕ) → Reading → Ruling → FrameVerdict
verdict_here settings end number reading verdict =
    verdict_view settings number reading (whole_now (end.channels number) reading) verdict

-- What is left.

-- the end that a frame of this verdict leaves; one that has found fault fails after
abbrev pub end_left : Role → (number : ℕ) → Reading → Ruling → End → End
end_left role number reading (OnChannel said) end =
    record {
      phase = end.phase;
      agreed = end.agreed;
      channels = set_channel number (left_by role reading said (end.channels number)) end.channels;
    }
end_left role number reading (OnConnection (Proceeds told stage due)) end =
    record { phase = phase_at stage; agreed = agreed_at stage; channels = end.channels }
end_left role number reading (OnConnection (Faults fault)) end = end

-- the content that a frame of this verdict makes whole
abbrev pub content_of : Ruling → model.Channel → Reading → Option Content
content_of (OnChannel said) channel reading = handed_out channel reading said
content_of verdict channel reading = None

-- What is told fits what the frame says.

abbrev IsCloseRead : Reading → Type 0
IsCloseRead (Calls method) = method.kind ≡ kinds.ConnectionClose
IsCloseRead reading = ⊥

abbrev IsBlockedRead : Reading → Type 0
IsBlockedRead (Calls method) = method.kind ≡ kinds.ConnectionBlocked
IsBlockedRead reading = ⊥

abbrev pub FitsNotice : Reading → Notice → Type 0
FitsNotice reading notice.ClosedByPeer = IsCloseRead reading
FitsNotice reading notice.Blocked = IsBlockedRead reading
FitsNotice reading told = Unit {0}

-- a stage of the handshake comes of one
abbrev ComesOfHandshake : End → Stage → Type 0
ComesOfHandshake end stage = is_in_handshake (phase_at stage) ≡ true → is_in_handshake end.phase ≡ true

-- the same of the stage that a frame of the connection leads to
abbrev pub StepsFrom : End → Verdict → Type 0
StepsFrom end (Proceeds told stage due) = ComesOfHandshake end stage
StepsFrom end (Faults fault) = Unit {0}

-- A channel's verdict is one on a connection that is Running; a step of the handshake comes of one.
abbrev pub FitsVerdict : End → (number : ℕ) → Reading → Ruling → Type 0
FitsVerdict end number reading (OnChannel said) =
    (0 < number) × (end.phase ≡ Running) × Fits (end.channels number) reading said × IsUnanswered said
FitsVerdict end number reading (OnConnection (Proceeds told stage due)) =
    FitsNotice reading told × ComesOfHandshake end stage
FitsVerdict end number reading (OnConnection (Faults fault)) = Unit {0}

-- What the rules say of a frame: the verdict of the definitions, and the end that the frame leaves.
pub record FrameRules (settings : Settings) (end : End) (number : ℕ) (reading : Reading) (said : Ruling) : Type 0 where
  pub verdict :
      verdict_here settings end number reading said ≡ taken_verdict (config_view settings) end number reading
  pub leaves :
      EndLeft (config_view settings) number reading (verdict_here settings end number reading said) end
      (end_left (role_for settings) number reading said end)
  pub fits : FitsVerdict end number reading said

-- What comes of a verdict.

-- the event that is told
abbrev pub event_by : (number : ℕ) → FrameVerdict → Option Event
event_by number (events.Proceeds event due) = event
event_by number events.RefusesContent = Some (events.Discarded number)
event_by number (events.Faults fault) = None

-- the fault that is found
abbrev pub fault_by : FrameVerdict → Option events.Fault
fault_by (events.Faults fault) = Some fault
fault_by verdict = None

abbrev pub fault_there : Option Fault → Option events.Fault
fault_there None = None
fault_there (Some fault) = Some (fault_of fault)

-- what comes of a frame that tells this event, and with which this fault is found, if any
abbrev pub outcome_with : Option Event → Option events.Fault → Outcome
outcome_with event None = Finished event
outcome_with event (Some fault) = Found fault

-- an end that has found a fault has failed
abbrev pub ended_if : Option events.Fault → End → End
ended_if None end = end
ended_if (Some fault) end = as_failed end

-- what is told fits what the frame says, as far as its event goes
abbrev pub FitsEventOf : Reading → Ruling → Type 0
FitsEventOf reading (OnChannel (ruled.Proceeds told answer)) = FitsEvent reading told
FitsEventOf reading (OnConnection (Proceeds told stage due)) = FitsNotice reading told
FitsEventOf reading verdict = Unit {0}

-- The frame takes no memory: it is dropped, or a heartbeat that changes nothing.
abbrev pub IsLight : model.Channel → Ruling → Type 0
IsLight channel (OnChannel said) = (is_closing_at channel ≡ true) × Drops said
IsLight channel (OnConnection (Proceeds notice.Discarded stage owed.Nothing)) = Unit {0}
IsLight channel (OnConnection (Proceeds notice.Quiet stage owed.Nothing)) = Unit {0}
IsLight channel verdict = ⊥

abbrev pub IsLightNotice : Notice → Type 0
IsLightNotice notice.Discarded = Unit {0}
IsLightNotice notice.Quiet = Unit {0}
IsLightNotice told = ⊥

-- What an end answers of itself, as its history counts it.
--
-- A history says nothing of a failure, since a wrong end octet or out of memory leaves it as it was: whether the end
-- has failed stands beside it.
use Rattle.std.specs.Prelude.{◌≡◌, ◌<◌, ◌≤◌, Bool, true, false, ℕ, List, length, Option, Some, None}
use Rattle.amqp_model.specs.End.Answers as answers
use Rattle.amqp_model.specs.End.Answers.{channel_state, first_request}
use Rattle.amqp_model.specs.Laws.AnswersInWords.{taken_on}
use Rattle.amqp_model.specs.End.Asks.{channel_max}
use Rattle.amqp_model.specs.End.Channels as channels
use Rattle.amqp_model.specs.End.Channels.{Agreed, Running, Failed}
use Rattle.amqp_model.specs.Wire.Contents.{Payload, UnderWay, body_octets}
use Rattle.amqp_model.specs.Laws.EndLaws.{notes_on}
use Rattle.amqp_model.specs.End.EndVerdict.{takes_octets}
use Rattle.amqp_model.specs.Wire.Gathering.{Nothing, Gathers}
use Rattle.amqp_model.specs.History.Histories.{History, entries_on}
use Rattle.amqp_model.specs.Pair.InTurn.{life_here, unanswered_at}
use Rattle.amqp_model.specs.History.Lives as lives
use Rattle.amqp_model.specs.Wire.Methods.{MethodKind}
use Rattle.amqp_model.specs.History.Negotiation.{Config, frame_limit}
use Rattle.amqp_model.specs.Wire.Notes.{Role}
use Rattle.amqp_model.specs.Stream.Octets.{FedAs}
use Rattle.amqp_model.specs.End.StateFromHistory.{agreed_from, end_from, phase_from}
use Rattle.amqp_model.specs.History.States.{State, Open}
use Rattle.amqp_core.specs.Connection.Stages.{phase_name}
use Rattle.amqp_core.specs.declared.stage.Phase.{Phase}

-- the end has failed
abbrev pub is_failed : channels.Phase → Bool
is_failed Failed = true
is_failed phase = false

-- the phase, by the frames of channel 0
abbrev pub phase_counted : Role → (failed : Bool) → History → channels.Phase
phase_counted role failed history = phase_from role failed (entries_on 0 history)

-- what tune-ok settled, by the frames of channel 0
abbrev pub agreed_counted : (role : Role) → Config role → History → Option Agreed
agreed_counted role config history = agreed_from role config (entries_on 0 history)

-- the connection is neither closed nor failed, and the channel is Open by its notes
pub record IsOpenBy (role : Role) (failed : Bool) (history : History) (number : ℕ) : Type 0 where
  pub above : 0 < number
  pub goes_on : takes_octets (phase_counted role failed history) ≡ true
  pub open_there : lives.state role (notes_on number history) ≡ Open

-- the phase as an application is told of it
abbrev pub PhaseIs : Role → (failed : Bool) → History → Phase → Type 0
PhaseIs role failed history phase = phase ≡ phase_name (phase_counted role failed history)

abbrev pub AgreedIs : (role : Role) → Config role → History → Option Agreed → Type 0
AgreedIs role config history agreed = agreed ≡ agreed_counted role config history

-- the heartbeat of it, in seconds; none, which is 0, where nothing was agreed
abbrev pub heartbeat_in : Option Agreed → ℕ
heartbeat_in None = 0
heartbeat_in (Some agreed) = agreed.heartbeat

abbrev pub HeartbeatIs : (role : Role) → Config role → History → ℕ → Type 0
HeartbeatIs role config history heartbeat = heartbeat ≡ heartbeat_in (agreed_counted role config history)

pub record StateIs (role : Role) (config : Config role) (failed : Bool) (history : History)
    (number : ℕ) (state : State) : Type 0 where
  -- the state that is read off the history, in every phase and of every number
  pub counted : state ≡ channel_state (end_from role config failed history) number
  -- up to the agreed maximum, until the connection is closed or has failed, it is that of the channel's notes
  pub of_notes :
      0 < number → number ≤ channel_max (agreed_counted role config history)
      → takes_octets (phase_counted role failed history) ≡ true
      → state ≡ lives.state role (notes_on number history)

-- So many octets were fed after the last whole frame, or of the protocol header.
pub record PendingIs (role : Role) (config : Config role) (history : History) (fed : List ℕ) (count : ℕ) : Type 0 where
  pub unfinished : List ℕ
  pub read : FedAs role (frame_limit (agreed_counted role config history)) history fed unfinished
  pub counted : count ≡ length unfinished

pub record GatheredIs (role : Role) (config : Config role) (failed : Bool) (history : History)
    (number : ℕ) (count : ℕ) : Type 0 where
  -- what is read off the history, in every phase and of every number
  pub counted : count ≡ answers.octets_gathered (end_from role config failed history) number
  -- on an Open channel of a Running connection they are those of the body parts of the content under way
  pub under_way :
      phase_counted role failed history ≡ Running → IsOpenBy role failed history number
      → (since : List Payload) → UnderWay (taken_on number history) since → count ≡ length (body_octets since)
  -- and none where none is under way
  pub none :
      phase_counted role failed history ≡ Running → IsOpenBy role failed history number
      → Gathers (taken_on number history) Nothing → count ≡ 0

pub record DueIs (role : Role) (config : Config role) (failed : Bool) (history : History)
    (number : ℕ) (request : Option MethodKind) : Type 0 where
  -- what is read off the history, in every phase and of every number
  pub counted : request ≡ answers.reply_due (end_from role config failed history) number
  -- on an Open channel it is the first request of its life that has no reply, among the items sent and acted on
  pub first :
      IsOpenBy role failed history number
      → request ≡ first_request (unanswered_at role number (life_here role number history) history)

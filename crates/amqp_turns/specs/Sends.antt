-- Messages of a channel that are sent in turn: what waits, what one sending after another makes of it, and why it
-- stops.
use Rattle.std.specs.Prelude.{◌≡◌, ◌≢◌, ◌⊎◌, ℕ, List, [], ◌∷◌, Option, Some}
use Rattle.amqp_model.specs.End.Asks.{Send, Paused, ReplyPending, Refusal, refusal}
use Rattle.amqp_model.specs.Stream.Endpoint.{Endpoint}
use Rattle.amqp_model.specs.End.Events.{Message}
use Rattle.amqp_core.specs.Asks.Effects.{AcceptsAsk, RefusesAsk}
use Rattle.amqp_core.specs.Config.Settings.{config_view, role_for}
use Rattle.amqp_core.specs.declared.faults.AskFault.{AskFault}
use Rattle.amqp_core.specs.declared.faults.AskFault.TheVariants as faults
use Rattle.amqp_core.specs.declared.settings.Settings.{Settings}

-- the messages that wait on a channel, the oldest first, and the end that is to send them
pub record Standing : Type 0 where
  pub settings : Settings
  pub channel : ℕ
  pub waiting : List Message
  pub endpoint : Endpoint

-- these wait then, and the end is this
abbrev pub left_with : Standing → List Message → Endpoint → Standing
left_with before rest endpoint =
    record { settings = before.settings; channel = before.channel; waiting = rest; endpoint = endpoint }

-- the end accepts the message
abbrev pub Accepts : Standing → Message → Endpoint → Type 0
Accepts before message endpoint =
    AcceptsAsk (role_for before.settings) (config_view before.settings)
    (Send before.channel message) before.endpoint endpoint

-- One message after another is sent, each the oldest of those that wait. So those that were sent, and then those that
-- still wait, are those that waited.
pub data Advances (old : Standing) : Standing → Type 0 where
  none_sent : Advances old old
  sends_next :
      (between : Standing) (message : Message) (rest : List Message) (endpoint : Endpoint) → Advances old between
      → between.waiting ≡ message ∷ rest → Accepts between message endpoint
      → Advances old (left_with between rest endpoint)

-- why the end refuses the message, if it does
abbrev pub refused_first : Standing → Message → Option Refusal
refused_first standing message = refusal (role_for standing.settings) standing.endpoint.end
    (Send standing.channel message)

-- the message may not go yet: a request is unanswered, or the peer has paused the channel
abbrev pub HasToWait : Standing → List Message → Type 0
HasToWait standing [] = Unit {0}
HasToWait standing (message ∷ rest) =
    (refused_first standing message ≡ Some ReplyPending) ⊎ (refused_first standing message ≡ Some Paused)

-- none is left, or the oldest has to wait
abbrev pub Rests : Standing → Type 0
Rests standing = HasToWait standing standing.waiting

abbrev pub IsRefusedAmong : AskFault → Standing → List Message → Type 0
IsRefusedAmong fault standing [] = ⊥
IsRefusedAmong fault standing (message ∷ rest) =
    RefusesAsk (role_for standing.settings) (Send standing.channel message) fault standing.endpoint standing.endpoint

-- a message that is refused so may go later
abbrev pub IsReasonToWait : AskFault → Type 0
IsReasonToWait fault = (fault ≡ faults.ReplyPending) ⊎ (fault ≡ faults.Paused)

abbrev pub IsNoReasonToWait : AskFault → Type 0
IsNoReasonToWait fault = (fault ≢ faults.ReplyPending) × (fault ≢ faults.Paused)

-- the end refuses the oldest message, and nothing changes
abbrev pub IsRefusedFirst : AskFault → Standing → Type 0
IsRefusedFirst fault standing = IsRefusedAmong fault standing standing.waiting

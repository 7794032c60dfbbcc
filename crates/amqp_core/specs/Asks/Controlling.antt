-- What a heartbeat, or a decision in the handshake, makes of an end.
use Rattle.std.specs.Prelude.{◌≡◌, ℕ, List}
use Rattle.amqp_model.specs.End.Asks.{AskVerdict, Puts}
use Rattle.amqp_model.specs.End.Controls.{Control, control_verdict}
use Rattle.amqp_model.specs.Stream.Endpoint.{Endpoint, after_control}
use Rattle.amqp_model.specs.History.Histories.{History}
use Rattle.amqp_model.specs.End.LawfulHistories.{end_of, then_put}
use Rattle.amqp_model.specs.History.Negotiation.{Config}
use Rattle.amqp_model.specs.Wire.Notes.{Role}
use Rattle.amqp_model.specs.Laws.OctetLaws.{EndpointStandsFor}
use Rattle.amqp_model.specs.End.ReadingBack.{ControlReadsBack}
use Rattle.amqp_core.specs.Asks.Controlled.{frames_by, refusal_by}
use Rattle.amqp_core.specs.Faults.Numbers.{refusal_view}
use Rattle.amqp_core.specs.declared.faults.AskFault.{AskFault}

-- what comes of it at this end
abbrev pub verdict_at : (role : Role) → Config role → Control → Endpoint → AskVerdict
verdict_at role config control endpoint = control_verdict role config endpoint.end control

-- what the end stands for goes on with the frame that is put
abbrev pub ControlGoesOn : (role : Role) → Config role → Control → (old new : Endpoint) → Type 0
ControlGoesOn role config control old new =
    (history : History) (fed written : List ℕ)
    → EndpointStandsFor role config old history fed written
    → ∥ EndpointStandsFor role config new (then_put (frames_by (verdict_at role config control old)) history) fed
    written ∥₁

-- what comes of it is what every history gives that the end stands for
abbrev pub ControlIsOfHistory : (role : Role) → Config role → Control → Endpoint → Type 0
ControlIsOfHistory role config control old =
    (history : History) (fed written : List ℕ)
    → EndpointStandsFor role config old history fed written
    → control_verdict role config (end_of config history) control ≡ verdict_at role config control old

-- It is accepted: one frame is put, on channel 0, which reads back, and the end is left as the definitions say.
pub record AcceptsControl (role : Role) (config : Config role) (control : Control) (old new : Endpoint) : Type 0 where
  pub puts : verdict_at role config control old ≡ Puts (frames_by (verdict_at role config control old))
  pub left : new ≡ after_control role config old control
  pub reads_back : ControlReadsBack role config control
  pub follows : ControlGoesOn role config control old new
  pub of_history : ControlIsOfHistory role config control old

-- It is refused, by the refusal that applies, or where memory is refused; nothing changes.
pub record RefusesControl (role : Role) (config : Config role) (control : Control) (fault : AskFault)
    (old new : Endpoint) : Type 0 where
  pub refused : refusal_view fault ≡ refusal_by (verdict_at role config control old)
  pub same : new ≡ old
  pub of_history : ControlIsOfHistory role config control old

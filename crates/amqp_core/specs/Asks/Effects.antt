-- What an ask makes of an end.
use Rattle.std.specs.Prelude.{◌≡◌, true, ℕ, List, Some, None}
use Rattle.amqp_model.specs.End.Asks.{Ask, AskVerdict, Puts, Refusal, Refused, ask_verdict, frames_asked, is_made}
use Rattle.amqp_model.specs.End.Asks.{refusal}
use Rattle.amqp_model.specs.Stream.Endpoint.{Endpoint, after_ask}
use Rattle.amqp_model.specs.History.Histories.{History}
use Rattle.amqp_model.specs.End.LawfulHistories.{end_of, then_put}
use Rattle.amqp_model.specs.History.Negotiation.{Config}
use Rattle.amqp_model.specs.Wire.Notes.{Role}
use Rattle.amqp_model.specs.Laws.OctetLaws.{EndpointStandsFor}
use Rattle.amqp_model.specs.End.ReadingBack.{AskReadsBack}
use Rattle.amqp_core.specs.Faults.Numbers.{refusal_view}
use Rattle.amqp_core.specs.declared.faults.AskFault.{AskFault}

-- what the end stands for goes on with the frames that are put
abbrev pub AskGoesOn : (role : Role) → Config role → Ask → (old new : Endpoint) → Type 0
AskGoesOn role config ask old new =
    (history : History) (fed written : List ℕ)
    → EndpointStandsFor role config old history fed written
    → EndpointStandsFor role config new (then_put (frames_asked old.end ask) history) fed written

-- what comes of the ask by every history that the end stands for
abbrev pub AskIsOfHistory : (role : Role) → Config role → Ask → Endpoint → AskVerdict → Type 0
AskIsOfHistory role config ask old verdict =
    (history : History) (fed written : List ℕ)
    → EndpointStandsFor role config old history fed written
    → ask_verdict role (end_of config history) ask ≡ verdict

-- It is accepted: no refusal applies, the end is left as the definitions say, and what is put reads back.
pub record AcceptsAsk (role : Role) (config : Config role) (ask : Ask) (old new : Endpoint) : Type 0 where
  pub allowed : refusal role old.end ask ≡ None
  pub left : new ≡ after_ask role config old ask
  pub reads_back : AskReadsBack ask
  pub made : is_made ask ≡ true
  pub follows : AskGoesOn role config ask old new
  -- so it is by the history: it accepts the ask, and puts these frames
  pub of_history : AskIsOfHistory role config ask old (Puts (frames_asked old.end ask))

-- It is refused, with the first refusal that applies, or where memory is refused; nothing changes.
pub record RefusesAsk (role : Role) (ask : Ask) (fault : AskFault) (old new : Endpoint) : Type 0 where
  pub refused : refusal_view fault ≡ refusal role old.end ask
  pub same : new ≡ old
  -- so it is by the history, where memory is not what was refused
  pub of_history :
      (config : Config role) (reason : Refusal) → refusal_view fault ≡ Some reason
      → AskIsOfHistory role config ask old (Refused reason)

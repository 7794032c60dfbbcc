-- What a piece, an ask and a write make of each history that a lending end stands for: an end that gathers whole
-- contents, to which it is alike, stands for the history (`StreamStandsFor`), and it goes on as that end does.
use Rattle.std.specs.Prelude.{◌≡◌, cond, Bool, ℕ, List, ◌++◌, take}
use Rattle.amqp_model.specs.End.Asks.{Ask, ask_verdict, frames_asked}
use Rattle.amqp_model.specs.End.Controls.{Control, control_verdict}
use Rattle.amqp_model.specs.End.LawfulHistories.{end_of, then_put}
use Rattle.amqp_model.specs.History.Histories.{History}
use Rattle.amqp_model.specs.History.Negotiation.{Config}
use Rattle.amqp_model.specs.Laws.OctetLaws.{EndpointStandsFor}
use Rattle.amqp_model.specs.Laws.StreamingLaws.{StreamStandsFor}
use Rattle.amqp_model.specs.Lent.Alike.{AlikeEndpoints}
use Rattle.amqp_model.specs.Output.Outputs.{output_octets}
use Rattle.amqp_model.specs.Stream.Endpoint.{Endpoint, after_feed}
use Rattle.amqp_model.specs.Wire.Notes.{Role}
use Rattle.amqp_core.specs.Asks.Controlled.{frames_by}
use Rattle.amqp_core.specs.Asks.Controlling.{verdict_at}
use Rattle.amqp_core.specs.End.Feeding.{ran_out_of}
use Rattle.amqp_core.specs.End.Following.{GoesOn}
use Rattle.amqp_core.specs.Stream.Lending.{AlikeEndpoint}

-- what a piece leaves of an end that gathers: what the definitions leave, or, out of memory, the end as it was, which
-- has failed
abbrev pub gathered_then : (role : Role) → Config role → (out_of_memory : Bool) → Endpoint → (piece : List ℕ) → Endpoint
gathered_then role config out_of_memory gathers piece =
    cond out_of_memory (ran_out_of gathers) (after_feed role config gathers piece).endpoint

-- after a piece
pub record StreamGoesOn (role : Role) (config : Config role) (out_of_memory : Bool) (old : Endpoint)
    (history : History) (fed written piece : List ℕ) (new : Endpoint) : Type 0 where
  -- this end gathers whole contents, stands for the history, and is alike
  pub gathers : Endpoint
  pub stands : EndpointStandsFor role config gathers history fed written
  pub alike : AlikeEndpoints gathers old
  -- the piece makes of the history what it makes of it there
  pub goes_on :
      GoesOn role config out_of_memory gathers history fed written piece (after_feed role config gathers piece)
      (gathered_then role config out_of_memory gathers piece)
  -- and what is left is alike to what is left there
  pub left : AlikeEndpoint (gathered_then role config out_of_memory gathers piece) new

-- after an ask that is accepted
abbrev pub StreamAskGoesOn : (role : Role) → Config role → Ask → (old new : Endpoint) → Type 0
StreamAskGoesOn role config ask old new =
    (history : History) (fed written : List ℕ)
    → StreamStandsFor role config old history fed written
    → StreamStandsFor role config new (then_put (frames_asked old.end ask) history) fed written

-- what comes of an ask is what each history gives
abbrev pub StreamAskIsOfHistory : (role : Role) → Config role → Ask → Endpoint → Type 0
StreamAskIsOfHistory role config ask old =
    (history : History) (fed written : List ℕ)
    → StreamStandsFor role config old history fed written
    → ask_verdict role (end_of config history) ask ≡ ask_verdict role old.end ask

-- after a heartbeat or a decision that is accepted
abbrev pub StreamControlGoesOn : (role : Role) → Config role → Control → (old new : Endpoint) → Type 0
StreamControlGoesOn role config control old new =
    (history : History) (fed written : List ℕ)
    → StreamStandsFor role config old history fed written
    → ∥ StreamStandsFor role config new (then_put (frames_by (verdict_at role config control old)) history) fed
    written ∥₁

-- what comes of it is what each history gives
abbrev pub StreamControlIsOfHistory : (role : Role) → Config role → Control → Endpoint → Type 0
StreamControlIsOfHistory role config control old =
    (history : History) (fed written : List ℕ)
    → StreamStandsFor role config old history fed written
    → control_verdict role config (end_of config history) control ≡ verdict_at role config control old

-- after so many octets of the output were written
abbrev pub StreamWroteGoesOn : (role : Role) → Config role → (octets : ℕ) → (old new : Endpoint) → Type 0
StreamWroteGoesOn role config octets old new =
    (history : History) (fed written : List ℕ)
    → StreamStandsFor role config old history fed written
    → StreamStandsFor role config new history fed (written ++ take octets (output_octets old.output))

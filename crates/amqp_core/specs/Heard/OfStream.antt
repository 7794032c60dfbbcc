-- What a feed of a lending end makes of each history of which it keeps what was heard. Read before: what it makes of
-- these at an end that gathers (`OfEnd`), and what a lending end stands for (`Stream.History`).
use Rattle.std.specs.Prelude.{ℕ, List}
use Rattle.amqp_model.specs.End.Heard.{Heard}
use Rattle.amqp_model.specs.History.Histories.{History}
use Rattle.amqp_model.specs.History.Negotiation.{Config}
use Rattle.amqp_model.specs.Laws.HeardLaws.{KeepsHeard}
use Rattle.amqp_model.specs.Laws.OctetLaws.{EndpointStandsFor}
use Rattle.amqp_model.specs.Laws.StreamingLaws.{StreamStandsFor}
use Rattle.amqp_model.specs.Lent.Alike.{AlikeEndpoints}
use Rattle.amqp_model.specs.Stream.Endpoint.{Endpoint, after_feed}
use Rattle.amqp_model.specs.Wire.Notes.{Role}
use Rattle.amqp_core.specs.Heard.OfEnd.{HearsOn}
use Rattle.amqp_core.specs.Stream.Lending.{AlikeEndpoint}

-- after a piece
pub record StreamHearsOn (role : Role) (config : Config role) (old : Endpoint) (history : History)
    (fed written piece : List ℕ) (new : Endpoint) (kept : Heard) : Type 0 where
  -- this end gathers whole contents, stands for the history, and is alike
  pub gathers : Endpoint
  pub stands : EndpointStandsFor role config gathers history fed written
  pub alike : AlikeEndpoints gathers old
  -- of the history that follows there, it is kept what was heard
  pub hears : HearsOn role config gathers fed written piece (after_feed role config gathers piece) kept
  -- and what is left is alike to what is left there
  pub left : AlikeEndpoint (after_feed role config gathers piece).endpoint new

-- so of each history that the end stood for and of which it kept what was heard
abbrev pub StreamHearingGoesOn :
    (role : Role) → Config role → (old : Endpoint) → (piece : List ℕ) → (new : Endpoint) → (before after : Heard)
    → Type 0
StreamHearingGoesOn role config old piece new before after =
    (history : History) (fed written : List ℕ)
    → StreamStandsFor role config old history fed written → KeepsHeard role config before history
    → ∥ StreamHearsOn role config old history fed written piece new after ∥₁

-- What an end answers of what it heard in the handshake, by each history of which it keeps what was heard, and what a
-- feed makes of these. Read before: what it keeps (`View`), and what it stands for (`Following`).
use Rattle.std.specs.Prelude.{◌≡◌, ◌⊎◌, Bool, true, false, ℕ, List, Option}
use Rattle.amqp_method.specs.declared.kinds.Kind.TheVariants as kinds
use Rattle.amqp_model.specs.End.Heard.{Heard, heard}
use Rattle.amqp_model.specs.History.Histories.{History}
use Rattle.amqp_model.specs.History.Negotiation.{Config}
use Rattle.amqp_model.specs.Laws.HeardLaws.{KeepsHeard}
use Rattle.amqp_model.specs.Laws.OctetLaws.{EndpointStandsFor, HasFailedThen, StandsThen}
use Rattle.amqp_model.specs.Stream.Endpoint.{Endpoint, Feeding, after_feed}
use Rattle.amqp_model.specs.Wire.Methods.{Method, MethodKind}
use Rattle.amqp_model.specs.Wire.Notes.{Role}

-- a method of this kind is kept
abbrev pub is_kept : MethodKind → Bool
is_kept kinds.ConnectionStart = true
is_kept kinds.ConnectionStartOk = true
is_kept kinds.ConnectionTune = true
is_kept kinds.ConnectionTuneOk = true
is_kept kinds.ConnectionOpen = true
is_kept kind = false

-- of a kind that is kept it is the last method that was heard, by each history of which this is what was heard
abbrev pub IsLastHeard : (role : Role) → Config role → Heard → MethodKind → Option Method → Type 0
IsLastHeard role config kept kind method =
    (history : History) → KeepsHeard role config kept history → is_kept kind ≡ true
    → method ≡ heard role config kind history

-- What comes of a piece: the history that follows, for which the end stands then, or with which it has failed, and of
-- which it keeps what was heard.
pub record HearsOn (role : Role) (config : Config role) (old : Endpoint) (fed written piece : List ℕ) (new : Feeding)
    (kept : Heard) : Type 0 where
  pub after : History
  pub stands :
      StandsThen role config after fed written piece new
      ⊎ ((opening : List ℕ) × HasFailedThen role config old opening after fed written piece new)
  pub keeps : KeepsHeard role config kept after

-- so of each history that the end stood for and of which it kept what was heard
abbrev pub HearingGoesOn :
    (role : Role) → Config role → (old : Endpoint) → (piece : List ℕ) → (new : Endpoint) → (before after : Heard)
    → Type 0
HearingGoesOn role config old piece new before after =
    (history : History) (fed written : List ℕ)
    → EndpointStandsFor role config old history fed written → KeepsHeard role config before history
    → ∥ HearsOn role config old fed written piece
    (record (after_feed role config old piece) { endpoint = new }) after ∥₁

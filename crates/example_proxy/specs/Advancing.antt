-- Asks that go to an end in turn: what waits, what one after another makes of the end, and why it stops.
use Rattle.std.specs.Prelude.{◌≡◌, ◌≢◌, cond, ℕ, List, [], ◌∷◌, Option, None}
use Rattle.amqp_model.specs.End.Asks.{Ask, refusal}
use Rattle.amqp_model.specs.Stream.Endpoint.{Endpoint}
use Rattle.amqp_core.specs.Asks.Effects.{AcceptsAsk}
use Rattle.amqp_core.specs.Config.Settings.{config_view, role_for}
use Rattle.amqp_core.specs.declared.settings.Settings.{Settings}
use Rattle.example_loop.specs.AskingView.{closes}

-- the asks that wait, the oldest first, and the end that is to take them
pub record Standing : Type 0 where
  pub settings : Settings
  pub waiting : List Ask
  pub endpoint : Endpoint

-- these wait then, and the end is this
abbrev pub left_with : Standing → List Ask → Endpoint → Standing
left_with before rest endpoint = record { settings = before.settings; waiting = rest; endpoint = endpoint }

-- the end accepts the ask
abbrev pub Accepts : Standing → Ask → Endpoint → Type 0
Accepts before ask endpoint =
    AcceptsAsk (role_for before.settings) (config_view before.settings) ask before.endpoint endpoint

-- One ask after another is accepted, each the oldest of those that wait. So those that were accepted, and then those
-- that still wait, are those that waited.
pub data Advances (old : Standing) : Standing → Type 0 where
  none_sent : Advances old old
  sends_next :
      (between : Standing) (ask : Ask) (rest : List Ask) (endpoint : Endpoint) → Advances old between
      → between.waiting ≡ ask ∷ rest → Accepts between ask endpoint → Advances old (left_with between rest endpoint)

abbrev pub HasToWait : Standing → List Ask → Type 0
HasToWait standing [] = Unit {0}
HasToWait standing (ask ∷ rest) = refusal (role_for standing.settings) standing.endpoint.end ask ≢ None

-- none is left, or the end refuses the oldest
abbrev pub Rests : Standing → Type 0
Rests standing = HasToWait standing standing.waiting

-- With a close a channel loses its partner: what is said on it from then on is not passed on.
abbrev pub partner_after : Ask → Option ℕ → Option ℕ
partner_after ask partner = cond (closes ask) None partner

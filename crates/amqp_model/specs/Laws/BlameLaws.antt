-- What is blamed for a fault is what the verdict on a frame finds: the statements that the public laws carry.
use Rattle.std.specs.Prelude.{◌≡◌, true, ℕ, List, Option, Some, None}
use Rattle.amqp_frame.specs.declared.faults.FrameFaultKind.{FrameFaultKind}
use Rattle.amqp_model.specs.Wire.Notes.{Role}
use Rattle.amqp_model.specs.Wire.Readings.{Reading}
use Rattle.amqp_model.specs.Lent.Alike.{AlikeEnds}
use Rattle.amqp_model.specs.End.Channels.{End}
use Rattle.amqp_model.specs.History.Negotiation.{Config}
use Rattle.amqp_model.specs.End.Events.{Faults}
use Rattle.amqp_model.specs.End.FrameVerdict.{Facts, verdict_on}
use Rattle.amqp_model.specs.End.EndVerdict.{facts_at, goes_on, takes_octets}
use Rattle.amqp_model.specs.Stream.Endpoint.{fault_told, Endpoint, Outcome, Found, after_feed}
use Rattle.amqp_model.specs.End.Blame.{Rule, fault_of, rule_of_octets, blamed, Blame}
use Rattle.amqp_model.specs.Stream.BlameAtOctets.{blame_in_feed}

-- a frame that breaks a rule is found fault with, with the fault that breaking the rule is
abbrev pub BlamedIsFault : Type 0
BlamedIsFault =
    (role : Role) (facts : Facts role) (reading : Reading) (rule : Rule)
    → blamed facts reading ≡ Some rule → verdict_on facts reading ≡ Faults (fault_of rule)

-- An end that is not over goes on with each frame that breaks no rule.
abbrev pub FaultIsBlamed : Type 0
FaultIsBlamed =
    (role : Role) (facts : Facts role) (reading : Reading)
    → takes_octets facts.phase ≡ true → blamed facts reading ≡ None
    → goes_on (verdict_on facts reading) ≡ true

-- Octets that show a fault break a rule whose fault is that one.
abbrev pub OctetsAreBlamed : Type 0
OctetsAreBlamed =
    (kind : FrameFaultKind) (rule : Rule)
    → rule_of_octets kind ≡ Some rule → fault_of rule ≡ fault_told kind

-- alike ends blame the same
abbrev pub BlamedAlike : Type 0
BlamedAlike =
    (role : Role) (config : Config role) (one other : End) (number : ℕ) (reading : Reading) → AlikeEnds one other
    → blamed (facts_at config one number) reading ≡ blamed (facts_at config other number) reading

-- What is told of a piece is of the fault that comes of it, and nothing is told where no fault comes.
abbrev pub TellsFinding : Outcome → Option Blame → Type 0
TellsFinding (Found fault) (Some blame) = fault ≡ fault_of blame.rule
TellsFinding (Found fault) None = ⊥
TellsFinding outcome None = Unit {0}
TellsFinding outcome (Some blame) = ⊥

-- Where octets are taken, the rule told to be broken by a piece has the fault that the piece comes to; and none is told
-- where no fault comes.
abbrev pub FeedTells : Type 0
FeedTells =
    (role : Role) (config : Config role) (endpoint : Endpoint) (piece : List ℕ)
    → takes_octets endpoint.end.phase ≡ true
    → TellsFinding (after_feed role config endpoint piece).outcome (blame_in_feed role config endpoint piece)

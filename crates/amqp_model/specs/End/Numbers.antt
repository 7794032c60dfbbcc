-- How many channels an end keeps a record of, at most: none above the agreed maximum.
use Rattle.std.specs.Prelude.{◌≡◌, ◌<◌, false, ℕ}
use Rattle.amqp_model.specs.Wire.Notes.{Role}
use Rattle.amqp_model.specs.History.Histories.{History}
use Rattle.amqp_model.specs.End.Channels.{Free, End}
use Rattle.amqp_model.specs.History.Negotiation.{Config}
use Rattle.amqp_model.specs.End.Asks.{channel_max}
use Rattle.amqp_model.specs.End.ReadingBack.{WritesReadBack}
use Rattle.amqp_model.specs.End.LawfulHistories.{Lawful}
use Rattle.amqp_model.specs.End.Machine.{StandsFor}

-- every channel above the agreed maximum is Free, and while nothing is agreed every channel above 0
abbrev pub NoneAbove : End → Type 0
NoneAbove end = (n : ℕ) → channel_max end.agreed < n → end.channels n ≡ Free

-- Every end that stands for a lawful history keeps no record of a channel above the agreed maximum.
abbrev pub StandsNumbered : Type 0
StandsNumbered =
    (role : Role) (config : Config role) (end : End) (history : History)
    → WritesReadBack role config → Lawful role config false history → StandsFor role config false end history
    → NoneAbove end

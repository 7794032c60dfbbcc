-- How many octets an end keeps of contents, at most.
use Rattle.std.specs.Prelude.{◌≤◌, ℕ, ◌+◌, ◌*◌, List}
use Rattle.amqp_model.specs.Wire.Notes.{Role}
use Rattle.amqp_model.specs.History.Histories.{History}
use Rattle.amqp_model.specs.History.Negotiation.{Config, frame_limit}
use Rattle.amqp_model.specs.End.Amounts.{contents_kept}
use Rattle.amqp_model.specs.End.Asks.{channel_max}
use Rattle.amqp_model.specs.End.Channels.{End}
use Rattle.amqp_model.specs.End.ReadingBack.{WritesReadBack}
use Rattle.amqp_model.specs.Laws.OctetLaws.{EndpointStandsFor}
use Rattle.amqp_model.specs.Stream.Endpoint.{Endpoint}

-- for each channel that was agreed, the greatest body and the greatest frame
abbrev pub most_contents : {role : Role} → Config role → End → ℕ
most_contents config end = channel_max end.agreed * (config.max_body + frame_limit end.agreed)

-- so much is kept at most of the contents under way, by every end that stands for a history and what it was fed
abbrev pub ContentsAreWithin : Type 0
ContentsAreWithin =
    (role : Role) (config : Config role) (endpoint : Endpoint) (history : History) (fed written : List ℕ)
    → WritesReadBack role config → EndpointStandsFor role config endpoint history fed written
    → (most : ℕ) → contents_kept most endpoint.end ≤ most_contents config endpoint.end

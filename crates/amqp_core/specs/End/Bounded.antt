-- How much an end keeps.
use Rattle.std.specs.Prelude.{◌≡◌, true}
use Rattle.amqp_model.specs.End.Bounds.{EndIsWithin}
use Rattle.amqp_model.specs.End.Channels.{End}
use Rattle.amqp_model.specs.End.EndVerdict.{takes_octets}
use Rattle.amqp_model.specs.History.Negotiation.{Config}
use Rattle.amqp_model.specs.Wire.Notes.{Role}

-- each channel of a connection that goes on is within its bounds
abbrev pub IsBounded : (role : Role) → Config role → End → Type 0
IsBounded role config end = takes_octets end.phase ≡ true → ∥ EndIsWithin role config end ∥₁

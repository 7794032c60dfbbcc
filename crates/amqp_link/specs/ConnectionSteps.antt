-- What is done with a connection.
use Rattle.std.specs.Prelude.{◌≡◌, ℕ}
use Rattle.amqp_model.specs.End.Asks.{Ask}
use Rattle.amqp_model.specs.End.Controls.{Control}
use Rattle.amqp_model.specs.History.Negotiation.{Config}
use Rattle.amqp_model.specs.Wire.Notes.{Role, Client, Server}
use Rattle.amqp_link.specs.Seats.{Joint, Seated}
use Rattle.amqp_link.specs.SeatSteps.{Answer, IsNew, SideAsked, SideControlled, SideDropped, SidesCarry}
use Rattle.amqp_link.specs.declared.steps.Direction.{Direction}
use Rattle.amqp_link.specs.declared.steps.Direction.TheVariants as directions

-- the side that writes, and the one that reads
abbrev pub writer_in : Direction → Joint → Seated
writer_in directions.ToServer joint = joint.client
writer_in directions.ToClient joint = joint.server

abbrev pub reader_in : Direction → Joint → Seated
reader_in directions.ToServer joint = joint.server
reader_in directions.ToClient joint = joint.client

abbrev pub reading_role : Direction → Role
reading_role directions.ToServer = Server
reading_role directions.ToClient = Client

-- a connection as it begins
pub record IsNewConnection (client_set_up server_set_up : (role : Role) × Config role) (joint : Joint) : Type 0 where
  pub client : IsNew client_set_up joint.client
  pub server : IsNew server_set_up joint.server

-- one side is asked, and the other stays as it is
abbrev pub ConnectionAsked : Role → Ask → (old : Joint) → Answer → (new : Joint) → Type 0
ConnectionAsked Client ask old result new = SideAsked ask old.client result new.client × (new.server ≡ old.server)
ConnectionAsked Server ask old result new = SideAsked ask old.server result new.server × (new.client ≡ old.client)

-- one side beats or decides, and the other stays as it is
abbrev pub ConnectionControlled : Role → Control → (old : Joint) → Answer → (new : Joint) → Type 0
ConnectionControlled Client control old result new = SideControlled control old.client result new.client
    × (new.server ≡ old.server)
ConnectionControlled Server control old result new = SideControlled control old.server result new.server
    × (new.client ≡ old.client)

-- one side is dropped, and the other stays as it is
abbrev pub ConnectionDrops : Role → (old : Joint) → Answer → (new : Joint) → Type 0
ConnectionDrops Client old result new = SideDropped old.client result new.client × (new.server ≡ old.server)
ConnectionDrops Server old result new = SideDropped old.server result new.server × (new.client ≡ old.client)

-- octets are carried from one side to the other
abbrev pub ConnectionCarries : Direction → (octets : ℕ) → (old : Joint) → Answer → (new : Joint) → Type 0
ConnectionCarries direction octets old result new =
    SidesCarry octets (writer_in direction old) (reader_in direction old) result (writer_in direction new)
    (reader_in direction new)

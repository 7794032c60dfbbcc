-- The roles of the code, in the words of the model, and which methods each may put and take: `amqp0-9-1.xml` says of
-- each method which peer accepts it. Read before: the model's `Wire.Notes`.
use Rattle.std.specs.Prelude.{◌≡◌, Bool, not}
use Rattle.amqp_model.specs.Wire.Notes.{Role, Client, Server, other_end, is_client}
use Rattle.amqp_model.specs.Wire.Methods.{MethodKind, sends}
use Rattle.amqp_channel.specs.declared.side.Side.{Side}
use Rattle.amqp_channel.specs.declared.side.Side.TheVariants as side

-- the role that a side plays
abbrev pub role_of : Side → Role
role_of side.Client = Client
role_of side.Server = Server

-- an end of this role may put the method
abbrev pub sent_by : Role → MethodKind → Bool
sent_by role kind = sends (is_client role) kind

-- an end of this role may take the method
abbrev pub taken_by : Role → MethodKind → Bool
taken_by role kind = sends (not (is_client role)) kind

-- what one role may put is what the other may take
abbrev pub SentIsTaken : Role → MethodKind → Type 0
SentIsTaken role kind = taken_by (other_end role) kind ≡ sent_by role kind

-- A law of the two roles.
use Rattle.amqp_model.specs.Wire.Methods.{MethodKind}
use Rattle.amqp_model.specs.Wire.Notes.{Role}
use Rattle.amqp_channel.specs.Roles.{SentIsTaken}

-- Of each kind of method, what one role may put is what the other may take.
abbrev pub SentIsTakenByAll : Type 0
SentIsTakenByAll = (role : Role) (kind : MethodKind) → SentIsTaken role kind

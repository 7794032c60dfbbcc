use Rattle.std.proofs.Common.{refl}
use Rattle.amqp_model.specs.Wire.Notes.{Role, Client, Server}
use Rattle.amqp_model.specs.Wire.Methods.{MethodKind}
use Rattle.amqp_channel.specs.Roles.{SentIsTaken}
use Rattle.amqp_core.proofs.laws.sent_is_taken.Goals as goal

-- role by role
sent_is_taken_lem : (role : Role) (kind : MethodKind) → SentIsTaken role kind
sent_is_taken_lem Client kind = refl
sent_is_taken_lem Server kind = refl

pub returns : goal.returns
returns c = sent_is_taken_lem

use Rattle.std.proofs.Common.{refl}
use Rattle.amqp_typed.specs.Basic.{get_ok_call}
use Rattle.amqp_typed.proofs.Carrying.{carries}
use Rattle.amqp_typed.proofs.basic.GetOk.message.Goals as goal

pub content_of-requires : goal.content_of-requires
content_of-requires c = carries _ (get_ok_call c.args.self) c.into_method.ensures refl

pub returns : goal.returns
returns c = c.content_of.ensures (get_ok_call c.args.self) c.into_method.ensures

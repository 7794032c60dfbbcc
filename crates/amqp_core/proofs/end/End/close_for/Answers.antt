-- The cause that is put is that of the kind.
use Rattle.std.proofs.Common.{subst}
use Rattle.amqp_model.specs.End.Asks as asks
use Rattle.amqp_model.specs.End.Closes.{Cause}
use Rattle.amqp_core.specs.End.Asks.{Asked}
use Rattle.amqp_core.proofs.end.End.close_for.Goals as goal

pub returns : goal.returns
returns g c = subst (λ (cause : Cause). Asked c.args.self.now (asks.Close c.args.code c.args.text.now cause) c.put_close.result c.put_close.new.self) c.by-cause.ensures c.put_close.ensures

-- The cause that is put is that of the kind.
use Rattle.std.proofs.Common.{subst}
use Rattle.amqp_model.specs.End.Asks as asks
use Rattle.amqp_model.specs.End.Closes.{Cause}
use Rattle.amqp_core.specs.Stream.Asks.{StreamAsked}
use Rattle.amqp_core.proofs.stream.StreamEnd.close_channel_for.Goals as goal

pub returns : goal.returns
returns g c = subst (λ (cause : Cause). StreamAsked c.args.self.now (asks.CloseChannel c.args.channel c.args.code c.args.text.now cause) c.put_channel_close.result c.put_channel_close.new.self) c.by-cause.ensures c.put_channel_close.ensures

use Rattle.std.proofs.Common.{arith}
use Rattle.amqp_value.specs.Tables.{table_view}
use Rattle.amqp_core.proofs.GreetingLengths.{start_ok-length}
use Rattle.amqp_core.proofs.settings.start_ok_length.Goals as goal

pub returns : goal.returns
returns c = let whole = start_ok-length (table_view c.args.properties.now) c.args.mechanism.now c.args.response.now c.args.locale.now in omega arith

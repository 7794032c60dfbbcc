use Rattle.amqp_method.proofs.CommonProperties.{none_common}
use Rattle.amqp_method.proofs.header_checker.are_common.Goals as goal

pub returns-then-flags-eq0 : goal.returns-then-flags-eq0
returns-then-flags-eq0 c = none_common c.args.flags c.args.end c.args.octets.now c.is_empty.result c.if-flags-eq0.true c.is_empty.ensures

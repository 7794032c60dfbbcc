use Rattle.std.proofs.Common.{sym}
use Rattle.amqp_calls.specs.LentContents.LendsAfter.{follows}
use Rattle.amqp_calls.proofs.ends.slices.lend_after.Goals as goal

pub returns : goal.returns
returns g c = follows (sym c.if-not-has_content.ensures) c.lend_call.ensures

use Rattle.std.proofs.Common.{sym}
use Rattle.amqp_calls.specs.BegunContents.BeginsAfter.{follows}
use Rattle.amqp_calls.proofs.ends.beginning.begin_after.Goals as goal

pub returns : goal.returns
returns g c = follows (sym c.if-not-has_content.ensures) c.begin_call.ensures

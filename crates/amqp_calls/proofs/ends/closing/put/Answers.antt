use Rattle.std.proofs.Common.{sym, subst}
use Rattle.amqp_core.specs.Stream.Asks.{StreamAsked}
use Rattle.amqp_calls.specs.Closing.{close_view}
use Rattle.amqp_calls.proofs.ends.closing.put.Goals as goal

pub returns-in-Channel : goal.returns-in-Channel
returns-in-Channel g c =
    subst (λ close. StreamAsked c.args.end.now (close_view close) c.close_channel_for.result c.close_channel_for.new.self) (sym c.in-Channel.is)
    c.close_channel_for.ensures

pub returns-in-Connection : goal.returns-in-Connection
returns-in-Connection g c =
    subst (λ close. StreamAsked c.args.end.now (close_view close) c.close_for.result c.close_for.new.self) (sym c.in-Connection.is) c.close_for.ensures

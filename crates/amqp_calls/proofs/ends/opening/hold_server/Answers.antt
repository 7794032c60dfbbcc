use Rattle.std.proofs.Common.{sym, subst}
use Rattle.amqp_core.specs.Stream.Turning.{TurnsLending}
use Rattle.amqp_calls.proofs.ends.opening.hold_server.Goals as goal

pub returns-clause-ok : goal.returns-clause-ok
returns-clause-ok c =
    record {
      end = c.in_ok-end.end;
      begins = c.in_ok-end.ensures.ok;
      turns = subst (λ stream. TurnsLending c.in_ok-end.end stream) (sym c.in_ok-kept.ensures.ok.0) c.into_stream.ensures;
      gathers = c.in_ok-kept.ensures.ok.1;
    }

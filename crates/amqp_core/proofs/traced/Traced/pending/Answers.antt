-- The octets that are pending are those after the last whole frame.
use Rattle.amqp_core.specs.Traced.View.{config_at, role_played, traced_of}
use Rattle.amqp_core.proofs.QueryLemmas.{traced_pending_is}
use Rattle.amqp_core.proofs.traced.Traced.pending.Goals as goal

pub returns-clause-history : goal.returns-clause-history
returns-clause-history g c =
    let self = c.args.self.now in
    record {
      one = self.traces;
      each = λ history traced on. traced_pending_is (role_played self) (config_at self) (traced_of self) history c.pending.result traced c.pending.ensures.count on;
    }

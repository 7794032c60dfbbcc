-- The order is that of its history.
use Rattle.amqp_core.specs.Traced.View.{config_at, role_played, traced_of}
use Rattle.amqp_core.proofs.OutputLemmas.{traced_in_order}
use Rattle.amqp_core.proofs.traced.Traced.output.Goals as goal

pub returns-clause-order : goal.returns-clause-order
returns-clause-order g c =
    let self = c.args.self.now in
    record {
      one = self.traces;
      each = λ history traced. traced_in_order (role_played self) (config_at self) (traced_of self) history c.output.ensures.order traced;
    }

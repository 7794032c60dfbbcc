-- What waited is what the queue has more, and counts as written.
use Rattle.std.proofs.Common.{subst, rules}
use Rattle.amqp_core.specs.End.Writes.{Wrote}
use Rattle.amqp_core.proofs.end.End.hand_over.Goals as goal

pub returns : goal.returns
returns g c =
    let wrote = subst (λ n. Wrote c.args.self.now n c.wrote.new.self) c.waiting_in_all-octets.ensures
    c.wrote.ensures in
    record {
      added = search rules;
      none_begun = search rules;
      wrote = wrote;
      begun = search rules;
      queue_same = search rules;
      same = search rules;
      counters_same = search rules;
      heard = wrote.heard;
      settings = wrote.settings;
    }

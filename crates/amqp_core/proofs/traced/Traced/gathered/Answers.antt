-- The octets of a body are those that its history counts.
use Rattle.std.proofs.Common.{suc}
use Rattle.amqp_model.specs.History.Histories.{entries_on}
use Rattle.amqp_core.specs.End.Counted.{is_failed}
use Rattle.amqp_core.specs.Traced.View.{config_at, role_played, traced_of}
use Rattle.amqp_core.proofs.QueryLemmas.{gathered_is, standing}
use Rattle.amqp_core.proofs.traced.Traced.gathered.Goals as goal

pub returns-clause-history : goal.returns-clause-history
returns-clause-history g c =
    let self = c.args.self.now in
    let role = role_played self in
    let config = config_at self in
    let kept = traced_of self in
    let end = kept.endpoint.end in
    let failed = is_failed end.phase in
    record {
      one = self.traces;
      each = λ history traced. gathered_is role config failed end history c.args.channel c.gathered.result
          (c.answers_are_of_history.ensures role config failed end history c.args.channel)
          (record { channel = λ n. c.record_reads.ensures.channel role (end.channels (suc n)) (entries_on (suc n) history); state = λ n. c.record_reads.ensures.state role (entries_on (suc n) history) })
          (c.octets_are_of_body.ensures.under_way role config end history) (c.octets_are_of_body.ensures.none role config end history)
          (standing role config kept history traced.stands).stands c.gathered.ensures.gathered;
    }

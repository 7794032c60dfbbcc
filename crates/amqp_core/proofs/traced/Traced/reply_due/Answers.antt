-- The request that is due is the one that its history counts.
use Rattle.std.proofs.Common.{suc}
use Rattle.amqp_model.specs.History.Histories.{entries_on}
use Rattle.amqp_core.specs.End.Counted.{is_failed}
use Rattle.amqp_core.specs.Traced.View.{config_at, role_played, traced_of}
use Rattle.amqp_core.proofs.QueryLemmas.{due_is, standing}
use Rattle.amqp_core.proofs.traced.Traced.reply_due.Goals as goal

pub returns-clause-history : goal.returns-clause-history
returns-clause-history g c =
    let self = c.args.self.now in
    let role = role_played self in
    let config = config_at self in
    let kept = traced_of self in
    let end = kept.endpoint.end in
    let failed = is_failed end.phase in
    record {
      one = self.traces;
      each = λ history traced.
          let it = standing role config kept history traced.stands in
          due_is role config failed end history c.args.channel c.reply_due.result
          (c.answers_are_of_history.ensures role config failed end history c.args.channel)
          (record { channel = λ n. c.record_reads.ensures.channel role (end.channels (suc n)) (entries_on (suc n) history); state = λ n. c.record_reads.ensures.state role (entries_on (suc n) history) })
          (c.unanswered_are_kept.ensures.due role config end history) (c.owed_read_back.ensures.all role config) self.end.kept.writes
          it.lawful it.stands c.reply_due.ensures.request;
    }

-- The request that is due is the one that every history counts.
use Rattle.std.proofs.Common.{false}
use Rattle.amqp_model.specs.History.Histories.{entries_on}
use Rattle.std.proofs.Common.{suc}
use Rattle.amqp_core.specs.End.View.{config_at, endpoint_of, role_played}
use Rattle.amqp_core.proofs.QueryLemmas.{due_is}
use Rattle.amqp_core.proofs.end.End.reply_due.Goals as goal

pub returns-clause-history : goal.returns-clause-history
returns-clause-history g c = λ history fed written stands.
    let end = c.args.self.now in
    let role = role_played end in
    let config = config_at end in
    let kept = (endpoint_of end).end in
    due_is role config false kept history c.args.channel c.reply_due.result
    (c.answers_are_of_history.ensures role config false kept history c.args.channel)
    (record { channel = λ n. c.record_reads.ensures.channel role (kept.channels (suc n)) (entries_on (suc n) history); state = λ n. c.record_reads.ensures.state role (entries_on (suc n) history) })
    (c.unanswered_are_kept.ensures.due role config kept history) (c.owed_read_back.ensures.all role config) end.kept.writes
    stands.lawful stands.stands c.reply_due.ensures

-- What is kept of a body is within its bound.
use Rattle.std.proofs.Common.{◌≤◌, ℕ, false, suc, sym, subst}
use Rattle.amqp_model.specs.History.Histories.{entries_on}
use Rattle.amqp_core.specs.End.View.{config_at, endpoint_of, role_played}
use Rattle.amqp_core.proofs.BoundLemmas.{gathered_within}
use Rattle.amqp_core.proofs.QueryLemmas.{gathered_is}
use Rattle.amqp_core.proofs.end.End.gathered.Goals as goal

pub returns-clause-most : goal.returns-clause-most
returns-clause-most g c =
    subst (λ (n : ℕ). n ≤ (config_at c.args.self.now).max_body) (sym c.gathered.ensures)
    (gathered_within (role_played c.args.self.now) (config_at c.args.self.now) (endpoint_of c.args.self.now).end c.args.channel (c.answers_are_bounded.ensures.octets (role_played c.args.self.now) (config_at c.args.self.now) (endpoint_of c.args.self.now).end c.args.channel) c.args.self.now.kept.bounded)

pub returns-clause-history : goal.returns-clause-history
returns-clause-history g c = λ history fed written stands.
    let end = c.args.self.now in
    let role = role_played end in
    let config = config_at end in
    let kept = (endpoint_of end).end in
    gathered_is role config false kept history c.args.channel c.gathered.result
    (c.answers_are_of_history.ensures role config false kept history c.args.channel)
    (record { channel = λ n. c.record_reads.ensures.channel role (kept.channels (suc n)) (entries_on (suc n) history); state = λ n. c.record_reads.ensures.state role (entries_on (suc n) history) })
    (c.octets_are_of_body.ensures.under_way role config kept history) (c.octets_are_of_body.ensures.none role config kept history)
    stands.stands c.gathered.ensures

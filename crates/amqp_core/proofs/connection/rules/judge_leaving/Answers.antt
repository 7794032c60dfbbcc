use Rattle.std.proofs.Common.{rules, ◌≡◌}
use Rattle.amqp_core.proofs.connection.rules.judge_leaving.Goals as goal

pub returns-in-Method-clause-rules : goal.returns-in-Method-clause-rules
returns-in-Method-clause-rules c =
    let zero : c.args.number ≡ 0 = search rules in
    rw (zero, c.in-Method.is) c.judge_leaving_call.ensures

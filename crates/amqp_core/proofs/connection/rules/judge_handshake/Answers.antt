use Rattle.std.proofs.Common.{rules, ◌≡◌}
use Rattle.amqp_core.proofs.connection.rules.judge_handshake.Goals as goal

pub returns-else-number-ne0-clause-rules : goal.returns-else-number-ne0-clause-rules
returns-else-number-ne0-clause-rules c =
    let zero : c.args.number ≡ 0 = search rules in
    rw (zero, c.in-Method.is) (λ channels free. c.judge_step.ensures channels)

pub returns-in-Heartbeat-clause-rules : goal.returns-in-Heartbeat-clause-rules
returns-in-Heartbeat-clause-rules c = rw c.in-Heartbeat.is (λ channels free. c.judge_beat.ensures.rules c.args.settings.now channels)

pub returns-in-Heartbeat-clause-light : goal.returns-in-Heartbeat-clause-light
returns-in-Heartbeat-clause-light c = rw c.in-Heartbeat.is (λ channel free. c.judge_beat.ensures.light channel)

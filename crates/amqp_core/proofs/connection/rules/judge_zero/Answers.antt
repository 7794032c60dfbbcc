use Rattle.amqp_model.specs.End.Channels.{Free}
use Rattle.amqp_core.proofs.connection.rules.judge_zero.Goals as goal

pub returns-in-Method-clause-rules : goal.returns-in-Method-clause-rules
returns-in-Method-clause-rules c = rw c.in-Method.is c.judge_connection.ensures

pub returns-in-Heartbeat-clause-rules : goal.returns-in-Heartbeat-clause-rules
returns-in-Heartbeat-clause-rules c = rw c.in-Heartbeat.is (λ channels. c.judge_beat.ensures.rules c.args.settings.now channels)

pub returns-in-Heartbeat-clause-light : goal.returns-in-Heartbeat-clause-light
returns-in-Heartbeat-clause-light c = rw c.in-Heartbeat.is (c.judge_beat.ensures.light Free)

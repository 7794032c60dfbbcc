use Rattle.amqp_core.proofs.connection.rules.judge_connection.Goals as goal

pub returns-then-same : goal.returns-then-same
returns-then-same c = λ channels. c.judge_close.ensures c.args.settings.now channels

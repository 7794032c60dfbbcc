use Rattle.amqp_method.specs.MethodRefView.{lent_call}
use Rattle.amqp_core.proofs.VerdictLemmas.{start_asked_rules, start_rules}
use Rattle.amqp_core.proofs.connection.rules.judge_start.Goals as goal

pub returns-then-settings : goal.returns-then-settings
returns-then-settings c =
    λ channels. start_asked_rules c.args.settings.now channels (lent_call c.args.method) c.requires.side c.requires.kind c.if-settings.true

pub returns : goal.returns
returns c =
    λ channels. start_rules c.args.settings.now channels (lent_call c.args.method) c.requires.side c.requires.kind c.if-settings.false

use Rattle.std.proofs.Common.{sym, subst}
use Rattle.amqp_channel.specs.ReadingView.{reading_view}
use Rattle.amqp_core.specs.Connection.Rulings.{OnChannel}
use Rattle.amqp_core.specs.Connection.Verdicts.{end_at, FrameRules}
use Rattle.amqp_core.specs.declared.stage.Stage.{Stage}
use Rattle.amqp_core.proofs.VerdictLemmas.{channel_rules}
use Rattle.amqp_core.proofs.connection.Connection.judge_on.Goals as goal

pub returns-clause-rules : goal.returns-clause-rules
returns-clause-rules c =
    let settings = c.args.self.now.settings in
    let channels = c.args.self.now.channels in
    let reading = reading_view c.args.reading in
    subst (λ (s : Stage). FrameRules settings (end_at s channels) c.args.number reading (OnChannel c.judge.result)) (sym c.requires.running)
    (channel_rules settings c.args.agreed channels c.args.number c.site.result reading c.judge.result c.site.ensures c.requires.above c.judge.ensures.rules)

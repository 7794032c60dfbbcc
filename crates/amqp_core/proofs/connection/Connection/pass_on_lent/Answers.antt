use Rattle.std.proofs.Common.{sym, subst, None}
use Rattle.amqp_channel.specs.ReadingView.{reading_view}
use Rattle.amqp_channel.specs.declared.verdict.Verdict.TheVariants.{Proceeds}
use Rattle.amqp_core.specs.Connection.Rulings.{OnChannel}
use Rattle.amqp_core.specs.Connection.Verdicts.{end_at, FrameRules}
use Rattle.amqp_core.specs.declared.stage.Stage.{Stage}
use Rattle.amqp_core.proofs.VerdictLemmas.{channel_rules}
use Rattle.amqp_core.proofs.connection.Connection.pass_on_lent.Goals as goal

pub returns-in-Some-clause-rules : goal.returns-in-Some-clause-rules
returns-in-Some-clause-rules c =
    let settings = c.args.self.now.settings in
    let channels = c.args.self.now.channels in
    let reading = reading_view c.args.reading in
    subst (λ (s : Stage). FrameRules settings (end_at s channels) c.args.number reading (OnChannel (Proceeds c.in-Some.told None))) (sym c.requires.running)
    (channel_rules settings c.args.agreed channels c.args.number c.site-site.result reading (Proceeds c.in-Some.told None) c.site-site.ensures c.requires.above
    c.in-Some.ensures.passes.passes.rules)

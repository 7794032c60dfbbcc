use Rattle.std.proofs.Common.{sym, subst, None, Option, IfSome}
use Rattle.amqp_channel.specs.Channels.Applies.{PassesGathered}
use Rattle.amqp_channel.specs.ReadingView.{reading_view}
use Rattle.amqp_channel.specs.declared.channels.Passed.{Passed}
use Rattle.amqp_channel.specs.declared.verdict.Verdict.TheVariants.{Proceeds}
use Rattle.amqp_core.specs.Connection.Rulings.{OnChannel}
use Rattle.amqp_core.specs.Connection.Verdicts.{end_at, FrameRules}
use Rattle.amqp_core.specs.declared.stage.Stage.{Stage}
use Rattle.amqp_core.proofs.VerdictLemmas.{channel_rules}
use Rattle.amqp_core.proofs.connection.Connection.pass_on.Goals as goal

pub returns-in-Ok-Some-clause-rules : goal.returns-in-Ok-Some-clause-rules
returns-in-Ok-Some-clause-rules c =
    let settings = c.args.self.now.settings in
    let channels = c.args.self.now.channels in
    let reading = reading_view c.args.reading in
    let passed = c.in-Ok-Some.passed in
    let site = c.site-site.result in
    let passes : PassesGathered site reading channels passed.told passed.content c.pass.new.self =
    subst (λ (p : Option Passed). IfSome p (λ it. PassesGathered site reading channels it.told it.content c.pass.new.self))
    c.in-Ok-Some.field-0-is c.in-Ok-Some.ensures.passes in
    subst (λ (s : Stage). FrameRules settings (end_at s channels) c.args.number reading (OnChannel (Proceeds passed.told None))) (sym c.requires.running)
    (channel_rules settings c.args.agreed channels c.args.number site reading (Proceeds passed.told None) c.site-site.ensures c.requires.above
    passes.passes.rules)

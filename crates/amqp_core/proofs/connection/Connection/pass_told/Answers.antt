-- What is left, and what is told, is what the verdict of a frame that passes leaves and tells.
use Rattle.std.proofs.Common.{◌≡◌, None, Option, IfSome, ap, ◌∙◌, subst}
use Rattle.amqp_channel.specs.Contents.ContentView.{content_there}
use Rattle.amqp_channel.specs.Channels.ChannelsView.{channels_view}
use Rattle.amqp_channel.specs.ReadingView.{reading_view}
use Rattle.amqp_channel.specs.declared.channels.Passed.{Passed}
use Rattle.amqp_channel.specs.declared.verdict.Verdict.TheVariants.{Proceeds}
use Rattle.amqp_core.specs.Config.Settings.{role_for}
use Rattle.amqp_core.specs.Connection.Rulings.{OnChannel}
use Rattle.amqp_core.specs.Connection.Verdicts.{content_of, end_left, event_by, verdict_view}
use Rattle.amqp_core.specs.Connection.View.{connection_end}
use Rattle.amqp_core.proofs.ReceiveLemmas.{handed_event}
use Rattle.amqp_core.proofs.connection.Connection.pass_told.Goals as goal

pub returns-clause-left : goal.returns-clause-left
returns-clause-left c =
    let old = c.args.self.now in
    subst (λ (p : Option Passed). IfSome p (λ it. connection_end c.pass_on.new.self
    ≡ end_left (role_for old.settings) c.args.number (reading_view c.args.reading) (OnChannel (Proceeds it.told None)) (connection_end old)))
    c.in-Some.is c.in_ok-passed.ensures.left

pub returns-clause-event : goal.returns-clause-event
returns-clause-event c =
    let old = c.args.self.now in
    let reading = reading_view c.args.reading in
    let number = c.args.number in
    let verdict = OnChannel (Proceeds c.in-Some.passed.told None) in
    let content : content_there c.in-Some.passed.content ≡ content_of verdict (channels_view old.channels number) reading =
    subst (λ (p : Option Passed). IfSome p (λ it. content_there it.content ≡ content_of (OnChannel (Proceeds it.told None)) (channels_view old.channels number) reading))
    c.in-Some.is c.in_ok-passed.ensures.content in
    c.in_ok-tell_passed.ensures.event
    ∙ (ap (λ whole. event_by number (verdict_view old.settings number reading whole verdict)) content
    ∙ handed_event old.settings (connection_end old) number reading verdict)

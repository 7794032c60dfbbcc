use Rattle.std.proofs.Common.{ap, ◌∙◌}
use Rattle.std.proofs.lemmas.Bool.{false≢true}
use Rattle.amqp_channel.specs.Channels.ChannelsView.{channels_view}
use Rattle.amqp_channel.specs.ReadingView.{reading_view}
use Rattle.amqp_core.specs.Connection.View.{connection_end}
use Rattle.amqp_core.specs.Connection.Rulings.{OnChannel}
use Rattle.amqp_core.specs.Connection.Verdicts.{event_by, verdict_view}
use Rattle.amqp_core.proofs.ReceiveLemmas.{handed_event}
use Rattle.amqp_core.proofs.connection.Connection.carry_out_on.Goals as goal

pub returns-clause-event : goal.returns-clause-event
returns-clause-event c =
    let old = c.args.self.now in
    let reading = reading_view c.args.reading in
    c.in_ok-tell_on.ensures.event old.settings
    ∙ (ap (λ whole. event_by c.args.number (verdict_view old.settings c.args.number reading whole (OnChannel c.args.verdict))) c.in_ok-content.ensures.content
    ∙ handed_event old.settings (connection_end old) c.args.number reading (OnChannel c.args.verdict))

pub returns-in_err-tell_on-clause-light : goal.returns-in_err-tell_on-clause-light
returns-in_err-tell_on-clause-light c =
    λ light. absurd (false≢true (c.in_err-tell_on.ensures.light (channels_view c.args.self.now.channels c.args.number) light))

pub returns-in_err-put_owed-clause-light : goal.returns-in_err-put_owed-clause-light
returns-in_err-put_owed-clause-light c = λ light. absurd (false≢true (c.in_err-put_owed.ensures.nothing (c.owed_on-owed.ensures.light light.1)))

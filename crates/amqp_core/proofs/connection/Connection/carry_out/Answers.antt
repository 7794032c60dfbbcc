-- What is owed and what is left is what the verdict says.
use Rattle.std.proofs.Common.{map, ap, ◌∙◌}
use Rattle.std.proofs.lemmas.Bool.{false≢true}
use Rattle.amqp_model.specs.End.Closes.{frame_of}
use Rattle.amqp_model.specs.Output.Outputs.{after_puts}
use Rattle.amqp_outbox.specs.OutboxView.{only}
use Rattle.amqp_channel.specs.Channels.ChannelsView.{channels_view}
use Rattle.amqp_channel.specs.ReadingView.{reading_view}
use Rattle.amqp_channel.specs.Verdict.VerdictView.{whole_now}
use Rattle.amqp_core.specs.Connection.View.{connection_end}
use Rattle.amqp_core.specs.Connection.Outcomes.{owed_by}
use Rattle.amqp_core.specs.Connection.Owed.{owed_view}
use Rattle.amqp_core.specs.Connection.Rulings.{OnConnection}
use Rattle.amqp_core.specs.Config.Settings.{role_for}
use Rattle.amqp_core.specs.Connection.Stages.{phase_at}
use Rattle.amqp_core.specs.Connection.Verdicts.{verdict_here}
use Rattle.amqp_core.proofs.ReceiveLemmas.{steps_from}
use Rattle.amqp_core.proofs.connection.Connection.carry_out.Goals as goal

pub apply_own-requires : goal.apply_own-requires
apply_own-requires c = steps_from (connection_end c.args.self.now) c.args.number (reading_view c.args.reading) c.args.verdict c.requires.fits

pub returns-clause-left : goal.returns-clause-left
returns-clause-left c = c.apply_own.ensures.left (role_for c.args.self.now.settings) c.args.number (reading_view c.args.reading)

pub returns-clause-event : goal.returns-clause-event
returns-clause-event c =
    let old = c.args.self.now in
    let reading = reading_view c.args.reading in
    c.in_ok-tell_of.ensures.event old.settings (whole_now (channels_view old.channels c.args.number) reading)

pub returns-clause-owed : goal.returns-clause-owed
returns-clause-owed c =
    let old = c.args.self.now in
    let reading = reading_view c.args.reading in
    c.owed-owed.ensures.owed old.settings c.args.number reading (whole_now (channels_view old.channels c.args.number) reading)
    ∙ ap (λ b. owed_by b c.args.number (verdict_here old.settings (connection_end old) c.args.number reading (OnConnection c.args.verdict))) c.is_closing-closing.ensures

pub returns-clause-put : goal.returns-clause-put
returns-clause-put c =
    let old = c.args.self.now in
    let reading = reading_view c.args.reading in
    c.in_ok-put_owed.ensures.ok
    ∙ ap (λ o. only (after_puts (map frame_of o) c.args.outbox.now.output))
    (ap (λ s. owed_view s c.owed-owed.result) c.apply_own.ensures.settings
    ∙ (c.owed-owed.ensures.owed old.settings c.args.number reading (whole_now (channels_view old.channels c.args.number) reading)
    ∙ ap (λ b. owed_by b c.args.number (verdict_here old.settings (connection_end old) c.args.number reading (OnConnection c.args.verdict))) c.is_closing-closing.ensures))

pub returns-in_err-tell_of-clause-light : goal.returns-in_err-tell_of-clause-light
returns-in_err-tell_of-clause-light c =
    λ drops light. absurd (false≢true (c.in_err-tell_of.ensures.light (channels_view c.args.self.now.channels c.args.number) light))

pub returns-in_err-put_owed-clause-light : goal.returns-in_err-put_owed-clause-light
returns-in_err-put_owed-clause-light c =
    λ drops light.
    absurd (false≢true (c.in_err-put_owed.ensures.nothing (c.owed-owed.ensures.light (channels_view c.args.self.now.channels c.args.number) light)))

pub returns-in_err-keep_said-clause-light : goal.returns-in_err-keep_said-clause-light
returns-in_err-keep_said-clause-light c =
    λ drops light. absurd (c.in_err-keep_said.ensures.light (phase_at c.args.self.now.stage) (channels_view c.args.self.now.channels c.args.number) drops)

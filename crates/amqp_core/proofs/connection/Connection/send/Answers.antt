use Rattle.std.proofs.Common.{ℕ, refl, ap, sym, ◌∙◌, subst}
use Rattle.amqp_model.specs.End.Asks as asks
use Rattle.amqp_model.specs.End.Channels.{Channel}
use Rattle.amqp_model.specs.Wire.Methods.{Method}
use Rattle.amqp_model.specs.Wire.Readings.{Calls, kind_of}
use Rattle.amqp_channel.specs.Channels.ChannelsView.{channels_view}
use Rattle.amqp_channel.specs.Channel.LifeView.{IsOther}
use Rattle.amqp_channel.specs.Events.EventView.{message_of}
use Rattle.amqp_core.specs.Connection.View.{connection_end}
use Rattle.amqp_core.specs.Asks.LentLetter.{lent_letter}
use Rattle.amqp_core.proofs.AskLemmas.{all_are_put, dropped, message_put, message_made, refused_late}
use Rattle.amqp_core.proofs.ConnectionLemmas.{none_changed}
use Rattle.amqp_core.proofs.RefusalLemmas.{method_is}
use Rattle.amqp_core.proofs.connection.Connection.send.Goals as goal

pub put_message-requires-clause-other : goal.put_message-requires-clause-other
put_message-requires-clause-other c =
    subst (λ (m : Method). IsOther (kind_of (Calls m))) (sym c.method.ensures) c.in_ok-agreed.ensures.other

pub returns-clause-accepted : goal.returns-clause-accepted
returns-clause-accepted c =
    let agreed = c.in_ok-agreed.agreed in
    let letter = lent_letter c.args.message in
    let message = message_of letter in
    message_put c.args.self.now.settings c.args.self.now.stage agreed c.args.number c.site-site.result message (channels_view c.args.self.now.channels)
    (channels_view c.put_message.new.self) c.args.outbox.now c.put.new.self
    (record { running_is = c.in_ok-agreed.ensures.running; site_is = c.site-site.ensures; above = c.in_ok-agreed.ensures.above })
    c.in_ok-agreed.ensures.allowed (c.in-Ok-put_message.ensures.at agreed.frame_max message (method_is letter.call letter.properties letter.body ∙ sym c.method.ensures), c.in-Ok-put_message.ensures.others)
    (all_are_put c.args.outbox.now c.stage_message.new.outbox c.put.new.self _ c.requires.staged c.in-Ok.ensures.ok c.put.ensures)
    c.in-Ok.ensures.reads_back (message_made c.args.number c.args.message.form c.args.message.kind_fits)

pub returns-in_default-put_message-clause-refused : goal.returns-in_default-put_message-clause-refused
returns-in_default-put_message-clause-refused c =
    let old = c.args.self.now in
    let end = connection_end old in
    let message = message_of (lent_letter c.args.message) in
    let same = none_changed c.site-site.result.number (channels_view old.channels) (channels_view c.put_message.new.self)
    c.in_default-put_message.ensures.others c.in_default-put_message.ensures.err in
    refused_late old.settings (asks.Send c.args.number message) _ end _ c.args.outbox.now _ c.in_ok-agreed.ensures.allowed refl
    (ap (λ (channels : ℕ → Channel). record end { channels = channels }) same)
    (dropped c.args.outbox.now c.stage_message.new.outbox _ c.requires.staged c.in-Ok.ensures.output c.discard-in_default-put_message.ensures)

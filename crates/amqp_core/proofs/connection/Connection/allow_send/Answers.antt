use Rattle.std.proofs.Common.{◌≡◌, ℕ, ap, sym, ◌∙◌}
use Rattle.std.proofs.lemmas.Result.{err_from_is_err_and}
use Rattle.amqp_core.specs.Asks.LentLetter.{lent_letter}
use Rattle.amqp_model.specs.End.Asks as asks
use Rattle.amqp_model.specs.End.Asks.{refusal}
use Rattle.amqp_model.specs.End.Channels.{Life}
use Rattle.amqp_model.specs.End.Events.{Message}
use Rattle.amqp_model.specs.Wire.Gathering.{Gathering}
use Rattle.amqp_channel.specs.Events.EventView.{agreed_view, message_of}
use Rattle.amqp_channel.specs.Channels.ChannelsView.{channels_view}
use Rattle.amqp_channel.specs.Channel.ChannelView.{content_on}
use Rattle.amqp_channel.specs.Channel.LifeView.{life_on}
use Rattle.amqp_channel.specs.Roles.{role_of}
use Rattle.amqp_channel.specs.declared.events.Agreed.{Agreed}
use Rattle.amqp_channel.specs.declared.side.Side.{Side}
use Rattle.amqp_core.specs.Connection.View.{connection_end}
use Rattle.amqp_core.specs.Asks.Refusals.{IsOpenIn, refusal_in}
use Rattle.amqp_core.specs.Config.Settings.{role_for, side_in}
use Rattle.amqp_core.specs.Connection.Stages.{agreed_at}
use Rattle.amqp_core.specs.declared.connection.Connection.{Connection}
use Rattle.amqp_core.specs.declared.stage.Stage.TheVariants as stages
use Rattle.amqp_core.proofs.RefusalLemmas.{message_refusal, sent_is_other, sent_has_room}
use Rattle.amqp_core.proofs.connection.Connection.allow_send.Goals as goal

here : (connection : Connection) (agreed : Agreed) (number : ℕ) (side : Side) (life : Life) (message : Message) → connection.stage ≡ stages.Running agreed
    → side ≡ side_in connection.settings.hello → IsOpenIn (connection_end connection) number life
    → refusal (role_for connection.settings) (connection_end connection) (asks.Send number message) ≡ refusal_in (role_of side) agreed.frame_max life message
here connection agreed number side life message stage_is side_is open_is =
    message_refusal (role_for connection.settings) (connection_end connection) (agreed_view agreed) number life message (ap agreed_at stage_is) open_is
    ∙ ap (λ s. refusal_in (role_of s) agreed.frame_max life message) (sym side_is)

-- the content under way on the channel
abbrev content_at : Connection → (number : ℕ) → Gathering
content_at connection number = content_on (channels_view connection.channels number)

pub returns-in_err-agreed-clause-refused : goal.returns-in_err-agreed-clause-refused
returns-in_err-agreed-clause-refused c =
    let p = err_from_is_err_and c.from_residual.result c.from_residual.ensures.1 in
    rw (p.1, p.2) (c.in_err-agreed.ensures.refused (role_for c.args.self.now.settings)
    (asks.Send c.args.number (message_of (lent_letter c.args.message))))

pub returns-in_err-standing-clause-refused : goal.returns-in_err-standing-clause-refused
returns-in_err-standing-clause-refused c =
    let p = err_from_is_err_and c.from_residual-in_err-standing.result c.from_residual-in_err-standing.ensures.1 in
    rw (p.1, p.2) (c.in_err-standing.ensures.refused _)

pub returns-in-Some-clause-refused : goal.returns-in-Some-clause-refused
returns-in-Some-clause-refused c = c.in-Some.ensures (content_at c.args.self.now c.args.number) ∙ sym
    (here c.args.self.now c.in_ok-agreed.agreed c.args.number c.side-side.result _ (message_of (lent_letter c.args.message))
    c.in_ok-agreed.ensures.running c.side-side.ensures c.in_ok-standing.ensures.open)

pub returns-in-None-clause-allowed : goal.returns-in-None-clause-allowed
returns-in-None-clause-allowed c = here c.args.self.now c.in_ok-agreed.agreed c.args.number c.side-side.result _
    (message_of (lent_letter c.args.message)) c.in_ok-agreed.ensures.running c.side-side.ensures c.in_ok-standing.ensures.open ∙ sym (c.in-None.ensures (content_at c.args.self.now c.args.number))

pub returns-in-None-clause-other : goal.returns-in-None-clause-other
returns-in-None-clause-other c =
    let letter = lent_letter c.args.message in
    sent_is_other (role_of c.side-side.result) c.in_ok-agreed.agreed.frame_max (life_on (content_at c.args.self.now c.args.number) c.in_ok-standing.standing.now) letter.call letter.properties letter.body
    (sym (c.in-None.ensures (content_at c.args.self.now c.args.number)))

pub returns-in-None-clause-room : goal.returns-in-None-clause-room
returns-in-None-clause-room c =
    let letter = lent_letter c.args.message in
    sent_has_room (role_of c.side-side.result) c.in_ok-agreed.agreed.frame_max (life_on (content_at c.args.self.now c.args.number) c.in_ok-standing.standing.now) letter.call letter.properties letter.body
    (sym (c.in-None.ensures (content_at c.args.self.now c.args.number)))

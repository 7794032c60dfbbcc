use Rattle.std.proofs.Common.{rules, ◌≡◌, ◌&&◌, true, false, ap, sym, ◌∙◌}
use Rattle.amqp_core.specs.Asks.LentLetter.{lent_letter}
use Rattle.amqp_model.specs.End.Asks.{is_pausable, is_sendable}
use Rattle.amqp_model.specs.End.Events.{method_of}
use Rattle.amqp_channel.specs.Channel.LifeView.{life_on}
use Rattle.amqp_channel.specs.Events.EventView.{message_of}
use Rattle.amqp_channel.specs.Roles.{role_of}
use Rattle.amqp_core.specs.Asks.Refusals.{is_too_large, reply_refusal}
use Rattle.amqp_core.proofs.RefusalLemmas.{method_is, by_turn_alone}
use Rattle.amqp_core.proofs.refusing.refusal_of_message.Goals as goal

pub returns : goal.returns
returns c = λ content.
    let letter = lent_letter c.args.message in
    let role = role_of c.args.side in
    let life = life_on content c.args.standing.now in
    let called = method_is letter.call letter.properties letter.body in
    let on : (is_pausable (message_of letter) && life.paused) ≡ false = sym c.is_paused.ensures ∙ c.if-is_paused.false in
    let sent : is_sendable role (method_of (message_of letter)).kind ≡ true = search rules in
    let fits : is_too_large c.args.frame_max (message_of letter) ≡ false = sym c.is_too_large.ensures ∙ c.if-is_too_large.false in
    c.refusal_of_turn.ensures ∙ (ap (reply_refusal role life.requests) c.method-2.ensures ∙ sym
    (by_turn_alone role c.args.frame_max life (message_of letter) letter.call on sent fits called))

-- The oldest message is sent, has to wait, or is refused.
use Rattle.std.proofs.Common.{drop, map, sym, ap, subst, refl, arith}
use Rattle.amqp_method.specs.MessageView.{message_view}
use Rattle.amqp_channel.specs.Events.EventView.{message_of}
use Rattle.amqp_core.specs.End.View.{endpoint_of, settings_at}
use Rattle.amqp_turns.specs.Sends.{none_sent, Advances, IsRefusedFirst, Rests}
use Rattle.amqp_turns.specs.TurnsView.{standing}
use Rattle.amqp_turns.proofs.SendLemmas.{first_is, same_standing, sent_err, sent_ok, rests_first, waits_for, refused_among, sends_one}
use Rattle.amqp_turns.proofs.turns.Turns.send_next.Goals as goal

pub returns-in_default-clause-advances : goal.returns-in_default-clause-advances
returns-in_default-clause-advances g c = none_sent

pub returns-in-Ok-clause-advances : goal.returns-in-Ok-clause-advances
returns-in-Ok-clause-advances g c =
    let messages = c.args.self.now.waiting.items in
    let first = first_is messages c.in-Some.next.now (omega (arith, c.in-Some.ensures.variant.0 refl)) c.in-Some.ensures.lookup in
    let rest = map (λ message. message_of (message_view message)) (drop 1 messages) in
    let before = standing c.args.self.now c.args.end.now in
    let sent = sends_one before (message_of (message_view c.in-Some.next.now)) rest (settings_at c.send.new.self) (endpoint_of c.send.new.self)
    (ap (map (λ message. message_of (message_view message))) first) c.send.ensures.settings (sent_ok c.send.result _ _ c.in-Ok.is c.send.ensures.accepted) in
    subst (λ items. Advances before (record { settings = settings_at c.send.new.self; channel = c.args.self.now.channel; waiting = map (λ message. message_of (message_view message)) items; endpoint = endpoint_of c.send.new.self }))
    (sym c.drop_first.ensures) sent

pub returns-in-Err-clause-advances : goal.returns-in-Err-clause-advances
returns-in-Err-clause-advances g c =
    let before = standing c.args.self.now c.args.end.now in
    subst (Advances before) (same_standing before (settings_at c.send.new.self) (endpoint_of c.send.new.self) c.send.ensures.settings (sent_err c.send.result c.in-Err.fault _ c.in-Err.is c.send.ensures.refused).same) none_sent

pub returns-in-Err-clause-rests : goal.returns-in-Err-clause-rests
returns-in-Err-clause-rests g c = λ _.
    let before = standing c.args.self.now c.args.end.now in
    let messages = c.args.self.now.waiting.items in
    let first = first_is messages c.in-Some.next.now (omega (arith, c.in-Some.ensures.variant.0 refl)) c.in-Some.ensures.lookup in
    subst Rests (same_standing before (settings_at c.send.new.self) (endpoint_of c.send.new.self) c.send.ensures.settings (sent_err c.send.result c.in-Err.fault _ c.in-Err.is c.send.ensures.refused).same)
    (rests_first before _ _ (ap (map (λ message. message_of (message_view message))) first)
    (waits_for before (message_of (message_view c.in-Some.next.now)) c.in-Err.fault (c.may_go_later.ensures.wait c.if-may_go_later.true) (sent_err c.send.result c.in-Err.fault _ c.in-Err.is c.send.ensures.refused).refused))

pub returns-in-Err-2-clause-advances : goal.returns-in-Err-2-clause-advances
returns-in-Err-2-clause-advances g c =
    let before = standing c.args.self.now c.args.end.now in
    subst (Advances before) (same_standing before (settings_at c.send.new.self) (endpoint_of c.send.new.self) c.send.ensures.settings (sent_err c.send.result c.in-Err-2.fault _ c.in-Err-2.is c.send.ensures.refused).same) none_sent

pub returns-in-Err-2-clause-refused : goal.returns-in-Err-2-clause-refused
returns-in-Err-2-clause-refused g c =
    let before = standing c.args.self.now c.args.end.now in
    let messages = c.args.self.now.waiting.items in
    let first = first_is messages c.in-Some.next.now (omega (arith, c.in-Some.ensures.variant.0 refl)) c.in-Some.ensures.lookup in
    subst (IsRefusedFirst c.in-Err.fault) (same_standing before (settings_at c.send.new.self) (endpoint_of c.send.new.self) c.send.ensures.settings (sent_err c.send.result c.in-Err.fault _ c.in-Err.is c.send.ensures.refused).same)
    (refused_among before _ _ c.in-Err.fault (endpoint_of c.send.new.self) (ap (map (λ message. message_of (message_view message))) first) (sent_err c.send.result c.in-Err.fault _ c.in-Err.is c.send.ensures.refused))

-- The oldest ask is accepted, has to wait, or is refused.
use Rattle.std.proofs.Common.{map, refl, sym, ◌∙◌, ap, subst}
use Rattle.amqp_core.specs.Stream.View.{endpoint_of, settings_at}
use Rattle.example_proxy.specs.Advancing.{none_sent, Advances, Rests}
use Rattle.example_loop.specs.AskingView.{asking_view}
use Rattle.example_proxy.specs.ChannelView.{standing}
use Rattle.example_proxy.proofs.AdvanceLemmas.{same_standing, put_back, asked_err, rests_first, refused_for, sends_one}
use Rattle.example_proxy.proofs.asking.Channel.ask_next.Goals as goal

pub returns-then-is_some_and-clause-advances : goal.returns-then-is_some_and-clause-advances
returns-then-is_some_and-clause-advances g c = none_sent

pub returns-in_default-clause-advances : goal.returns-in_default-clause-advances
returns-in_default-clause-advances g c =
    let before = standing c.args.self.now c.args.end.now in
    subst (Advances before) (same_standing before before.settings (map asking_view c.pop_front.new.self.items) before.endpoint refl (ap (map asking_view) c.in_default.ensures.items) refl) none_sent

pub returns-in_default-put-clause-advances : goal.returns-in_default-put-clause-advances
returns-in_default-put-clause-advances g c =
    let before = standing c.args.self.now c.args.end.now in
    sends_one before before (asking_view c.in-Some.next) (map asking_view c.pop_front.new.self.items) (settings_at c.put.new.end) (endpoint_of c.put.new.end)
    none_sent (ap (map asking_view) c.in-Some.ensures.items) c.put.ensures.asked.settings c.in_default-put.ensures.asked.accepted

pub returns-then-may_go_later-clause-advances : goal.returns-then-may_go_later-clause-advances
returns-then-may_go_later-clause-advances g c =
    let before = standing c.args.self.now c.args.end.now in
    let rest = c.pop_front.new.self.items in
    let back = put_back asking_view c.args.self.now.waiting.items rest c.in-Some.next c.put.new.self c.in-Some.ensures.items c.in-Err.ensures.kept in
    subst (Advances before) (same_standing before (settings_at c.put.new.end) (map asking_view c.push_front_reserved.new.self.items) (endpoint_of c.put.new.end) c.put.ensures.asked.settings
    (back ∙ ap (map asking_view) (sym c.push_front_reserved.ensures.items)) (asked_err c.put.result c.in-Err.fault _ c.in-Err.is c.put.ensures.asked.refused).same) none_sent

pub returns-then-may_go_later-clause-rests : goal.returns-then-may_go_later-clause-rests
returns-then-may_go_later-clause-rests g c = λ _ _.
    let before = standing c.args.self.now c.args.end.now in
    let rest = c.pop_front.new.self.items in
    let back = put_back asking_view c.args.self.now.waiting.items rest c.in-Some.next c.put.new.self c.in-Some.ensures.items c.in-Err.ensures.kept in
    let refused = asked_err c.put.result c.in-Err.fault _ c.in-Err.is c.put.ensures.asked.refused in
    subst Rests (same_standing before (settings_at c.put.new.end) (map asking_view c.push_front_reserved.new.self.items) (endpoint_of c.put.new.end) c.put.ensures.asked.settings
    (back ∙ ap (map asking_view) (sym c.push_front_reserved.ensures.items)) refused.same)
    (rests_first before _ _ (ap (map asking_view) c.in-Some.ensures.items) (refused_for c.in-Err.fault _ (c.may_go_later.ensures c.if-may_go_later.true) refused.refused))

pub returns-clause-advances : goal.returns-clause-advances
returns-clause-advances g c =
    let before = standing c.args.self.now c.args.end.now in
    let rest = c.pop_front.new.self.items in
    let back = put_back asking_view c.args.self.now.waiting.items rest c.in-Some.next c.put.new.self c.in-Some.ensures.items c.in-Err.ensures.kept in
    subst (Advances before) (same_standing before (settings_at c.put.new.end) (map asking_view c.push_front_reserved.new.self.items) (endpoint_of c.put.new.end) c.put.ensures.asked.settings
    (back ∙ ap (map asking_view) (sym c.push_front_reserved.ensures.items)) (asked_err c.put.result c.in-Err.fault _ c.in-Err.is c.put.ensures.asked.refused).same) none_sent

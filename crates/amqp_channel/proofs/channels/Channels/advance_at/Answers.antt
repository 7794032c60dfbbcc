-- What is kept of the channel is counted again, and of the others it is as it was.
use Rattle.std.proofs.Common.{rules, ◌≡◌, ◌≢◌, false, ℕ, suc, ap, sym, ◌∙◌}
use Rattle.indexmap.specs.IndexMap.{with_value_at}
use Rattle.amqp_model.specs.End.Amounts.{body_octets_on}
use Rattle.amqp_model.specs.End.Asks.{is_free}
use Rattle.amqp_channel.specs.Channel.ChannelView.{channel_view}
use Rattle.amqp_channel.specs.Channels.Passed.{IsPassed}
use Rattle.amqp_channel.specs.Channels.Used.{used_view}
use Rattle.amqp_channel.proofs.AmountLemmas.{bodies_written, fit_written, headers_written, is_part, now_here, views_same}
use Rattle.amqp_channel.proofs.FreeLemmas.{still_passed}
use Rattle.amqp_channel.proofs.OneWayLemmas.{known_taken}
use Rattle.amqp_channel.proofs.PlaceLemmas.{none_written}
use Rattle.amqp_channel.proofs.channels.Channels.advance_at.Goals as goal

pub after-self-requires : goal.after-self-requires
after-self-requires c =
    let self = c.args.self.now in
    is_part self.used self.amounts self.counts_headers self.counts_bodies self.bodies_fit c.args.number c.requires.above (search rules) c.amount-before.result
    (search rules)
    (c.amount-before.ensures.body
    ∙ ap body_octets_on (sym (now_here self.used c.args.number c.requires.above c.index_mut-channel.result.now (c.requires.kept c.index_mut-channel.result.now (search rules)))))

-- the channel is in use still
taken : (c : goal.After-after-self) → is_free (channel_view c.advance.new.self) ≡ false
taken c =
    let before : is_free (channel_view c.index_mut-channel.result.now) ≡ false = search rules in
    ap is_free c.advance.ensures ∙ (known_taken _ (channel_view c.index_mut-channel.result.now) ∙ before)

pub invariant_of-self-clause-passed_are_taken : goal.invariant_of-self-clause-passed_are_taken
invariant_of-self-clause-passed_are_taken c =
    let self = c.args.self.now in
    let channel = c.advance.new.self in
    let used = with_value_at self.used c.args.place channel in
    let others : (j : ℕ) → IsPassed self.numbers (suc j) → suc j ≢ c.args.number → is_free (used_view used (suc j)) ≡ false =
    λ j passed apart. ap is_free (c.requires.others channel (suc j) apart) ∙ self.passed_are_taken j passed in
    still_passed used self.numbers c.args.number others (ap is_free (c.requires.written channel) ∙ taken c)

pub invariant_of-self-clause-none_free : goal.invariant_of-self-clause-none_free
invariant_of-self-clause-none_free c =
    let self = c.args.self.now in
    let channel = c.advance.new.self in
    let used = with_value_at self.used c.args.place channel in
    none_written self.used used c.args.number channel c.requires.above self.none_free (c.requires.entries channel) (c.requires.put channel) (taken c)

pub invariant_of-self-clause-counts_headers : goal.invariant_of-self-clause-counts_headers
invariant_of-self-clause-counts_headers c =
    let self = c.args.self.now in
    let channel = c.advance.new.self in
    let used = with_value_at self.used c.args.place channel in
    headers_written self.used used self.amounts c.after-self.result self.counts_headers self.counts_bodies self.bodies_fit c.args.number c.requires.above
    (search rules) c.amount-before.result c.amount-left.result channel (search rules)
    (c.amount-before.ensures.body
    ∙ ap body_octets_on (sym (now_here self.used c.args.number c.requires.above c.index_mut-channel.result.now (c.requires.kept c.index_mut-channel.result.now (search rules)))))
    (views_same self.used used c.args.number (c.requires.entries channel))
    (now_here used c.args.number c.requires.above channel (c.requires.put channel)) c.amount-left.ensures.header c.amount-left.ensures.body (search rules)
    c.after-self.ensures

pub invariant_of-self-clause-counts_bodies : goal.invariant_of-self-clause-counts_bodies
invariant_of-self-clause-counts_bodies c =
    let self = c.args.self.now in
    let channel = c.advance.new.self in
    let used = with_value_at self.used c.args.place channel in
    bodies_written self.used used self.amounts c.after-self.result self.counts_headers self.counts_bodies self.bodies_fit c.args.number c.requires.above
    (search rules) c.amount-before.result c.amount-left.result channel (search rules)
    (c.amount-before.ensures.body
    ∙ ap body_octets_on (sym (now_here self.used c.args.number c.requires.above c.index_mut-channel.result.now (c.requires.kept c.index_mut-channel.result.now (search rules)))))
    (views_same self.used used c.args.number (c.requires.entries channel))
    (now_here used c.args.number c.requires.above channel (c.requires.put channel)) c.amount-left.ensures.header c.amount-left.ensures.body (search rules)
    c.after-self.ensures

pub invariant_of-self-clause-bodies_fit : goal.invariant_of-self-clause-bodies_fit
invariant_of-self-clause-bodies_fit c =
    let self = c.args.self.now in
    let channel = c.advance.new.self in
    let used = with_value_at self.used c.args.place channel in
    fit_written self.used used self.amounts c.after-self.result self.counts_headers self.counts_bodies self.bodies_fit c.args.number c.requires.above
    (search rules) c.amount-before.result c.amount-left.result channel (search rules)
    (c.amount-before.ensures.body
    ∙ ap body_octets_on (sym (now_here self.used c.args.number c.requires.above c.index_mut-channel.result.now (c.requires.kept c.index_mut-channel.result.now (search rules)))))
    (views_same self.used used c.args.number (c.requires.entries channel))
    (now_here used c.args.number c.requires.above channel (c.requires.put channel)) c.amount-left.ensures.header c.amount-left.ensures.body (search rules)
    c.after-self.ensures

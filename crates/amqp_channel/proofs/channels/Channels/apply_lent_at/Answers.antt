-- What is kept of the channel is counted again, and of the others it is as it was.
use Rattle.std.proofs.Common.{rules, ap, sym, ◌∙◌}
use Rattle.indexmap.specs.IndexMap.{with_value_at}
use Rattle.amqp_model.specs.End.Amounts.{body_octets_on}
use Rattle.amqp_channel.proofs.AmountLemmas.{bodies_written, fit_written, headers_written, is_part, now_here, views_same}
use Rattle.amqp_channel.proofs.channels.Channels.apply_lent_at.Goals as goal

pub after-self-requires : goal.after-self-requires
after-self-requires c =
    let self = c.args.self.now in
    is_part self.used self.amounts self.counts_headers self.counts_bodies self.bodies_fit c.args.number c.requires.above (search rules) c.amount-before.result
    (search rules)
    (c.amount-before.ensures.body
    ∙ ap body_octets_on (sym (now_here self.used c.args.number c.requires.above c.index_mut-channel.result.now (c.requires.kept c.index_mut-channel.result.now (search rules)))))

pub invariant_of-self-clause-counts_headers : goal.invariant_of-self-clause-counts_headers
invariant_of-self-clause-counts_headers c =
    let self = c.args.self.now in
    let channel = c.apply_lent-answer.new.self in
    let written = with_value_at self.used c.args.place channel in
    let used = c.tidy.new.used in
    headers_written self.used used self.amounts c.after-self.result self.counts_headers self.counts_bodies self.bodies_fit c.args.number c.requires.above
    (search rules) c.amount-before.result c.amount-left.result channel (search rules)
    (c.amount-before.ensures.body
    ∙ ap body_octets_on (sym (now_here self.used c.args.number c.requires.above c.index_mut-channel.result.now (c.requires.kept c.index_mut-channel.result.now (search rules)))))
    (λ other apart. c.tidy.ensures.gathered other ∙ views_same self.used written c.args.number (c.requires.entries channel) other apart)
    (c.tidy.ensures.gathered c.args.number ∙ now_here written c.args.number c.requires.above channel (c.requires.put channel)) c.amount-left.ensures.header c.amount-left.ensures.body (search rules)
    c.after-self.ensures

pub invariant_of-self-clause-counts_bodies : goal.invariant_of-self-clause-counts_bodies
invariant_of-self-clause-counts_bodies c =
    let self = c.args.self.now in
    let channel = c.apply_lent-answer.new.self in
    let written = with_value_at self.used c.args.place channel in
    let used = c.tidy.new.used in
    bodies_written self.used used self.amounts c.after-self.result self.counts_headers self.counts_bodies self.bodies_fit c.args.number c.requires.above
    (search rules) c.amount-before.result c.amount-left.result channel (search rules)
    (c.amount-before.ensures.body
    ∙ ap body_octets_on (sym (now_here self.used c.args.number c.requires.above c.index_mut-channel.result.now (c.requires.kept c.index_mut-channel.result.now (search rules)))))
    (λ other apart. c.tidy.ensures.gathered other ∙ views_same self.used written c.args.number (c.requires.entries channel) other apart)
    (c.tidy.ensures.gathered c.args.number ∙ now_here written c.args.number c.requires.above channel (c.requires.put channel)) c.amount-left.ensures.header c.amount-left.ensures.body (search rules)
    c.after-self.ensures

pub invariant_of-self-clause-bodies_fit : goal.invariant_of-self-clause-bodies_fit
invariant_of-self-clause-bodies_fit c =
    let self = c.args.self.now in
    let channel = c.apply_lent-answer.new.self in
    let written = with_value_at self.used c.args.place channel in
    let used = c.tidy.new.used in
    fit_written self.used used self.amounts c.after-self.result self.counts_headers self.counts_bodies self.bodies_fit c.args.number c.requires.above
    (search rules) c.amount-before.result c.amount-left.result channel (search rules)
    (c.amount-before.ensures.body
    ∙ ap body_octets_on (sym (now_here self.used c.args.number c.requires.above c.index_mut-channel.result.now (c.requires.kept c.index_mut-channel.result.now (search rules)))))
    (λ other apart. c.tidy.ensures.gathered other ∙ views_same self.used written c.args.number (c.requires.entries channel) other apart)
    (c.tidy.ensures.gathered c.args.number ∙ now_here written c.args.number c.requires.above channel (c.requires.put channel)) c.amount-left.ensures.header c.amount-left.ensures.body (search rules)
    c.after-self.ensures

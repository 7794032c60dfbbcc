-- What is kept of the channel is counted again, and of the others it is as it was.
use Rattle.std.proofs.Common.{rules, ap, sym, ◌∙◌}
use Rattle.amqp_model.specs.End.Amounts.{body_octets_on, header_octets_on}
use Rattle.indexmap.specs.IndexMap.{with_value_at}
use Rattle.amqp_channel.proofs.AmountLemmas.{bodies_written, fit_written, headers_written, is_part, now_here, views_same}
use Rattle.amqp_channel.proofs.UnderWayLemmas.{none_lent_put}
use Rattle.amqp_channel.proofs.channels.Channels.apply.Goals as goal

pub after-self-requires : goal.after-self-requires
after-self-requires c =
    let self = c.args.self.now in
    let here = now_here self.used c.args.number c.requires.above c.index_mut-channel.result.now
    (c.in-Some.ensures.kept c.index_mut-channel.result.now (search rules)) in
    is_part self.used self.amounts self.counts_headers self.counts_bodies self.bodies_fit c.args.number c.requires.above (search rules) c.amount-before.result
    (c.amount-before.ensures.header ∙ sym (ap header_octets_on here)) (c.amount-before.ensures.body ∙ sym (ap body_octets_on here))

pub invariant_of-self-in-Some-clause-counts_headers : goal.invariant_of-self-in-Some-clause-counts_headers
invariant_of-self-in-Some-clause-counts_headers c =
    let self = c.args.self.now in
    let channel = c.apply-answer.new.self in
    let written = with_value_at self.used c.in-Some.place channel in
    let used = c.tidy.new.used in
    let here = now_here self.used c.args.number c.requires.above c.index_mut-channel.result.now
    (c.in-Some.ensures.kept c.index_mut-channel.result.now (search rules)) in
    headers_written self.used used self.amounts c.after-self.result self.counts_headers self.counts_bodies self.bodies_fit c.args.number c.requires.above
    (search rules) c.amount-before.result c.amount-left.result channel
    (c.amount-before.ensures.header ∙ sym (ap header_octets_on here)) (c.amount-before.ensures.body ∙ sym (ap body_octets_on here))
    (λ other apart. c.tidy.ensures.gathered other ∙ views_same self.used written c.args.number (c.in-Some.ensures.entries channel) other apart)
    (c.tidy.ensures.gathered c.args.number ∙ now_here written c.args.number c.requires.above channel (c.in-Some.ensures.put channel)) c.amount-left.ensures.header c.amount-left.ensures.body (search rules)
    c.after-self.ensures

pub invariant_of-self-in-Some-clause-counts_bodies : goal.invariant_of-self-in-Some-clause-counts_bodies
invariant_of-self-in-Some-clause-counts_bodies c =
    let self = c.args.self.now in
    let channel = c.apply-answer.new.self in
    let written = with_value_at self.used c.in-Some.place channel in
    let used = c.tidy.new.used in
    let here = now_here self.used c.args.number c.requires.above c.index_mut-channel.result.now
    (c.in-Some.ensures.kept c.index_mut-channel.result.now (search rules)) in
    bodies_written self.used used self.amounts c.after-self.result self.counts_headers self.counts_bodies self.bodies_fit c.args.number c.requires.above
    (search rules) c.amount-before.result c.amount-left.result channel
    (c.amount-before.ensures.header ∙ sym (ap header_octets_on here)) (c.amount-before.ensures.body ∙ sym (ap body_octets_on here))
    (λ other apart. c.tidy.ensures.gathered other ∙ views_same self.used written c.args.number (c.in-Some.ensures.entries channel) other apart)
    (c.tidy.ensures.gathered c.args.number ∙ now_here written c.args.number c.requires.above channel (c.in-Some.ensures.put channel)) c.amount-left.ensures.header c.amount-left.ensures.body (search rules)
    c.after-self.ensures

pub invariant_of-self-in-Some-clause-bodies_fit : goal.invariant_of-self-in-Some-clause-bodies_fit
invariant_of-self-in-Some-clause-bodies_fit c =
    let self = c.args.self.now in
    let channel = c.apply-answer.new.self in
    let written = with_value_at self.used c.in-Some.place channel in
    let used = c.tidy.new.used in
    let here = now_here self.used c.args.number c.requires.above c.index_mut-channel.result.now
    (c.in-Some.ensures.kept c.index_mut-channel.result.now (search rules)) in
    fit_written self.used used self.amounts c.after-self.result self.counts_headers self.counts_bodies self.bodies_fit c.args.number c.requires.above
    (search rules) c.amount-before.result c.amount-left.result channel
    (c.amount-before.ensures.header ∙ sym (ap header_octets_on here)) (c.amount-before.ensures.body ∙ sym (ap body_octets_on here))
    (λ other apart. c.tidy.ensures.gathered other ∙ views_same self.used written c.args.number (c.in-Some.ensures.entries channel) other apart)
    (c.tidy.ensures.gathered c.args.number ∙ now_here written c.args.number c.requires.above channel (c.in-Some.ensures.put channel)) c.amount-left.ensures.header c.amount-left.ensures.body (search rules)
    c.after-self.ensures

pub returns-else-leaves_channel : goal.returns-else-leaves_channel
returns-else-leaves_channel c = record {
  left = search rules;
  content = search rules;
  err = search rules;
  others = search rules;
  drops = search rules;
  gathers =
      c.tidy.ensures.gathers
      (none_lent_put c.args.self.now.used c.in-Some.place c.args.number c.apply-answer.new.self c.in-Some.ensures.entries
      c.in-Some.ensures.put c.apply-answer.ensures.gathers c.requires.gathers);
}

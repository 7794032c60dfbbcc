-- The channel that is set is counted, where none was.
use Rattle.std.proofs.Common.{rules, ◌≡◌, ◌<◌, ◌^◌, nat_eq, suc, ap, subst, sym, ◌∙◌}
use Rattle.std.specs.HashMap.{IsUnchanged}
use Rattle.std.specs.Map.{lookup}
use Rattle.amqp_model.specs.End.Amounts.{body_octets_on, header_octets_on}
use Rattle.amqp_model.specs.End.Asks.{is_free}
use Rattle.amqp_model.specs.End.Channels.{Free}
use Rattle.amqp_channel.specs.Channels.Used.{body_octets_at, header_octets_at, kept_at, used_gathered, IsKeptAt}
use Rattle.amqp_channel.proofs.AmountLemmas.{bodies_written, fit_written, free_kept, gathered_unchanged, headers_written, is_part, now_here, view_unchanged, views_same}
use Rattle.amqp_channel.proofs.FreeLemmas.{still_passed}
use Rattle.amqp_channel.proofs.SumLemmas.{sum_same}
use Rattle.amqp_channel.proofs.UsedLemmas.{at_used}
use Rattle.amqp_channel.proofs.channels.Channels.set.Goals as goal

-- nothing was there
pub after-self-requires : goal.after-self-requires
after-self-requires c =
    let self = c.args.self.now in
    let free : used_gathered self.used c.args.number ≡ Free = free_kept self.used c.args.number c.requires.above c.requires.free in
    is_part self.used self.amounts self.counts_headers self.counts_bodies self.bodies_fit c.args.number c.requires.above (search rules) c.none.result
    (c.none.ensures.header ∙ sym (ap header_octets_on free)) (c.none.ensures.body ∙ sym (ap body_octets_on free))

pub invariant_of-self-2-clause-counts_headers : goal.invariant_of-self-2-clause-counts_headers
invariant_of-self-2-clause-counts_headers c =
    let self = c.args.self.now in
    let used = c.keep.new.used in
    let free : used_gathered self.used c.args.number ≡ Free = free_kept self.used c.args.number c.requires.above c.requires.free in
    let kept : IsKeptAt self.used c.args.number c.args.channel used = search rules in
    headers_written self.used used self.amounts c.after-self.result self.counts_headers self.counts_bodies self.bodies_fit c.args.number c.requires.above
    (search rules) c.none.result c.amount-left.result c.args.channel
    (c.none.ensures.header ∙ sym (ap header_octets_on free)) (c.none.ensures.body ∙ sym (ap body_octets_on free))
    (views_same self.used used c.args.number kept.others) (now_here used c.args.number c.requires.above c.args.channel kept.here)
    c.amount-left.ensures.header c.amount-left.ensures.body (search rules) c.after-self.ensures

pub invariant_of-self-2-clause-counts_bodies : goal.invariant_of-self-2-clause-counts_bodies
invariant_of-self-2-clause-counts_bodies c =
    let self = c.args.self.now in
    let used = c.keep.new.used in
    let free : used_gathered self.used c.args.number ≡ Free = free_kept self.used c.args.number c.requires.above c.requires.free in
    let kept : IsKeptAt self.used c.args.number c.args.channel used = search rules in
    bodies_written self.used used self.amounts c.after-self.result self.counts_headers self.counts_bodies self.bodies_fit c.args.number c.requires.above
    (search rules) c.none.result c.amount-left.result c.args.channel
    (c.none.ensures.header ∙ sym (ap header_octets_on free)) (c.none.ensures.body ∙ sym (ap body_octets_on free))
    (views_same self.used used c.args.number kept.others) (now_here used c.args.number c.requires.above c.args.channel kept.here)
    c.amount-left.ensures.header c.amount-left.ensures.body (search rules) c.after-self.ensures

pub invariant_of-self-2-clause-bodies_fit : goal.invariant_of-self-2-clause-bodies_fit
invariant_of-self-2-clause-bodies_fit c =
    let self = c.args.self.now in
    let used = c.keep.new.used in
    let free : used_gathered self.used c.args.number ≡ Free = free_kept self.used c.args.number c.requires.above c.requires.free in
    let kept : IsKeptAt self.used c.args.number c.args.channel used = search rules in
    fit_written self.used used self.amounts c.after-self.result self.counts_headers self.counts_bodies self.bodies_fit c.args.number c.requires.above
    (search rules) c.none.result c.amount-left.result c.args.channel
    (c.none.ensures.header ∙ sym (ap header_octets_on free)) (c.none.ensures.body ∙ sym (ap body_octets_on free))
    (views_same self.used used c.args.number kept.others) (now_here used c.args.number c.requires.above c.args.channel kept.here)
    c.amount-left.ensures.header c.amount-left.ensures.body (search rules) c.after-self.ensures

-- The number is taken now.
pub invariant_of-self-2-clause-passed_are_taken : goal.invariant_of-self-2-clause-passed_are_taken
invariant_of-self-2-clause-passed_are_taken c =
    let self = c.args.self.now in
    let used = c.keep.new.used in
    let kept : IsKeptAt self.used c.args.number c.args.channel used = search rules in
    still_passed used c.take.new.self c.args.number
    (λ j passed apart. ap is_free (ap kept_at (kept.others (suc j) apart)) ∙ self.passed_are_taken j (c.take.ensures (suc j) apart passed))
    (ap is_free (at_used used c.args.number c.requires.above ∙ ap kept_at kept.here) ∙ (sym c.is_free.ensures ∙ c.if-is_free.false))

-- Out of memory, all are as they were.
pub invariant_of-self : goal.invariant_of-self
invariant_of-self c =
    let self = c.args.self.now in
    let used = c.keep.new.used in
    let same : IsUnchanged self.used used = search rules in
    let views = view_unchanged self.used used same in
    let gathered = gathered_unchanged self.used used same in
    record {
      passed_are_taken = λ j passed. ap is_free (views (suc j)) ∙ self.passed_are_taken j passed;
      none_free = λ number channel there. self.none_free number channel (sym (ap (λ entries. lookup (nat_eq number) entries) same) ∙ there);
      counts_headers = sum_same self.amounts.headers (header_octets_at self.used) (header_octets_at used) (λ n. ap header_octets_on (gathered n)) self.counts_headers;
      counts_bodies = sum_same self.amounts.bodies (body_octets_at self.used) (body_octets_at used) (λ n. ap body_octets_on (gathered n)) self.counts_bodies;
      bodies_fit = λ n. subst (λ octets. octets < 2 ^ 64) (sym (ap body_octets_on (gathered n))) (self.bodies_fit n);
    }

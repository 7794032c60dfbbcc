use Rattle.std.proofs.Common.{rules, ◌≡◌, ◌≢◌, nat_eq, false, ℕ, suc, Some, ap, ◌∙◌}
use Rattle.std.specs.HashMap.{get}
use Rattle.amqp_model.specs.End.Asks.{is_free}
use Rattle.amqp_channel.specs.Channels.Passed.{IsPassed}
use Rattle.amqp_channel.specs.Channels.Used.{kept_at, used_view}
use Rattle.amqp_channel.proofs.FreeLemmas.{still_passed}
use Rattle.amqp_channel.proofs.PlaceLemmas.{none_written}
use Rattle.amqp_channel.proofs.UsedLemmas.{at_used}
use Rattle.amqp_channel.proofs.AmountLemmas.{bodies_written, fit_written, headers_written, is_part, now_here, views_same}
use Rattle.amqp_channel.proofs.channels.Channels.put_flow.Goals as goal

pub invariant_of-self-clause-passed_are_taken : goal.invariant_of-self-clause-passed_are_taken
invariant_of-self-clause-passed_are_taken c =
    let used = c.get_mut.follows.lender c.put_flow.new.self in
    let others : (j : ℕ) → IsPassed c.args.self.now.numbers (suc j) → suc j ≢ c.args.site.number → is_free (used_view used (suc j)) ≡ false = search rules in
    let written : get nat_eq used c.args.site.number ≡ Some c.put_flow.new.self = search rules in
    still_passed used c.args.self.now.numbers c.args.site.number others
    (ap is_free (at_used used c.args.site.number c.requires.above ∙ ap kept_at written) ∙ c.put_flow.ensures.taken)

pub invariant_of-self-clause-none_free : goal.invariant_of-self-clause-none_free
invariant_of-self-clause-none_free c =
    let used = c.get_mut.follows.lender c.put_flow.new.self in
    let others : (other : ℕ) → other ≢ c.args.site.number → get nat_eq used other ≡ get nat_eq c.args.self.now.used other = search rules in
    let written : get nat_eq used c.args.site.number ≡ Some c.put_flow.new.self = search rules in
    none_written c.args.self.now.used used c.args.site.number c.put_flow.new.self c.requires.above c.args.self.now.none_free others written c.put_flow.ensures.taken

pub after-self-requires : goal.after-self-requires
after-self-requires c =
    let self = c.args.self.now in
    is_part self.used self.amounts self.counts_headers self.counts_bodies self.bodies_fit c.args.site.number c.requires.above (search rules) c.amount-before.result
    (search rules) (search rules)

pub invariant_of-self-clause-counts_headers : goal.invariant_of-self-clause-counts_headers
invariant_of-self-clause-counts_headers c =
    let self = c.args.self.now in
    let used = c.get_mut.follows.lender c.put_flow.new.self in
    let entries : (other : ℕ) → other ≢ c.args.site.number → get nat_eq used other ≡ get nat_eq self.used other = search rules in
    let written : get nat_eq used c.args.site.number ≡ Some c.put_flow.new.self = search rules in
    headers_written self.used used self.amounts c.after-self.result self.counts_headers self.counts_bodies self.bodies_fit c.args.site.number c.requires.above
    (search rules) c.amount-before.result c.amount-left.result c.put_flow.new.self (search rules) (search rules)
    (views_same self.used used c.args.site.number entries)
    (now_here used c.args.site.number c.requires.above c.put_flow.new.self written) c.amount-left.ensures.header c.amount-left.ensures.body (search rules)
    c.after-self.ensures

pub invariant_of-self-clause-counts_bodies : goal.invariant_of-self-clause-counts_bodies
invariant_of-self-clause-counts_bodies c =
    let self = c.args.self.now in
    let used = c.get_mut.follows.lender c.put_flow.new.self in
    let entries : (other : ℕ) → other ≢ c.args.site.number → get nat_eq used other ≡ get nat_eq self.used other = search rules in
    let written : get nat_eq used c.args.site.number ≡ Some c.put_flow.new.self = search rules in
    bodies_written self.used used self.amounts c.after-self.result self.counts_headers self.counts_bodies self.bodies_fit c.args.site.number c.requires.above
    (search rules) c.amount-before.result c.amount-left.result c.put_flow.new.self (search rules) (search rules)
    (views_same self.used used c.args.site.number entries)
    (now_here used c.args.site.number c.requires.above c.put_flow.new.self written) c.amount-left.ensures.header c.amount-left.ensures.body (search rules)
    c.after-self.ensures

pub invariant_of-self-clause-bodies_fit : goal.invariant_of-self-clause-bodies_fit
invariant_of-self-clause-bodies_fit c =
    let self = c.args.self.now in
    let used = c.get_mut.follows.lender c.put_flow.new.self in
    let entries : (other : ℕ) → other ≢ c.args.site.number → get nat_eq used other ≡ get nat_eq self.used other = search rules in
    let written : get nat_eq used c.args.site.number ≡ Some c.put_flow.new.self = search rules in
    fit_written self.used used self.amounts c.after-self.result self.counts_headers self.counts_bodies self.bodies_fit c.args.site.number c.requires.above
    (search rules) c.amount-before.result c.amount-left.result c.put_flow.new.self (search rules) (search rules)
    (views_same self.used used c.args.site.number entries)
    (now_here used c.args.site.number c.requires.above c.put_flow.new.self written) c.amount-left.ensures.header c.amount-left.ensures.body (search rules)
    c.after-self.ensures

-- Each feed is one of the octets that are left, of an end set up as at first, and takes some of them.
use Rattle.std.proofs.Common.{◌≡◌, ◌<◌, length, ◌++◌, option_to_list, Ok, Err, ◌∙◌, ap, refl, subst, arith}
use Rattle.std.proofs.lemmas.List.{length-drop}
use Rattle.std.proofs.lemmas.Bool.Decides.{nat_tests}
use Rattle.amqp_core.specs.End.View.{endpoint_of, settings_at}
use Rattle.amqp_core.specs.End.Feeds.{Feeds}
use Rattle.amqp_io.specs.Intakes.{not_yet}
use Rattle.amqp_io.specs.SessionView.{intake_of, settings_in}
use Rattle.amqp_io.proofs.FeedingLemmas.{feeds_as, fed_further}
use Rattle.amqp_io.proofs.session.Session.feed_all.Goals as goal

pub loop-self-init : goal.loop-self-init
loop-self-init g c = record { fed = not_yet; settings = refl; stream = refl; room = refl }

pub fed-requires : goal.fed-requires
fed-requires g c = omega (arith, c.in-Ok-feed.ensures.within, ap length c.octets.ensures)

pub returns-in-Err-clause-fed : goal.returns-in-Err-clause-fed
returns-in-Err-clause-fed g c =
    let end = c.loop-self.self.end in
    let unfed = c.loop-self.self.unfed.octets in
    let old = endpoint_of end in
    let new = endpoint_of c.feed.new.self in
    let some : 0 < length unfed = grind (arith, nat_tests) in
    let feeds_ill : Feeds end c.octets.result.now (Err c.in-Err.fault) c.feed.new.self =
    subst (λ r. Feeds end c.octets.result.now r c.feed.new.self) c.in-Err.is c.feed.ensures in
    record {
      before = intake_of c.loop-self.self;
      fed = c.loop-self.invariant.fed;
      some_left = some;
      found = feeds_as (settings_in c.args.self.now) (settings_at end) _ old new unfed c.octets.result.now c.loop-self.invariant.settings
          c.octets.ensures (record { answered = feeds_ill.fed; follows = feeds_ill.history });
      dropped = ap (λ unfed. unfed.octets) c.clear.ensures;
      events_stay = c.try_reserve.ensures.items;
    }

pub loop-self-smaller : goal.loop-self-smaller
loop-self-smaller g c =
    let unfed = c.loop-self.self.unfed.octets in
    let taken = c.in-Ok-feed.taken in
    let some : 0 < length unfed = grind (arith, nat_tests) in
    let same : length c.octets.result.now ≡ length unfed = ap length c.octets.ensures in
    let progress : 0 < taken.octets = c.in-Ok-feed.ensures.progress (λ none. absurd (omega (arith, ap length none))) in
    omega (arith, length-drop taken.octets unfed, ap (λ unfed. length unfed.octets) c.fed.ensures)

pub loop-self-preserved : goal.loop-self-preserved
loop-self-preserved g c =
    let end = c.loop-self.self.end in
    let unfed = c.loop-self.self.unfed.octets in
    let old = endpoint_of end in
    let new = endpoint_of c.feed.new.self in
    let some : 0 < length unfed = grind (arith, nat_tests) in
    let feeds_well : Feeds end c.octets.result.now (Ok c.in-Ok-feed.taken) c.feed.new.self =
    subst (λ r. Feeds end c.octets.result.now r c.feed.new.self) c.in-Ok-feed.is c.feed.ensures in
    let feeds = feeds_as (settings_in c.args.self.now) (settings_at end) _ old new unfed c.octets.result.now c.loop-self.invariant.settings
    c.octets.ensures (record { answered = feeds_well.fed; follows = feeds_well.history }) in
    record {
      fed = fed_further _ _ _ (intake_of c.loop-self.self) _ c.in-Ok-feed.taken c.loop-self.invariant.fed some feeds (ap (λ unfed. unfed.octets) c.fed.ensures)
          (c.keep.ensures ∙ ap (λ events. events ++ option_to_list c.in-Ok-feed.taken.event) c.try_reserve.ensures.items);
      settings = c.feed.ensures.settings ∙ c.loop-self.invariant.settings;
      stream = c.loop-self.invariant.stream;
      room = ap (λ unfed. unfed.room) c.fed.ensures ∙ c.loop-self.invariant.room;
    }

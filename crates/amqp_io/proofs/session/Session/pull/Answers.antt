-- What is read is fed after what was kept, and the stream is left alone before and after the read.
use Rattle.std.proofs.Common.{ap, rules}
use Rattle.std.proofs.lemmas.Result.{err_from_is_err_and}
use Rattle.amqp_io.specs.SessionView.{intake_of, settings_in, role_in, config_in, room_in}
use Rattle.amqp_io.proofs.FeedingLemmas.{read_from, stops_as, stops_later, feeds_all_as}
use Rattle.amqp_io.proofs.session.Session.pull.Goals as goal

pub returns-in_err-feed_all-2 : goal.returns-in_err-feed_all-2
returns-in_err-feed_all-2 g c =
    let p = err_from_is_err_and c.from_residual-in_err-feed_all-2.result c.from_residual-in_err-feed_all-2.ensures.1 in
    let old = c.args.self.now in
    let between = c.feed_all.new.self in
    let new = c.feed_all-2.new.self in
    let first = c.in_ok-feed_all.ensures in
    let later = c.in_err-feed_all-2.ensures in
    let to_give = g.S.Stream.to_give in
    let read = read_from (room_in old) (room_in between) c.refill.new.self.octets (to_give old.stream) (to_give between.stream) (to_give c.refill.new.stream) (to_give new.stream)
    first.room (ap to_give first.stream) (ap to_give later.stream) c.in-Octets.ensures.given.1 in
    let stops = stops_as (settings_in old) (settings_in between) _ _ _ first.settings later.fed in
    record {
      pulled = rw (p.1, p.2) (stops_later (room_in old) (role_in old) (config_in old) _ (intake_of old) (intake_of between) (intake_of new) c.refill.new.self.octets _ _
          first.fed read stops);
      taken = search rules;
      failure = search rules;
      end = search rules;
      settings = search rules;
      room = search rules;
    }

pub returns : goal.returns
returns g c =
    let old = c.args.self.now in
    let between = c.feed_all.new.self in
    let new = c.feed_all-2.new.self in
    let first = c.in_ok-feed_all.ensures in
    let later = c.in_ok-feed_all-2.ensures in
    let to_give = g.S.Stream.to_give in
    let read = read_from (room_in old) (room_in between) c.refill.new.self.octets (to_give old.stream) (to_give between.stream) (to_give c.refill.new.stream) (to_give new.stream)
    first.room (ap to_give first.stream) (ap to_give later.stream) c.in-Octets.ensures.given.1 in
    let all = feeds_all_as (settings_in old) (settings_in between) _ _ first.settings later.fed in
    record {
      pulled = (record { between = intake_of between; octets = c.refill.new.self.octets; kept_fed = first.fed; read = read; then_fed = all }, c.in-Octets.ensures.given.0);
      taken = search rules;
      failure = search rules;
      end = search rules;
      settings = search rules;
      room = search rules;
    }

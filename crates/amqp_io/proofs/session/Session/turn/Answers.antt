-- A pull that was answered Ok, and then a push of all that there was to write.
use Rattle.std.proofs.Common.{length, ap, inr, rules}
use Rattle.std.proofs.lemmas.Result.{err_from_is_err_and}
use Rattle.amqp_io.specs.SessionView.{intake_of, role_in, config_in, room_in}
use Rattle.amqp_io.proofs.TurnLemmas.{pulled_and_pushed}
use Rattle.amqp_io.proofs.session.Session.turn.Goals as goal

pub returns-in_err-push : goal.returns-in_err-push
returns-in_err-push g c =
    let p = err_from_is_err_and c.from_residual-in_err-push.result c.from_residual-in_err-push.ensures.1 in
    let old = c.args.self.now in
    let between = intake_of c.pull.new.self in
    let new = intake_of c.push.new.self in
    let pull = c.in_ok-pull.ensures in
    let push = c.in_err-push.ensures in
    record {
      turned = rw (p.1, p.2) (inr (pulled_and_pushed (room_in old) (role_in old) (config_in old) _ _ _ (intake_of old) between new _ _ _ _ _ _
          pull.pulled push.to_give (ap length c.output-all.ensures.octets) push.pushed pull.taken push.unfed push.events));
      failure = search rules;
      end = search rules;
      settings = search rules;
      room = search rules;
    }

pub returns : goal.returns
returns g c =
    let old = c.args.self.now in
    let between = intake_of c.pull.new.self in
    let new = intake_of c.push.new.self in
    let pull = c.in_ok-pull.ensures in
    let push = c.in_ok-push.ensures in
    let both = pulled_and_pushed (room_in old) (role_in old) (config_in old) _ _ _ (intake_of old) between new _ _ _ _ _ _
    pull.pulled push.to_give (ap length c.output-all.ensures.octets) push.pushed pull.taken push.unfed push.events in
    record {
      turned = (c.in_ok-push.field-0, both);
      failure = search rules;
      end = search rules;
      settings = search rules;
      room = search rules;
    }

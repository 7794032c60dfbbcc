use Rattle.std.proofs.Common.{◌≡◌, ◌<◌, ◌-◌, ◌∷◌, [], ◌++◌, length, ap, ◌∙◌, arith, rules}
use Rattle.amqp_frame.specs.Frame.{END}
use Rattle.amqp_frame.specs.Splitting.{stream}
use Rattle.amqp_outbox.specs.BodyToCome.{rest_framed}
use Rattle.amqp_outbox.specs.OutboxFrames.{body_frames}
use Rattle.amqp_outbox.proofs.BodyToCome.{filled_in_part, filled_whole}
use Rattle.amqp_outbox.proofs.body.BodyWriter.fill_frame.Goals as goal

pub returns-in_ok-push-clause-written : goal.returns-in_ok-push-clause-written
returns-in_ok-push-clause-written c =
    let old = c.args.self.now in
    let part = c.args.part.now in
    let before = c.args.octets.now.items in
    let within = old.within in
    let some = c.requires.some in
    let all = c.requires.within in
    let none : old.begun - length part ≡ 0 = search rules in
    let pushed : c.push.new.self.items ≡ (before ++ part) ++ END ∷ [] =
    c.in_ok-push.ensures.items ∙ ap (λ xs. xs ++ END ∷ []) c.in_ok-extend_from_slice.ensures.items in
    record {
      framed = λ later sized.
          ap (λ n. c.push.new.self.items ++ rest_framed old.channel old.room n later) none
          ∙ (ap (λ xs. xs ++ stream (body_frames old.channel old.room later)) pushed
          ∙ filled_whole old.channel old.room old.begun part later before (omega arith) (omega arith));
      fewer = omega arith;
    }

pub returns-else-self-eq0-clause-written : goal.returns-else-self-eq0-clause-written
returns-else-self-eq0-clause-written c =
    let old = c.args.self.now in
    let part = c.args.part.now in
    let before = c.args.octets.now.items in
    let within = old.within in
    let some = c.requires.some in
    let all = c.requires.within in
    let left = old.begun - length part in
    let open_still : 0 < left = search rules in
    record {
      framed = λ later sized.
          ap (λ xs. xs ++ rest_framed old.channel old.room left later) c.in_ok-extend_from_slice.ensures.items
          ∙ filled_in_part old.channel old.room old.begun left part later before (omega arith) open_still;
      fewer = omega arith;
    }

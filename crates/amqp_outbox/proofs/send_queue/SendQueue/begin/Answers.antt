use Rattle.std.proofs.Common.{◌≡◌, ◌-◌, [], length, drop, refl, sym, ap, ap₂, ◌∙◌, arith, subst}
use Rattle.amqp_model.specs.Output.Arrangement.{last_after}
use Rattle.amqp_outbox.specs.OutboxView.{Outgoing}
use Rattle.amqp_outbox.specs.PiecesFields.{outgoing_in}
use Rattle.amqp_outbox.specs.PiecesQueues.{row_of_queues, frame_of}
use Rattle.amqp_outbox.specs.PiecesWrites.{left_of, BeginsNext}
use Rattle.amqp_outbox.specs.declared.send_queue.SendQueue.TheInside.{Inside}
use Rattle.amqp_outbox.proofs.PiecesWrites.{output, frame-begun, frame-written, none-begun, nothing-left, some-octets}
use Rattle.amqp_outbox.proofs.send_queue.SendQueue.begin.Goals as goal

pub returns-in_default : goal.returns-in_default
returns-in_default c =
    let x = c.self.inside in
    let y : Inside = record x { queues = c.pop.new.self } in
    let r = c.in_default.ensures.row in
    let some = c.requires.some in
    let none : drop x.written x.ahead.items ≡ [] = ap (λ (o : Outgoing). o.output.ahead) c.self.view_is ∙ c.requires.none_begun in
    subst (λ (old : Outgoing). BeginsNext c.args.octets 0 old (outgoing_in y)) c.self.view_is
    (record {
      fewer = some;
      staged = refl;
      left = ap₂ (λ a r. output a x.begun_on x.last r) none r.1 ∙ (none-begun c.args.octets x.begun_on x.last some ∙ sym (ap₂ (λ a r. left_of c.args.octets (output a x.begun_on x.last r)) none r.0));
      ended = λ h. absurd (omega arith);
    })

pub returns-then-octets-len : goal.returns-then-octets-len
returns-then-octets-len c =
    let x = c.self.inside in
    let chunk = c.in-Some.chunk in
    let f = frame_of chunk in
    let y : Inside = record x { ahead = chunk.octets; written = c.args.octets; queues = c.pop.new.self; begun_on = chunk.slot.channel; last = c.last_after-self-inside.result } in
    let none : drop x.written x.ahead.items ≡ [] = ap (λ (o : Outgoing). o.output.ahead) c.self.view_is ∙ c.requires.none_begun in
    let some = c.requires.some in
    let n = c.last_after-self-inside.ensures in
    let m = c.len.ensures ∙ chunk.octets.ok.0 in
    let t = c.if-octets-len.true in
    let next = frame-begun c.args.octets x.begun_on x.last f (row_of_queues (last_after x.last f) c.pop.new.self) chunk.octets.items (sym c.in-Some.ensures.whole.encoded) some (omega arith) in
    subst (λ (old : Outgoing). BeginsNext c.args.octets 0 old (outgoing_in y)) c.self.view_is
    (record {
      fewer = some;
      staged = refl;
      left = ap (λ l. output (drop c.args.octets chunk.octets.items) chunk.slot.channel l (row_of_queues l c.pop.new.self)) n ∙ (next ∙ sym (ap₂ (λ a r. left_of c.args.octets (output a x.begun_on x.last r)) none c.in-Some.ensures.row));
      ended = λ h. absurd (omega arith);
    })

pub returns : goal.returns
returns c =
    let x = c.self.inside in
    let chunk = c.in-Some.chunk in
    let f = frame_of chunk in
    let y : Inside = record x { ahead = chunk.octets; written = c.len-self-inside.result; queues = c.pop.new.self; begun_on = chunk.slot.channel; last = c.last_after-self-inside.result } in
    let none : drop x.written x.ahead.items ≡ [] = ap (λ (o : Outgoing). o.output.ahead) c.self.view_is ∙ c.requires.none_begun in
    let some = c.requires.some in
    let n = c.last_after-self-inside.ensures in
    let m : c.len.result ≡ length chunk.octets.items = c.len.ensures ∙ chunk.octets.ok.0 in
    let k : c.len-self-inside.result ≡ length chunk.octets.items = c.len-self-inside.ensures ∙ chunk.octets.ok.0 in
    let t = c.if-octets-len.false in
    let later = row_of_queues (last_after x.last f) c.pop.new.self in
    let next = frame-written c.args.octets x.begun_on x.last f later chunk.octets.items (sym c.in-Some.ensures.whole.encoded) some (omega arith) in
    let more = some-octets f chunk.octets.items (sym c.in-Some.ensures.whole.encoded) in
    subst (λ (old : Outgoing). BeginsNext c.args.octets (c.args.octets - c.len-self-inside.result) old (outgoing_in y)) c.self.view_is
    (record {
      fewer = omega arith;
      staged = refl;
      left = rw k (ap (λ l. left_of (c.args.octets - length chunk.octets.items) (output (drop (length chunk.octets.items) chunk.octets.items) chunk.slot.channel l (row_of_queues l c.pop.new.self))) n
          ∙ (next ∙ sym (ap₂ (λ a r. left_of c.args.octets (output a x.begun_on x.last r)) none c.in-Some.ensures.row)));
      ended = λ h. rw k (nothing-left (length chunk.octets.items) chunk.octets.items (omega arith));
    })

use Rattle.std.proofs.Common.{◌≡◌, ◌<◌, ◌+◌, ◌∷◌, [], ◌++◌, length, drop, refl, sym, ap, ap₂, ◌∙◌, arith, subst}
use Rattle.std.proofs.lemmas.List.{map-append}
use Rattle.std.proofs.lemmas.List.Elements.{All-push}
use Rattle.amqp_outbox.specs.OutboxView.{Outgoing, with_staged}
use Rattle.amqp_outbox.specs.PiecesFields.{outgoing_in}
use Rattle.amqp_outbox.specs.PiecesQueues.{frame_of, frames_of, IsChunk, HaveRoom}
use Rattle.amqp_outbox.specs.declared.queues.Chunk.{Chunk}
use Rattle.amqp_frame.specs.Splitting.{stream}
use Rattle.amqp_outbox.proofs.PiecesCounts.{coming-last}
use Rattle.amqp_outbox.proofs.PiecesWrites.{chunk-is, is-chunk}
use Rattle.amqp_outbox.proofs.send_queue.SendQueue.stage.Goals as goal

pub invariant_of-self-2 : goal.invariant_of-self-2
invariant_of-self-2 c =
    let i = c.self.invariant in
    let r = c.requires in
    let f = r.0 in
    let x = c.self.inside in
    let chunk : Chunk = record { slot = c.args.slot; octets = c.in_ok-octets.octets } in
    let few : length x.staged.items < c.len-more.result + 1 = let l = x.staged.ok.0 in let m = c.len-more.ensures in omega arith in
    let room = c.in_ok-make_room.ensures.made x.staged.items chunk refl few i.room in
    let is = c.in_ok-octets.ensures.items ∙ r.2 in
    let whole = is-chunk f chunk r.1 is r.3 in
    let sum = c.in_ok-coming.ensures.sum in
    let len : length c.args.frame.now ≡ length chunk.octets.items = ap length (sym c.in_ok-octets.ensures.items) in
    let last = coming-last chunk x.staged.items c.push_back.new.self.items whole c.in-Ok.ensures.items in
    record {
      written = i.written;
      queues = c.in_ok-make_room.ensures.sound;
      staged = rw c.in-Ok.ensures.items (All-push IsChunk x.staged.items chunk i.staged whole);
      room = subst (HaveRoom c.make_room.new.self) (sym c.in-Ok.ensures.items) room;
      waiting = i.waiting ∙ ap (λ r. length (drop x.written x.ahead.items ++ stream r)) (sym (c.in_ok-make_room.ensures.row x.last));
      coming = let k = i.coming in let s = sum.0 in omega arith;
      fits = sum.1;
    }

pub returns-clause-ok : goal.returns-clause-ok
returns-clause-ok c f n e =
    let chunk : Chunk = record { slot = c.args.slot; octets = c.in_ok-octets.octets } in
    let is = chunk-is f chunk n (c.in_ok-octets.ensures.items ∙ e) in
    let x = c.self.inside in
    let staged : frames_of c.push_back.new.self.items ≡ frames_of x.staged.items ++ f ∷ [] =
    ap frames_of c.in-Ok.ensures.items ∙ (map-append frame_of x.staged.items (chunk ∷ []) ∙ ap (λ g. frames_of x.staged.items ++ g ∷ []) is) in
    subst (λ (old : Outgoing). outgoing_in (record x { queues = c.make_room.new.self; staged = c.push_back.new.self }) ≡ with_staged old (f ∷ [])) c.self.view_is
    (ap₂ (λ r s. record { output = record { ahead = drop x.written x.ahead.items; begun_on = x.begun_on; last = x.last; row = r }; staged = s }) (c.in_ok-make_room.ensures.row x.last) staged)

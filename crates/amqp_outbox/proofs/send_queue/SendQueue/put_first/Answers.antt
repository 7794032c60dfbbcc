use Rattle.std.proofs.Common.{◌≡◌, ◌+◌, length, drop, All, ap, ◌∙◌, subst, arith, rules}
use Rattle.amqp_model.specs.Output.Arrangement.{IsChannel}
use Rattle.std.proofs.lemmas.List.Elements.{All-drop, All-head}
use Rattle.amqp_outbox.specs.PiecesQueues.{IsChunk, HaveRoom, row_of_queues}
use Rattle.amqp_outbox.proofs.PiecesCounts.{waiting-put, coming-first}
use Rattle.amqp_outbox.proofs.send_queue.SendQueue.put_first.Goals as goal

pub invariant_of-self-2 : goal.invariant_of-self-2
invariant_of-self-2 c =
    let x = c.self.inside in
    let i = c.self.invariant in
    let chunk = c.in-Some.chunk in
    let whole : IsChunk chunk = All-head IsChunk chunk c.pop_front.new.self.items (subst (All IsChunk) c.in-Some.ensures.items i.staged) in
    let len : c.len.result ≡ length chunk.octets.items = c.len.ensures ∙ chunk.octets.ok.0 in
    let same : c.len-2.result ≡ length chunk.octets.items = c.len-2.ensures ∙ chunk.octets.ok.0 in
    let last : IsChannel x.last = search rules in
    let waiting = waiting-put x.waiting x.last (drop x.written x.ahead.items) chunk (row_of_queues x.last x.queues) (row_of_queues x.last c.push.new.self) whole i.waiting (c.push.ensures.row x.last last) in
    let coming = coming-first chunk c.pop_front.new.self.items x.staged.items whole c.in-Some.ensures.items in
    record {
      written = i.written;
      queues = c.push.ensures.sound;
      staged = rw c.pop_front.ensures.rest (All-drop IsChunk 1 x.staged.items i.staged);
      room = c.push.ensures.room c.pop_front.new.self.items (subst (HaveRoom x.queues) c.in-Some.ensures.items i.room);
      waiting = ap (λ n. x.waiting + n) same ∙ waiting;
      coming = let k = i.coming in omega arith;
      fits = let k = i.coming in let m = i.fits in omega arith;
    }

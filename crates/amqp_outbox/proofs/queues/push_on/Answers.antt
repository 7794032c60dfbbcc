use Rattle.std.proofs.Common.{refl, ap, sym, ◌∙◌, ◌-◌, ◌≡◌, ◌<◌, subst}
use Rattle.std.specs.VecDeque.{deque_len, deque_capacity}
use Rattle.amqp_outbox.specs.declared.queues.Queue.{Queue}
use Rattle.amqp_outbox.proofs.PiecesMoves.{takes}
use Rattle.amqp_outbox.proofs.PiecesSearch.{found-in}
use Rattle.amqp_outbox.proofs.queues.push_on.Goals as goal

pub overflow_sub-end : goal.overflow_sub-end
overflow_sub-end c = (found-in _ _ _ _ c.deref.ensures.value c.requires.above c.requires.there c.requires.ascends c.count_up_to-end.ensures.within c.count_up_to-end.ensures.up_to c.count_up_to-end.ensures.after).0

pub push_back_reserved-requires : goal.push_back_reserved-requires
push_back_reserved-requires c =
    let f = found-in _ _ _ _ c.deref.ensures.value c.requires.above c.requires.there c.requires.ascends c.count_up_to-end.ensures.within c.count_up_to-end.ensures.up_to c.count_up_to-end.ensures.after in
    let q = c.index_mut-queue.result.now in
    let e = c.index_mut-queue.ensures.value in
    let own : q.channel ≡ c.args.chunk.slot.channel = ap (λ (x : Queue). x.channel) e ∙ f.1.1 q in
    let room = c.requires.room (c.count_up_to-end.result - 1) q f.1.0 in
    subst (λ (x : Queue). deque_len x.frames < deque_capacity x.frames) (sym e) (room (f.1.1 q))

pub returns : goal.returns
returns c =
    let f = found-in _ _ _ _ c.deref.ensures.value c.requires.above c.requires.there c.requires.ascends c.count_up_to-end.ensures.within c.count_up_to-end.ensures.up_to c.count_up_to-end.ensures.after in
    let q = c.index_mut-queue.result.now in
    let e = c.index_mut-queue.ensures.value in
    let own : q.channel ≡ c.args.chunk.slot.channel = ap (λ (x : Queue). x.channel) e ∙ f.1.1 q in
    takes c.args.queues.now.items _ q _ c.args.chunk f.1.0 e refl own c.push_back_reserved.ensures.items c.push_back_reserved.ensures.len c.push_back_reserved.ensures.capacity

use Rattle.std.proofs.Common.{◌≡◌, refl, sym, ◌∙◌, arith, eqb-true}
use Rattle.std.specs.VecDeque.{deque_len}
use Rattle.amqp_outbox.specs.declared.send_queue.SendQueue.TheInside.{Inside}
use Rattle.amqp_outbox.proofs.PiecesEmpty.{IsGivenBack, nothing, given-back-view}
use Rattle.amqp_outbox.proofs.send_queue.SendQueue.give_back.Goals as goal

pub returns : goal.returns
returns c =
    let x = c.self.inside in
    let y : Inside = record x { ahead = c.new.result; written = 0; queues = c.new-2.result; staged = c.new-3.result; most = 0 } in
    let none : deque_len x.staged ≡ 0 = eqb-true (deque_len x.staged) 0 (sym c.is_empty.ensures ∙ c.if-not-is_empty.false) in
    let l = x.staged.ok.0 in
    let t = c.if-self-gt0.false in
    let given : IsGivenBack x y = record {
      ahead = c.new.ensures.items;
      written = refl;
      row = c.new-2.ensures.row x.last;
      staged = c.new-3.ensures.items;
      begun_on = refl;
      last = refl;
    } in
    given-back-view x y c.self.invariant (omega arith) (nothing x.staged.items (omega arith)) given ∙ c.self.view_is

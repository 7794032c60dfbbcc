use Rattle.std.proofs.Common.{◌-◌, ◌++◌, length, All, List, sym, ap, arith, subst, length-append, drop}
use Rattle.amqp_model.specs.Output.Arrangement.{arranged}
use Rattle.amqp_outbox.specs.PiecesRing.{Line, flat, IsRing, IsIdle}
use Rattle.amqp_outbox.proofs.PiecesRounds.{round-ends}
use Rattle.amqp_outbox.proofs.ring.Ring.go_round.Goals as goal

pub returns-then-self-clause-round : goal.returns-then-self-clause-round
returns-then-self-clause-round c =
    let r = c.args.self.now in
    let queues = r.later.now ++ r.earlier.now in
    let n = length-append r.later.now r.earlier.now in
    let t = c.if-self.true in
    let e = round-ends r.round r.at c.saturating_add-self.result queues (omega arith) c.saturating_add-self.ensures in
    record {
      queues = c.requires.queues;
      at = omega arith;
      in_turn = subst (IsRing r.last) (sym e) c.requires.in_turn;
      last = c.requires.last;
      idle = c.requires.idle;
      none = subst (λ (ls : List Line). All IsIdle (drop (length queues - r.idle) ls)) (sym e) c.requires.none;
    }

pub returns-then-self-clause-row : goal.returns-then-self-clause-row
returns-then-self-clause-row c =
    let r = c.args.self.now in
    let queues = r.later.now ++ r.earlier.now in
    let n = length-append r.later.now r.earlier.now in
    let t = c.if-self.true in
    ap (λ ls. arranged r.last (flat ls)) (round-ends r.round r.at c.saturating_add-self.result queues (omega arith) c.saturating_add-self.ensures)

use Rattle.std.proofs.Common.{sym, ◌∙◌, arith}
use Rattle.amqp_outbox.proofs.OutboxLaps.{search-ended}
use Rattle.amqp_outbox.proofs.OutboxWaiting.{search-start, search-down, search-up, as_many}
use Rattle.amqp_outbox.proofs.slots.count_by_halves.Goals as goal

pub loop-low-init : goal.loop-low-init
loop-low-init c = (omega arith, omega arith, search-start _ _)

pub loop-low-preserved-then-is_after : goal.loop-low-preserved-then-is_after
loop-low-preserved-then-is_after c = (omega arith, omega arith, search-down _ _ _ _ _ _ c.loop-low.invariant.2 (omega arith) (omega arith) c.loop-low.invariant.1 (sym c.is_after.ensures ∙ c.if-is_after.true))

pub loop-low-preserved : goal.loop-low-preserved
loop-low-preserved c = (omega arith, omega arith, search-up _ _ _ _ _ _ c.loop-low.invariant.2 (omega arith) (omega arith) c.loop-low.invariant.1 (sym c.is_after.ensures ∙ c.if-is_after.false))

pub returns-clause-count : goal.returns-clause-count
returns-clause-count c order = search-ended _ _ _ _ _ c.loop-low.invariant.2 c.loop-low-test.false (as_many c.args.row.now) order

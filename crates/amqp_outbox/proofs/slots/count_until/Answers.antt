use Rattle.std.proofs.Common.{refl, sym, ◌∙◌}
use Rattle.amqp_outbox.proofs.OutboxWaiting.{search-last}
use Rattle.amqp_outbox.proofs.slots.count_until.Goals as goal

pub returns-then-not-is_after-clause-count : goal.returns-then-not-is_after-clause-count
returns-then-not-is_after-clause-count c order = search-last _ c.args.row.now _ _ refl c.if-all-gt0.true (sym c.is_after.ensures ∙ c.if-not-is_after.true) order

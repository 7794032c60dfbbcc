-- Rows of the same frames that wait have the same queues.
use Rattle.std.proofs.Common.{sym, ◌∙◌}
use Rattle.amqp_model.proofs.Rows.{one-row, same-queues-all, arranged-arranges}
use Rattle.amqp_model.specs.Output.Arrangement.{HasChannel}
use Rattle.amqp_model.proofs.arrangement.one_row.Goals as goal

pub returns-clause-one : goal.returns-clause-one
returns-clause-one c =
    λ last waiting row other l cs a b. one-row last row other l (same-queues-all HasChannel row waiting a.queues cs)
    (λ queue. a.queues queue ∙ sym (b.queues queue)) a.arranged b.arranged

pub returns-clause-made : goal.returns-clause-made
returns-clause-made c = arranged-arranges

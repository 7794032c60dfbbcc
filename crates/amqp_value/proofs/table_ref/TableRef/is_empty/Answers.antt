use Rattle.std.proofs.Common.{◌==◌, ◌∙◌, ap}
use Rattle.amqp_value.specs.Pairs.{pair_count}
use Rattle.amqp_value.proofs.Owning.{none-or-some}
use Rattle.amqp_value.proofs.table_ref.TableRef.is_empty.Goals as goal

pub returns : goal.returns
returns c = c.is_empty.ensures ∙ none-or-some c.body.result.now c.body.ensures.whole ∙ ap (λ pairs. pair_count pairs == 0) c.body.ensures.pairs

use Rattle.std.proofs.Common.{◌++◌, ap, rules}
use Rattle.std.specs.Prelude.{codes}
use Rattle.std.proofs.Output.{has_written_append, has_written_of_eq}
use Rattle.amqp_value.specs.Text.{quoted}
use Rattle.amqp_value.proofs.Texts.{items_text-next, pairs_text-next}
use Rattle.amqp_value.proofs.display.+display.Goals as goal

pub write_items-loop-index-preserved : goal.write_items-loop-index-preserved
write_items-loop-index-preserved g t c = λ plain.
    let before = c.loop-index.invariant plain in
    let comma = c.write_comma.ensures before.plain (search rules) in
    let value = c.write_value.ensures comma.plain (search rules) in
    has_written_of_eq _ _ _ _ _ (items_text-next c.args.values.now c.loop-index.index c.index-values-index.result c.loop-index-test.true c.index-values-index.is)
    (has_written_append _ _ _ _ _ _ before (has_written_append _ _ _ _ _ _ comma value))

pub write_pairs-loop-index-preserved : goal.write_pairs-loop-index-preserved
write_pairs-loop-index-preserved g t c = λ plain.
    let before = c.loop-index.invariant plain in
    let comma = c.write_comma.ensures before.plain (search rules) in
    let name = has_written_of_eq _ _ _ _ _ (ap (λ o. quoted o ++ codes "=") c.as_bytes.ensures.octets) (c.write_name.ensures comma.plain (search rules)) in
    let value = c.write_value.ensures name.plain (search rules) in
    has_written_of_eq _ _ _ _ _ (pairs_text-next c.args.pairs.now c.loop-index.index c.index-pairs-index.result c.loop-index-test.true c.index-pairs-index.is)
    (has_written_append _ _ _ _ _ _ before (has_written_append _ _ _ _ _ _ comma (has_written_append _ _ _ _ _ _ name value)))

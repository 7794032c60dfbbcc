use Rattle.std.proofs.Common.{◌<◌, ◌≤◌, ◌++◌, [], length, arith, rules}
use Rattle.std.proofs.Output.{has_written_append, has_written_of_eq}
use Rattle.amqp_method.specs.Lent.{lent_view, lent_views}
use Rattle.amqp_method.specs.Texts.{parted, property_names, property_text, properties_text}
use Rattle.amqp_method.proofs.TextLemmas.{parted_property_step, parted_properties_end}
use Rattle.amqp_method.proofs.display.write_properties.Goals as goal

pub loop-index-preserved : goal.loop-index-preserved
loop-index-preserved g c = λ plain.
    let before = c.loop-index.invariant plain in
    let index = c.loop-index.index in
    let property = c.index-properties-index.result in
    let name = c.property_name.result.now in
    let within : index < length c.args.properties.now = c.loop-index-test.true in
    let short : length c.args.properties.now ≤ 14 = c.requires in
    let all = parted c.args.starts (properties_text property_names (lent_views c.args.properties.now)) in
    let next = parted_property_step property_names c.args.properties.now index name property c.loop-index.is_first before.0 all (omega arith) within
    (c.property_name.ensures []) c.index-properties-index.is before.2 in (
      before.0 ++ parted c.loop-index.is_first (property_text name (lent_view property)),
      has_written_append _ _ _ _ _ _ before.1 (search rules),
      rw c.is_first_after-is_first.ensures next,
    )

pub returns : goal.returns
returns g c = λ plain _.
    let before = c.loop-index.invariant plain in
    has_written_of_eq _ _ _ _ _
    (parted_properties_end property_names c.args.properties.now c.loop-index.index c.loop-index.is_first before.0 _ c.loop-index-test.false before.2)
    before.1

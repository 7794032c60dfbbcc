use Rattle.std.proofs.Common.{◌<◌, ◌≤◌, ◌++◌, [], length, arith, rules}
use Rattle.std.proofs.Output.{has_written_append, has_written_of_eq}
use Rattle.amqp_method.specs.HeaderRefView.{lent_header, property_ref_view}
use Rattle.amqp_method.specs.Texts.{property_names, property_text}
use Rattle.amqp_method.proofs.PropertySteps.{lent_is, property-written, properties-written}
use Rattle.amqp_method.proofs.display_ref.write_properties_ref.Goals as goal

pub loop-place-preserved : goal.loop-place-preserved
loop-place-preserved g c = λ plain.
    let before = c.loop-place.invariant plain in
    let place = c.loop-place.place in
    let name = c.property_name.result.now in
    let property = property_ref_view c.at.result in
    let within : place < length property_names = omega (arith, c.loop-place-test.true) in (
      before.0 ++ property_text name property,
      has_written_append _ _ _ _ _ _ before.1 (search rules),
      property-written property_names (lent_header c.args.header).properties place name before.0 _ property within (c.property_name.ensures []) (lent_is c.at.result _ c.at.ensures) before.2,
    )

pub returns : goal.returns
returns g c = λ plain _.
    let before = c.loop-place.invariant plain in
    let end : length property_names ≤ c.loop-place.place = omega (arith, c.loop-place-test.false) in
    has_written_of_eq _ _ _ _ _ (properties-written property_names (lent_header c.args.header).properties c.loop-place.place before.0 _ end before.2) before.1

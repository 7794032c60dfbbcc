use Rattle.amqp_method.specs.Lent.{lent_views}
use Rattle.amqp_method.proofs.LengthLemmas.{counts_property, properties_counted}
use Rattle.amqp_method.proofs.lengths.present_length.Goals as goal

pub returns : goal.returns
returns c = properties_counted c.args.properties.now c.loop-property.property-index c.loop-property.octets (lent_views c.args.properties.now) c.loop-property-test.false c.loop-property.invariant

pub loop-property-preserved : goal.loop-property-preserved
loop-property-preserved c =
    counts_property c.args.properties.now c.loop-property.property-index _ c.loop-property.octets c.property_length.result c.saturating_add-octets.result (lent_views c.args.properties.now) c.loop-property-test.true
    c.property-item.is c.property_length.ensures c.saturating_add-octets.ensures c.loop-property.invariant

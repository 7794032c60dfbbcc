use Rattle.amqp_method.specs.HeaderReading.{properties_at}
use Rattle.amqp_method.specs.Properties.{property_kinds}
use Rattle.amqp_method.specs.Reading.{rest_of}
use Rattle.amqp_method.proofs.CommonProperties.{none_after}
use Rattle.amqp_method.proofs.header_checker.are_earlier.Goals as goal

pub returns : goal.returns
returns c = none_after (rest_of (properties_at property_kinds c.args.flags c.args.end c.args.octets.now)) c.in-Some.after.now c.is_empty.result c.in-Some.ensures c.is_empty.ensures

use Rattle.std.proofs.Common.{◌≡◌, ◌≤◌, length, drop}
use Rattle.amqp_method.specs.HeaderReading.{properties_at}
use Rattle.amqp_method.specs.Properties.{property_kinds}
use Rattle.amqp_method.specs.Reading.{rest_of}
use Rattle.amqp_method.proofs.header_checker.past_properties.Given as goal

abbrev pub invariant-loop-place : goal.invariant-loop-place
invariant-loop-place l =
    (length l.rest ≤ length l.octets)
    × (rest_of (properties_at (drop l.place property_kinds) l.flags l.end l.rest) ≡ rest_of (properties_at property_kinds l.flags l.end l.octets))

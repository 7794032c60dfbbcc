use Rattle.std.proofs.Common.{◌≡◌, drop}
use Rattle.amqp_method.specs.Same.{same_properties}
use Rattle.amqp_method.specs.HeaderRefView.{lent_header}
use Rattle.amqp_method.proofs.same.same_properties.Given as goal

abbrev pub invariant-loop-place : goal.invariant-loop-place
invariant-loop-place l =
    same_properties (drop l.place (lent_header l.header).properties) (drop l.place (lent_header l.other).properties)
    ≡ same_properties (lent_header l.header).properties (lent_header l.other).properties

use Rattle.std.proofs.Common.{◌≡◌, ◌-◌, ◌≤◌, ◌++◌, map, take}
use Rattle.amqp_method.specs.Plain.{plain_present}
use Rattle.amqp_method.specs.Properties.{property_kinds, HaveKinds}
use Rattle.amqp_calls.specs.Values.{argument_there}
use Rattle.amqp_calls.proofs.codec.written_headers.append_properties.Given as goal

abbrev pub invariant-loop-place : goal.invariant-loop-place
invariant-loop-place l =
    (l.place ≤ 14)
    × (l.out.items ≡ l.initial.out.items ++ plain_present (map argument_there (take l.place l.values)))
    × HaveKinds (map argument_there (take l.place l.values)) (take l.place property_kinds)

abbrev pub decreases-loop-place : goal.decreases-loop-place
decreases-loop-place l = 14 - l.place

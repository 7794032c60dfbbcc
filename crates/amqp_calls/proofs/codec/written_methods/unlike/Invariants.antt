use Rattle.std.proofs.Common.{◌≡◌, ◌+◌, ◌≤◌, length, map, drop}
use Rattle.amqp_method.specs.Arguments.{wanted}
use Rattle.amqp_method.specs.Rows.{field_view}
use Rattle.amqp_calls.specs.Writing.{first_unlike}
use Rattle.amqp_calls.proofs.codec.written_methods.unlike.Given as goal

abbrev pub invariant-loop-field : goal.invariant-loop-field
invariant-loop-field l =
    (l.place ≤ length l.values)
    × (l.place + first_unlike (wanted (map field_view (drop l.field-index l.field-items))) (drop l.place l.values)
    ≡ first_unlike (wanted (map field_view l.field-items)) l.values)

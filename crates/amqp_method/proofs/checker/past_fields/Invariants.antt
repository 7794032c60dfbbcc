use Rattle.std.proofs.Common.{◌≡◌, ◌≤◌, length, map, drop}
use Rattle.amqp_method.specs.Checking.{past_fields}
use Rattle.amqp_method.specs.Rows.{field_view}
use Rattle.amqp_method.proofs.checker.past_fields.Given as goal

abbrev pub invariant-loop-field : goal.invariant-loop-field
invariant-loop-field l =
    (length l.rest ≤ length l.octets)
    × (past_fields (map field_view (drop l.field-index l.fields)) l.left l.end l.rest ≡ past_fields (map field_view l.fields) 0 l.end l.octets)

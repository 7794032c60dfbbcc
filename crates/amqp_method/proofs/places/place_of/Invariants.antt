use Rattle.std.proofs.Common.{◌≡◌, ◌≤◌, map, drop}
use Rattle.amqp_method.specs.Places.{place_named}
use Rattle.amqp_method.specs.Rows.{field_view}
use Rattle.amqp_method.proofs.places.place_of.Given as goal

abbrev pub invariant-loop-field : goal.invariant-loop-field
invariant-loop-field l = record {
  same_place : place_named l.place (map field_view (drop l.field-index l.fields)) l.name ≡ place_named 0 (map field_view l.fields) l.name;
  within : l.place ≤ l.field-index;
}

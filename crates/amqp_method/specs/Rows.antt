-- The rows of the table of methods, as the code has them.
use Rattle.std.specs.Prelude.{map}
use Rattle.amqp_method.specs.Methods.{FieldRow, Row as MethodRow, Wanted, Always, Never, UnlessNoWait}
use Rattle.amqp_method.specs.declared.fields.Field.{Field}
use Rattle.amqp_method.specs.declared.table.Row.{Row}
use Rattle.amqp_method.specs.declared.table.Wanted.{Wanted as CodeWanted}
use Rattle.amqp_method.specs.declared.table.Wanted.TheVariants as code

abbrev pub field_view : Field → FieldRow
field_view f = record { name = f.name.now; kind = f.kind; reserved = f.reserved }

abbrev pub wanted_view : CodeWanted → Wanted
wanted_view code.Always = Always
wanted_view code.Never = Never
wanted_view (code.UnlessNoWait place) = UnlessNoWait place

abbrev pub row_view : Row → MethodRow
row_view r = record {
  class = r.class;
  id = r.id;
  name = r.name.now;
  sender = r.sender;
  content = r.content;
  answers = r.answers;
  wanted = wanted_view r.wanted;
  fields = map field_view r.fields.now;
}

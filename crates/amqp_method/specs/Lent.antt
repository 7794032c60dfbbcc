-- What the code's lent properties stand for.
use Rattle.std.specs.Prelude.{List, map, Option, Some, None}
use Rattle.amqp_value.specs.Tables.{table_view}
use Rattle.amqp_method.specs.Arguments.{Argument, octet, long_long, short_string, table}
use Rattle.amqp_method.specs.declared.properties.Lent.{Lent}
use Rattle.amqp_method.specs.declared.properties.Lent.TheVariants as lent

abbrev pub value_view : Lent → Argument
value_view (lent.Octet n) = octet n
value_view (lent.LongLong n) = long_long n
value_view (lent.ShortStr text) = short_string text.now
value_view (lent.Table t) = table (table_view t.now)

abbrev pub lent_view : Option Lent → Option Argument
lent_view None = None
lent_view (Some value) = Some (value_view value)

abbrev pub lent_views : List (Option Lent) → List (Option Argument)
lent_views properties = map lent_view properties

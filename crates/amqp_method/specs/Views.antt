-- What the code's arguments stand for.
use Rattle.std.specs.Prelude.{List, map}
use Rattle.amqp_value.specs.Tables.{table_view}
use Rattle.amqp_method.specs.Arguments.{Argument, bit, octet, short, long, long_long, short_string, long_string, table}
use Rattle.amqp_method.specs.declared.fields.Arg.{Arg}
use Rattle.amqp_method.specs.declared.fields.Arg.TheVariants as code

abbrev pub arg_view : Arg → Argument
arg_view (code.Bit holds) = bit holds
arg_view (code.Octet n) = octet n
arg_view (code.Short n) = short n
arg_view (code.Long n) = long n
arg_view (code.LongLong n) = long_long n
arg_view (code.ShortStr text) = short_string text
arg_view (code.LongStr octets) = long_string octets.items
arg_view (code.Table t) = table (table_view t)

abbrev pub args_view : List Arg → List Argument
args_view args = map arg_view args

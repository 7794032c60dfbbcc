-- What an argument that lies in a payload stands for.
use Rattle.amqp_method.specs.Arguments.{Argument, bit, octet, short, long, long_long, short_string, long_string, table}
use Rattle.amqp_value.specs.Lent.{table_ref_view}
use Rattle.amqp_method.specs.declared.arg_ref.ArgRef.{ArgRef}
use Rattle.amqp_method.specs.declared.arg_ref.ArgRef.TheVariants as code

abbrev pub arg_ref_view : ArgRef → Argument
arg_ref_view (code.Bit holds) = bit holds
arg_ref_view (code.Octet n) = octet n
arg_ref_view (code.Short n) = short n
arg_ref_view (code.Long n) = long n
arg_ref_view (code.LongLong n) = long_long n
arg_ref_view (code.ShortStr text) = short_string text.now
arg_ref_view (code.LongStr text) = long_string text.now
arg_ref_view (code.Table t) = table (table_ref_view t)

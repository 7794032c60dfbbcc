-- What callers see of a `Method`.
use Rattle.amqp_method.specs.Arguments.{Call, call}
use Rattle.amqp_method.specs.Views.{args_view}
use Rattle.amqp_method.specs.declared.methods.Method.{Method}

abbrev pub method_view : Method → Call
method_view m = call m.kind (args_view m.args.items)

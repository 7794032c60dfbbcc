-- What callers see of a `Carrier`.
use Rattle.amqp_method.specs.Arguments.{Call}
use Rattle.amqp_method.specs.MethodView.{method_view}
use Rattle.amqp_method.specs.declared.contents.Carrier.{Carrier}

abbrev pub carrier_view : Carrier → Call
carrier_view carrier = method_view carrier.method

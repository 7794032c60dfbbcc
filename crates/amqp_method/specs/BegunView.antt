-- What callers see of a `Begun`: its method. Nothing else is there of the content.
use Rattle.amqp_method.specs.Arguments.{Call}
use Rattle.amqp_method.specs.CarrierView.{carrier_view}
use Rattle.amqp_method.specs.declared.begun.Begun.{Begun}

abbrev pub begun_view : Begun → Call
begun_view begun = carrier_view begun.content.value.method

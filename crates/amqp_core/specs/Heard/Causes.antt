-- What a close of the other end is about: the class and the method of the frame for which it closes, as the close
-- names them; both are 0 where it names none. `amqp0-9-1.xml`, channel.close and connection.close, the fields class-id
-- and method-id.
use Rattle.std.specs.Prelude.{Option, Some, None}
use Rattle.amqp_model.specs.End.Closes.{Cause}
use Rattle.amqp_model.specs.End.Events.{Event, ChannelClosed, ConnectionClosed}
use Rattle.amqp_model.specs.Wire.Methods.{Method, number_at}
use Rattle.amqp_model.specs.Wire.Readings.{Reading, Calls}

-- a close names it in its third and its fourth argument
abbrev pub cause_in : Method → Cause
cause_in method = record { class_id = number_at 2 method; method_id = number_at 3 method }

-- where this is told of a frame that says this, and it tells of a close of the other end
abbrev pub cause_told : Option Event → Reading → Option Cause
cause_told (Some (ChannelClosed channel (Some reason))) (Calls method) = Some (cause_in method)
cause_told (Some (ConnectionClosed (Some reason))) (Calls method) = Some (cause_in method)
cause_told event reading = None

-- that, or the one from before
abbrev pub or_before : (now before : Option Cause) → Option Cause
or_before (Some cause) before = Some cause
or_before None before = before

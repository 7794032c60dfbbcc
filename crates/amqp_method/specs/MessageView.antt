-- What callers see of a `Message`.
use Rattle.amqp_method.specs.Messages.{Letter, letter}
use Rattle.amqp_method.specs.declared.messages.Message.{Message}

abbrev pub message_view : Message → Letter
message_view m = letter m.form

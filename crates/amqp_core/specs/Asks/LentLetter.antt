-- What is seen of a message that is lent: the same as of one that owns its parts.
use Rattle.amqp_method.specs.Messages.{Letter}
use Rattle.amqp_core.specs.Asks.LentForm.{form_letter}
use Rattle.amqp_core.specs.declared.lent_message.LentMessage.{LentMessage}

abbrev pub lent_letter : LentMessage → Letter
lent_letter message = form_letter message.form

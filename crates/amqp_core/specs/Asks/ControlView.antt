-- What an application does with the connection, in the words of the model.
use Rattle.amqp_model.specs.End.Controls as model
use Rattle.amqp_core.specs.declared.controls.LentControl.{LentControl}
use Rattle.amqp_core.specs.declared.controls.LentControl.TheVariants as lent

abbrev pub control_view : LentControl → model.Control
control_view lent.Beat = model.Beat
control_view lent.Admit = model.Admit
control_view (lent.Refuse code text) = model.Refuse code text.now
control_view (lent.AnswerStart mechanism response locale) = model.AnswerStart mechanism.now response.now locale.now

-- The controls of the code, in the words of the model.
use Rattle.amqp_model.specs.End.Controls as model
use Rattle.amqp_link.specs.declared.controls.Control.{Control}
use Rattle.amqp_link.specs.declared.controls.Control.TheVariants as control

abbrev pub control_view : Control → model.Control
control_view control.Beat = model.Beat
control_view control.Admit = model.Admit
control_view (control.Refuse code text) = model.Refuse code text
control_view (control.AnswerStart mechanism response locale) = model.AnswerStart mechanism response.items locale

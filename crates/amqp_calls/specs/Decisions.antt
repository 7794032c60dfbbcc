-- What is decided, in the words of the model.
use Rattle.amqp_model.specs.End.Controls as model
use Rattle.amqp_calls.specs.declared.ends.controlling.Decision.{Decision}
use Rattle.amqp_calls.specs.declared.ends.controlling.Decision.TheVariants as decision

abbrev pub decision_view : Decision → model.Control
decision_view decision.Beat = model.Beat
decision_view decision.Admit = model.Admit
decision_view (decision.Refuse code text) = model.Refuse code text
decision_view (decision.AnswerStart mechanism response locale) = model.AnswerStart mechanism response.now locale

-- The parts of a message that are lent, and when a content is among them.
use Rattle.std.specs.Prelude.{◌≡◌, Bool, true, false}
use Rattle.amqp_method.specs.HeaderView.{properties_view}
use Rattle.amqp_method.specs.Kinds.{has_content}
use Rattle.amqp_method.specs.Messages.{Letter, letter_alone, letter_with}
use Rattle.amqp_method.specs.MethodView.{method_view}
use Rattle.amqp_core.specs.declared.lent_message.Form.{Form}
use Rattle.amqp_core.specs.declared.lent_message.Form.TheVariants.{Plain, Content}

abbrev pub form_letter : Form → Letter
form_letter (Plain method) = letter_alone (method_view method.now)
form_letter (Content method properties body) =
    letter_with (method_view method.now) (properties_view properties.now) body.now

abbrev is_content : Form → Bool
is_content (Plain method) = false
is_content (Content method properties body) = true

-- a content follows exactly when the kind has one
abbrev pub KindFits : Form → Type 0
KindFits form = has_content (form_letter form).call.kind ≡ is_content form

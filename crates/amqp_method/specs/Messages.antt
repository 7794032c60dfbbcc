-- Messages: methods alone, and methods that a content follows (AMQP 0-9-1 specification, 4.2.6).
use Rattle.std.specs.Prelude.{◌≡◌, ℕ, List, [], length, replicate, Bool, true, false, Option, Some, None}
use Rattle.amqp_method.specs.Arguments.{Argument, Call}
use Rattle.amqp_method.specs.CarrierView.{carrier_view}
use Rattle.amqp_method.specs.HeaderView.{properties_view}
use Rattle.amqp_method.specs.Kinds.{has_content}
use Rattle.amqp_method.specs.MaybeBoxed.{boxed_value}
use Rattle.amqp_method.specs.MethodView.{method_view}
use Rattle.amqp_method.specs.declared.contents.Content.{Content}
use Rattle.amqp_method.specs.declared.messages.Form.{Form}
use Rattle.amqp_method.specs.declared.messages.Form.TheVariants as form

-- a message apart from where it lies in memory: a method, and the properties and the body of a content, if one follows
pub record Letter : Type 0 where
  pub call : Call
  pub properties : Option (List (Option Argument))
  pub body : List ℕ

abbrev pub letter_alone : Call → Letter
letter_alone call = record { call = call; properties = None; body = [] }

abbrev pub letter_with : Call → List (Option Argument) → List ℕ → Letter
letter_with call properties body = record { call = call; properties = Some properties; body = body }

abbrev pub content_letter : Content → Letter
content_letter content = letter_with (carrier_view content.method)
    (properties_view content.header.properties) content.body.items

-- of a content nothing but its method is there
abbrev pub IsBlank : Content → Type 0
IsBlank content =
    (content.header.body_size ≡ 0) × (properties_view content.header.properties ≡ replicate 14 None)
    × (content.body.items ≡ [])

abbrev pub letter : Form → Letter
letter (form.Plain method) = letter_alone (method_view method)
letter (form.Content content) = content_letter (boxed_value content)

abbrev is_content : Form → Bool
is_content (form.Plain method) = false
is_content (form.Content content) = true

-- a content follows exactly when the kind has one
abbrev pub KindFits : Form → Type 0
KindFits f = has_content (letter f).call.kind ≡ is_content f

-- the size of the body that the header of a content says
abbrev said_size : Form → ℕ
said_size (form.Plain method) = 0
said_size (form.Content content) = (boxed_value content).header.body_size

-- it is the length of the body
abbrev pub SizeFits : Form → Type 0
SizeFits f = said_size f ≡ length (letter f).body

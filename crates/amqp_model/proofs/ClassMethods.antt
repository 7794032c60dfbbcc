-- The methods of the class channel carry no content, and are neither requests nor replies.
use Rattle.std.proofs.Common.{◌≡◌, Bool, true, false, refl}
use Rattle.std.proofs.lemmas.Bool.{false≢true}
use Rattle.amqp_method.specs.declared.kinds.Kind.TheVariants as kinds
use Rattle.amqp_model.specs.Wire.Notes.{Kind, Other}
use Rattle.amqp_model.specs.Wire.Methods.{MethodKind, begins_content, sort_by, is_reply, wants, Never}
use Rattle.amqp_model.specs.Wire.Readings.{kind_of_method}

abbrev pub is_class_kind : Kind → Bool
is_class_kind (Other begins_content) = false
is_class_kind kind = true

pub class-plain : (kind : MethodKind) (active : Bool) → is_class_kind (kind_of_method kind active) ≡ true
    → (begins_content (sort_by kind active) ≡ false) × (is_reply kind ≡ false) × (wants kind ≡ Never)
class-plain kinds.ChannelOpen active e = (refl, refl, refl)
class-plain kinds.ChannelOpenOk active e = (refl, refl, refl)
class-plain kinds.ChannelClose active e = (refl, refl, refl)
class-plain kinds.ChannelCloseOk active e = (refl, refl, refl)
class-plain kinds.ChannelFlow active e = (refl, refl, refl)
class-plain kinds.ChannelFlowOk active e = (refl, refl, refl)
class-plain kind active e = absurd (false≢true e)

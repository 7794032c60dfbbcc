-- What a method is to the contents of its channel.
use Rattle.std.specs.Prelude.{Bool, true, false, cond}
use Rattle.amqp_method.specs.Arguments.{Call}
use Rattle.amqp_method.specs.Kinds.{has_content}
use Rattle.amqp_method.specs.Places.{bit_at}
use Rattle.amqp_method.specs.declared.kinds.Kind.{Kind}
use Rattle.amqp_method.specs.declared.kinds.Kind.TheVariants.{ChannelOpen, ChannelOpenOk, ChannelFlow, ChannelFlowOk, ChannelClose, ChannelCloseOk}

-- it begins one, it opens or closes the channel, it asks for a flow or answers one, or it is a message of its own
pub data Sort : Type 0 where
  BeginsContent OpensOrCloses Plain : Sort
  AsksFlow AnswersFlow : (active : Bool) → Sort

abbrev pub sort_alone : Kind → (active : Bool) → Sort
sort_alone ChannelOpen active = OpensOrCloses
sort_alone ChannelOpenOk active = OpensOrCloses
sort_alone ChannelClose active = OpensOrCloses
sort_alone ChannelCloseOk active = OpensOrCloses
sort_alone ChannelFlow active = AsksFlow active
sort_alone ChannelFlowOk active = AnswersFlow active
sort_alone kind active = Plain

abbrev pub sort_by : Kind → (active : Bool) → Sort
sort_by kind active = cond (has_content kind) BeginsContent (sort_alone kind active)

abbrev pub sort_of : Call → Sort
sort_of call = sort_by call.kind (bit_at 0 call)

abbrev pub begins_content : Sort → Bool
begins_content BeginsContent = true
begins_content sort = false

-- a content follows the method: AMQP 0-9-1 specification, section 4.2.6
abbrev pub carries_content : Call → Bool
carries_content call = begins_content (sort_of call)

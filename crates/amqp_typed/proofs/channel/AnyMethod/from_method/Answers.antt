use Rattle.std.proofs.Common.{sym, ◌∙◌}
use Rattle.amqp_typed.proofs.channel.AnyMethod.from_method.Goals as goal

pub of_method-requires : goal.of_method-requires
of_method-requires c = sym c.kind.ensures ∙ c.in-ChannelOpen.is

pub returns-in-ChannelOpen : goal.returns-in-ChannelOpen
returns-in-ChannelOpen c = c.of_method.ensures

pub of_method-requires-in-ChannelOpenOk : goal.of_method-requires-in-ChannelOpenOk
of_method-requires-in-ChannelOpenOk c = sym c.kind.ensures ∙ c.in-ChannelOpenOk.is

pub returns-in-ChannelOpenOk : goal.returns-in-ChannelOpenOk
returns-in-ChannelOpenOk c = c.of_method-in-ChannelOpenOk.ensures

pub of_method-requires-in-ChannelFlow : goal.of_method-requires-in-ChannelFlow
of_method-requires-in-ChannelFlow c = sym c.kind.ensures ∙ c.in-ChannelFlow.is

pub returns-in-ChannelFlow : goal.returns-in-ChannelFlow
returns-in-ChannelFlow c = c.of_method-in-ChannelFlow.ensures

pub of_method-requires-in-ChannelFlowOk : goal.of_method-requires-in-ChannelFlowOk
of_method-requires-in-ChannelFlowOk c = sym c.kind.ensures ∙ c.in-ChannelFlowOk.is

pub returns-in-ChannelFlowOk : goal.returns-in-ChannelFlowOk
returns-in-ChannelFlowOk c = c.of_method-in-ChannelFlowOk.ensures

pub of_method-requires-in-ChannelClose : goal.of_method-requires-in-ChannelClose
of_method-requires-in-ChannelClose c = sym c.kind.ensures ∙ c.in-ChannelClose.is

pub returns-in-ChannelClose : goal.returns-in-ChannelClose
returns-in-ChannelClose c = c.of_method-in-ChannelClose.ensures

pub of_method-requires-in-ChannelCloseOk : goal.of_method-requires-in-ChannelCloseOk
of_method-requires-in-ChannelCloseOk c = sym c.kind.ensures ∙ c.in-ChannelCloseOk.is

pub returns-in-ChannelCloseOk : goal.returns-in-ChannelCloseOk
returns-in-ChannelCloseOk c = c.of_method-in-ChannelCloseOk.ensures

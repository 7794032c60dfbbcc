use Rattle.std.proofs.Common.{sym, ◌∙◌}
use Rattle.amqp_typed.proofs.channel.AnyMethodView.from_view.Goals as goal

pub of_view-requires : goal.of_view-requires
of_view-requires c = (c.kind_in.ensures.fit, sym c.kind_in.ensures.kind ∙ c.in-ChannelOpen.is)

pub returns-in-ChannelOpen : goal.returns-in-ChannelOpen
returns-in-ChannelOpen c = c.of_view.ensures

pub of_view-requires-in-ChannelOpenOk : goal.of_view-requires-in-ChannelOpenOk
of_view-requires-in-ChannelOpenOk c = (c.kind_in.ensures.fit, sym c.kind_in.ensures.kind ∙ c.in-ChannelOpenOk.is)

pub returns-in-ChannelOpenOk : goal.returns-in-ChannelOpenOk
returns-in-ChannelOpenOk c = c.of_view-in-ChannelOpenOk.ensures

pub of_view-requires-in-ChannelFlow : goal.of_view-requires-in-ChannelFlow
of_view-requires-in-ChannelFlow c = (c.kind_in.ensures.fit, sym c.kind_in.ensures.kind ∙ c.in-ChannelFlow.is)

pub returns-in-ChannelFlow : goal.returns-in-ChannelFlow
returns-in-ChannelFlow c = c.of_view-in-ChannelFlow.ensures

pub of_view-requires-in-ChannelFlowOk : goal.of_view-requires-in-ChannelFlowOk
of_view-requires-in-ChannelFlowOk c = (c.kind_in.ensures.fit, sym c.kind_in.ensures.kind ∙ c.in-ChannelFlowOk.is)

pub returns-in-ChannelFlowOk : goal.returns-in-ChannelFlowOk
returns-in-ChannelFlowOk c = c.of_view-in-ChannelFlowOk.ensures

pub of_view-requires-in-ChannelClose : goal.of_view-requires-in-ChannelClose
of_view-requires-in-ChannelClose c = (c.kind_in.ensures.fit, sym c.kind_in.ensures.kind ∙ c.in-ChannelClose.is)

pub returns-in-ChannelClose : goal.returns-in-ChannelClose
returns-in-ChannelClose c = c.of_view-in-ChannelClose.ensures

pub of_view-requires-in-ChannelCloseOk : goal.of_view-requires-in-ChannelCloseOk
of_view-requires-in-ChannelCloseOk c = (c.kind_in.ensures.fit, sym c.kind_in.ensures.kind ∙ c.in-ChannelCloseOk.is)

pub returns-in-ChannelCloseOk : goal.returns-in-ChannelCloseOk
returns-in-ChannelCloseOk c = c.of_view-in-ChannelCloseOk.ensures

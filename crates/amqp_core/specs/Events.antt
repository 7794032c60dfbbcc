-- The events that an end tells, for whoever names them above.
pub use Rattle.amqp_channel.specs.declared.events.Event.{Event}
pub use Rattle.amqp_channel.specs.declared.events.Event.TheVariants.{AnswerAsked, LoginAsked, OpenAsked, Negotiated, Opened, Told, Flow, FlowOk, ChannelClosed, ConnectionClosed, Discarded, Blocked, Unblocked, Quiet}

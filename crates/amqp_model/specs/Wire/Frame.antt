-- The frame that a note stands for: no law of lives looks into it.
pub use Rattle.amqp_frame.specs.Frame.{Frame}

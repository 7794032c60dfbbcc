pub mod Advancing
pub mod ChannelView
pub mod Passing

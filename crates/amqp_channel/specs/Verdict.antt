-- What the rules say of a frame on a channel, and what it leaves of the channel. Read after `Channel`.
pub mod Leaving
pub mod VerdictView
pub mod LentView
pub mod Passing

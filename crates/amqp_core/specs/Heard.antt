-- What the other end said: in the handshake, and in its closes.
pub mod View
pub mod Causes
pub mod Hearing
pub mod OfEnd
pub mod OfStream

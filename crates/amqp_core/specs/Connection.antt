-- What a connection keeps, in the words of the model, and what its rules say of a frame. Private: the calls
-- promise what the model says. Read after the model's `End`.
pub mod Stages
pub mod HandshakeMethods
pub mod Handshakes
pub mod Owed
pub mod FreeBefore
pub mod GathersWhole
pub mod View
pub mod Rulings
pub mod Verdicts
pub mod Outcomes
pub mod Dropping
pub mod Receiving
pub mod Decisions
pub mod OneChannel

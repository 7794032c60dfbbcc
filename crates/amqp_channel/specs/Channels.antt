-- What `Channels` does, call by call. `ChannelsView` says what callers see of it; `Applies`, `Puts` and `Finds` have
-- the relation of each call that changes it.
pub mod Used
pub mod Passed
pub mod AmountView
pub mod ChannelsView
pub mod Payloads
pub mod Applies
pub mod Puts
pub mod Finds

-- What `End` does, call by call. `View` says what callers see of it; `Beginning`, `Feeds`, `Writes`, `Asks`, `Controls`
-- and `Queries` have the relation of each call.
pub mod EndpointView
pub mod View
pub mod Kept
pub mod Bounded
pub mod KeptOctets
pub mod Beginning
pub mod Counters
pub mod Growth
pub mod OutputOrder
pub mod Feeding
pub mod Following
pub mod Cuts
pub mod OfHistory
pub mod Counted
pub mod Queries
pub mod Feeds
pub mod Writes
pub mod Asks
pub mod Controls

-- What `Traced` does, call by call: an end that is kept with its history. Read after `End`.
pub mod Notes
pub mod AccountView
pub mod Noting
pub mod NotedAsks
pub mod LifeCounts
pub mod CountView
pub mod CountsLives
pub mod LedgerView
pub mod Tracing
pub mod Fields
pub mod View
pub mod Queries
pub mod Calls
pub mod Asks
pub mod Controls

-- Two ends of a connection: what one acts on of what the other sent, and what is in flight. Read after `Stream`.
pub mod Carried
pub mod Runs
pub mod Connections
pub mod Sentences
pub mod Pairs
pub mod Agreement
pub mod WellPut
pub mod OctetsInFlight
pub mod Sent
pub mod WholeMessages
pub mod InTurn
pub mod NoFault
pub mod EndsAgree
pub mod EndsTogether

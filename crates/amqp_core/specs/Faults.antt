-- What is answered of a fault, and what was wrong.
pub mod Numbers
pub mod Answering
pub mod Overs
pub mod FeedFaults
pub mod FaultShown
pub mod Blamed

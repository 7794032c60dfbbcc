pub mod StreamLemmas
pub mod FeedingLemmas
pub mod TurnLemmas
pub mod VectoredLemmas

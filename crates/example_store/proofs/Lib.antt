pub mod TopicLemmas

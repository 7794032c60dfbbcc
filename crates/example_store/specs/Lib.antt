pub mod Credits
pub mod Ready
pub mod Standing
pub mod Topic
pub mod TopicRows

pub mod Roles
pub mod ReadingView
pub mod Contents
pub mod Events
pub mod Channel
pub mod Verdict
pub mod Channels

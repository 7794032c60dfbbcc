-- What an end has put and taken, frame by frame, and the lives of its channels that follow from it. Read after
-- `Wire`.
pub mod States
pub mod Lives
pub mod Verdict
pub mod Histories
pub mod Replies
pub mod Negotiation

-- What `StreamEnd` does, call by call, beside an `End` that stands for the same history. Read after `End`.
pub mod EventRefView
pub mod EventRefTexts
pub mod EventRefOwned
pub mod StepView
pub mod View
pub mod Lending
pub mod History
pub mod Queries
pub mod Lends
pub mod Writes
pub mod Asks
pub mod LentAsks
pub mod Controls
pub mod Turning

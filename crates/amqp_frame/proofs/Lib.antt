pub mod FrameLemmas
pub mod SplittingLemmas
pub mod JudgingLemmas
pub mod JudgedLemmas
pub mod ShownLemmas
pub mod FillingLemmas
pub mod SplitterLemmas

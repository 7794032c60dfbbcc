-- What is proved of all this, statement by statement.
pub mod LifeLaws
pub mod ContentLaws
pub mod ArrangementLaws
pub mod EndLaws
pub mod ControlLaws
pub mod HeardLaws
pub mod BlameLaws
pub mod VerdictInWords
pub mod AnswersInWords
pub mod FittingLaws
pub mod OctetLaws
pub mod AmountLaws
pub mod CarryingLaws
pub mod LeavingLaws
pub mod SentLaws
pub mod StreamingLaws
pub mod Scripts
pub mod ArrangementExamples
pub mod PairExample
pub mod GatedExample
-- What the laws of more than four statements promise, a record a law.
pub mod WordsRead
pub mod ItemsFollow
pub mod OutputFollows
pub mod OctetsFollow
pub mod ControlsFollow
pub mod EndsFollow

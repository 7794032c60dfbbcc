-- What the laws of ends promise in one: of an end that failed (`FailedFollows`), of what an end heard (`HeardIsKept`),
-- and of two ends (`EndsStandTogether`). Read before: the statements themselves (`EndLaws`, `HeardLaws`,
-- `EndsTogether`).
use Rattle.amqp_model.specs.Laws.EndLaws.{AnyFails, EveryFailedIsRead, FrameFails, NoStandingEndHasFailed}
use Rattle.amqp_model.specs.Laws.EndLaws.{TooLargeFails}
use Rattle.amqp_model.specs.Laws.HeardLaws.{HeardBegins, HeardFollows, HeardStays, HearsAlike, StepKeepsHeard}
use Rattle.amqp_model.specs.Pair.EndsTogether.{AskStandsTogether, CarryStandsTogether, EveryAskStaysPair}
use Rattle.amqp_model.specs.Pair.EndsTogether.{NewStandTogether, StandTogetherTurned}

pub record FailedFollows : Type 0 where
  -- An end that finds fault with a frame stands for its history with the frame and the close that it put.
  pub frame : FrameFails
  -- An end that is shown a frame above the limit stands for its history with the close that it put.
  pub too_large : TooLargeFails
  -- An end that fails and puts nothing stands for its history, as one that has failed.
  pub other : AnyFails
  -- Of an end that has failed only its phase, what was agreed and channel 0 are looked at.
  pub read : EveryFailedIsRead
  -- An end that stands for a history without a failure has not failed.
  pub not_yet : NoStandingEndHasFailed

pub record HeardIsKept : Type 0 where
  -- At the beginning nothing was heard, and nothing is kept.
  pub begins : HeardBegins
  -- What is kept is what was heard still after each frame that is taken.
  pub follows : HeardFollows
  -- Frames that are put leave what was heard.
  pub stays : HeardStays
  -- What is kept is what was heard still after each step of an end.
  pub step : StepKeepsHeard
  -- Alike ends hear the same.
  pub alike : HearsAlike

pub record EndsStandTogether : Type 0 where
  -- Two new ends stand together.
  pub new : NewStandTogether
  -- Two ends that stand together do so seen from the other end.
  pub turned : StandTogetherTurned
  -- They do so still where the first octets of the one's output are fed to the other, and no fault is found.
  pub carried : CarryStandsTogether
  -- They do so still where one of them accepts an ask.
  pub asked : AskStandsTogether
  -- After the frames of an accepted ask two histories are a pair still.
  pub pair : EveryAskStaysPair

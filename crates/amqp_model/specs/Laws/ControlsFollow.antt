-- What the laws of heartbeats and decisions promise in one: of one end (`ControlsFollow`), and of one endpoint
-- (`ControlsFollowOctets`). Read before: the statements themselves (`ControlLaws`).
use Rattle.amqp_model.specs.Laws.ControlLaws.{ControlFollows, ControlHolds, ControlLeavesRest, ControlMovesPhase}
use Rattle.amqp_model.specs.Laws.ControlLaws.{ControlPutsOne, ControlRefusedStays, ControlSaysNothing}
use Rattle.amqp_model.specs.Laws.ControlLaws.{ControllingLeavesAlike, ControlsAct, ControlsAlike}
use Rattle.amqp_model.specs.Laws.ControlLaws.{EveryAcceptedControlFollows, EveryControlIsOfHistory}

pub record ControlsFollow : Type 0 where
  -- What comes of a control is what the end's history gives.
  pub history : EveryControlIsOfHistory
  -- An accepted control puts exactly one frame, on channel 0.
  pub one : ControlPutsOne
  -- What the end keeps then stands for its history with that frame.
  pub follows : ControlFollows
  -- The end is then in the phase that the control leads to.
  pub phase : ControlMovesPhase
  -- No channel changes, nor what was agreed.
  pub rest : ControlLeavesRest
  -- On each channel above 0 the end leaves, if it refuses, and does nothing else.
  pub acts : ControlsAct
  -- No message is said.
  pub says : ControlSaysNothing

pub record ControlsFollowOctets : Type 0 where
  -- An endpoint that accepts a control stands for its history with the frame put.
  pub accepted : EveryAcceptedControlFollows
  -- One that refuses it stays as it is.
  pub refused : ControlRefusedStays
  -- What is unfinished is held.
  pub held : ControlHolds
  -- Alike ends answer a control alike.
  pub answer : ControlsAlike
  -- Alike endpoints stay alike after it.
  pub alike : ControllingLeavesAlike

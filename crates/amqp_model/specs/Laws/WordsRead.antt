-- What the words that count in a history say of the whole of it (`WordsRead`), and that there are runs (`ScriptsRun`).
-- Read before: the words (`Lives`, `Sentences`), and the scripts (`Scripts`).
use Rattle.std.specs.Prelude.{◌≡◌, ◌↔◌, true, ℕ, List}
use Rattle.amqp_model.specs.History.Lives.{awaits_flow_ok, before_leaving, has_left, has_open_ok, pauses_other}
use Rattle.amqp_model.specs.History.Lives.{is_alive, is_opening, is_paused, lives, waits}
use Rattle.amqp_model.specs.Laws.Scripts.{ClosedAndReopened, ClosedAtOnce, CrossingCloses, DiscardedContents}
use Rattle.amqp_model.specs.Laws.Scripts.{DroppedClient, MessageThenClose, PausedServer, RestartedServer}
use Rattle.amqp_model.specs.Laws.Scripts.{ScriptStep, ServerLeaves, crossing_closes, replay}
use Rattle.amqp_model.specs.Pair.Runs.{Run}
use Rattle.amqp_model.specs.Pair.Sentences.{AwaitsFlowOk, HasLeft, HasOpenOk, IsAlive, IsBeforeLeaving, IsPaused}
use Rattle.amqp_model.specs.Pair.Sentences.{PausesOther, StatesRead, Waits, places_with}
use Rattle.amqp_model.specs.Wire.Frame.{Frame}
use Rattle.amqp_model.specs.Wire.Notes.{Note, Role}

-- The words.

-- An end waits exactly where it put close, and took no close-ok since.
abbrev pub WaitsIsRead : Type 0
WaitsIsRead = (history : List Note) → (waits history ≡ true) ↔ Waits history

-- A channel is alive exactly where there was an opening note, and none that ends a life since.
abbrev pub AliveIsRead : Type 0
AliveIsRead = (role : Role) (history : List Note) → (is_alive role history ≡ true) ↔ IsAlive role history

-- As many lives are counted as there are places with an opening note.
abbrev pub LivesAreRead : Type 0
LivesAreRead = (role : Role) (history : List Note) → lives role history ≡ places_with (is_opening role) history

-- A channel has its open-ok exactly where one counted, and no opening note came since.
abbrev pub OpenOkIsRead : Type 0
OpenOkIsRead = (role : Role) (history : List Note) → (has_open_ok role history ≡ true) ↔ HasOpenOk role history

-- A flow-ok is awaited exactly where the end put a flow, and no opening note and no flow-ok that counted came since.
abbrev pub AwaitsFlowOkIsRead : Type 0
AwaitsFlowOkIsRead =
    (role : Role) (history : List Note) → (awaits_flow_ok role history ≡ true) ↔ AwaitsFlowOk role history

-- A channel is paused exactly where a flow with active 0 counted, and no opening note and no flow that counted came
-- since.
abbrev pub PausedIsRead : Type 0
PausedIsRead = (role : Role) (history : List Note) → (is_paused role history ≡ true) ↔ IsPaused role history

-- An end pauses the other exactly where it took flow-ok with active 0, and no opening note and no flow with active 1
-- that it put came since.
abbrev pub PausesOtherIsRead : Type 0
PausesOtherIsRead = (role : Role) (history : List Note) → (pauses_other role history ≡ true) ↔ PausesOther role history

-- An end has left exactly where it put connection.close.
abbrev pub LeftIsRead : Type 0
LeftIsRead = (history : List Note) → (has_left history ≡ true) ↔ HasLeft history

-- The notes before an end left are those up to its first connection.close, and all of them where it put none.
abbrev pub BeforeLeavingIsRead : Type 0
BeforeLeavingIsRead = (history : List Note) → IsBeforeLeaving history (before_leaving history)

pub record WordsRead : Type 0 where
  -- An end waits exactly where it put close, and took no close-ok since.
  pub waits : WaitsIsRead
  -- A channel is alive exactly where there was an opening note, and none that ends a life since.
  pub alive : AliveIsRead
  -- As many lives are counted as there are places with an opening note.
  pub lives : LivesAreRead
  -- A channel has its open-ok exactly where one counted in its life.
  pub open_ok : OpenOkIsRead
  -- A flow-ok is awaited exactly where a flow was put in the life, and none counted since.
  pub awaits_flow_ok : AwaitsFlowOkIsRead
  -- A channel is paused exactly where a flow with active 0 counted in its life, and no flow since.
  pub paused : PausedIsRead
  -- An end pauses the other exactly where it took flow-ok with active 0 in the life, and put no flow with active 1
  -- since.
  pub pauses_other : PausesOtherIsRead
  -- An end has left exactly where it put connection.close.
  pub left : LeftIsRead
  -- The notes before an end left are those up to its first connection.close.
  pub before_leaving : BeforeLeavingIsRead
  -- The state counted is the one that the notes before connection.close are in.
  pub state : StatesRead

-- The scripts. None of them looks into a frame, so each plays the same whatever the frames are.

-- The notes that any script leaves at its two ends are a run.
abbrev pub EveryScriptRuns : Type 0
EveryScriptRuns = (steps : List ScriptStep) → Run (replay steps).client (replay steps).server

-- So are those of the closes that cross.
abbrev pub CrossingClosesRun : Type 0
CrossingClosesRun = (f : ℕ → Frame) → Run (crossing_closes f).client (crossing_closes f).server

-- Closes that cross, and two lives.
abbrev pub PlaysCrossingCloses : Type 0
PlaysCrossingCloses = (f : ℕ → Frame) → CrossingCloses f

-- A close-ok, and after it the next open.
abbrev pub PlaysClosedAndReopened : Type 0
PlaysClosedAndReopened = (f : ℕ → Frame) → ClosedAndReopened f

-- A close right after the open-ok.
abbrev pub PlaysClosedAtOnce : Type 0
PlaysClosedAtOnce = (f : ℕ → Frame) → ClosedAtOnce f

-- Contents that are dropped once the end has put its close.
abbrev pub PlaysDiscardedContents : Type 0
PlaysDiscardedContents = (f : ℕ → Frame) → DiscardedContents f

-- A server that is paused, and sends a get-ok alone.
abbrev pub PlaysPausedServer : Type 0
PlaysPausedServer = (f : ℕ → Frame) → PausedServer f

-- A server that is paused and started again.
abbrev pub PlaysRestartedServer : Type 0
PlaysRestartedServer = (f : ℕ → Frame) → RestartedServer f

-- A message that comes right before the close.
abbrev pub PlaysMessageThenClose : Type 0
PlaysMessageThenClose = (f : ℕ → Frame) → MessageThenClose f

-- A client that is dropped while its content is in flight.
abbrev pub PlaysDroppedClient : Type 0
PlaysDroppedClient = (f : ℕ → Frame) → DroppedClient f

-- A server that puts connection.close while a message is in flight to it.
abbrev pub PlaysServerLeaves : Type 0
PlaysServerLeaves = (f : ℕ → Frame) → ServerLeaves f

pub record ScriptsRun : Type 0 where
  -- The notes that any script leaves at its two ends are a run.
  pub runs : EveryScriptRuns
  -- So are those of the closes that cross.
  pub crossing_run : CrossingClosesRun
  -- Both ends close before they take the other's close, and come to a second life.
  pub crossing_closes : PlaysCrossingCloses
  -- The server takes the close-ok before the next open.
  pub closed_and_reopened : PlaysClosedAndReopened
  -- The client is told of the open and then of the close, and both ends count two lives.
  pub closed_at_once : PlaysClosedAtOnce
  -- The client acts on the first content alone, and drops those that come after its close.
  pub discarded_contents : PlaysDiscardedContents
  -- The paused server may begin no content but a get-ok.
  pub paused_server : PlaysPausedServer
  -- Contents come again once the second flow is taken.
  pub restarted_server : PlaysRestartedServer
  -- The client acts on a message that comes before the close.
  pub message_then_close : PlaysMessageThenClose
  -- The server acts, in order, on what a dropped client had sent.
  pub dropped_client : PlaysDroppedClient
  -- A server that has put connection.close acts on nothing more, and answers no close.
  pub server_leaves : PlaysServerLeaves

-- Runs written as scripts, which compute, and what some of them come to.
--
-- In a script a reply is put with the frame that it answers, in place of its own: no definition looks into a frame.
use Rattle.std.specs.Prelude.{◌≡◌, true, false, cond, ℕ, zero, suc, List, [], ◌∷◌, ◌++◌, length, drop}
use Rattle.std.specs.Prelude.{Some, None}
use Rattle.amqp_model.specs.Wire.Frame.{Frame}
use Rattle.amqp_model.specs.Wire.Notes.{Role, Client, Server, Kind, Open, OpenOk, Close, CloseOk, Flow, FlowOk, Other}
use Rattle.amqp_model.specs.Wire.Notes.{Note, Put, Took, Leaving}
use Rattle.amqp_model.specs.History.States.{State, Free, Closing}
use Rattle.amqp_model.specs.History.Lives.{lives, state, pauses_other, is_paused}
use Rattle.amqp_model.specs.History.Verdict.{Opened, Acted, ClosedByUs, ClosedByPeer, Discarded, Quiet, FlowAsked}
use Rattle.amqp_model.specs.History.Verdict.{FlowAnswered, Verdict, GoesOn, Fault, verdict}
use Rattle.amqp_model.specs.Pair.Carried.{Carried, Carry, put_by, taken_by, sent, acted}
use Rattle.amqp_model.specs.Pair.Runs.{may_put}

-- an end's application asks for a frame; an end takes so many of the notes in flight to it, or all if they are
-- fewer; an end puts connection.close
pub data ScriptStep : Type 0 where
  Ask : Role → Kind → Frame → ScriptStep
  Take : Role → (notes : ℕ) → ScriptStep
  Leave : Role → ScriptStep

-- the notes of both ends, how many steps were done, and which of them were asks that an end refused
pub record World : Type 0 where
  pub client : List Note
  pub server : List Note
  pub steps : ℕ
  pub refused : List ℕ

-- an end's notes after it took a note and put the reply that it owes
abbrev pub with_reply : Verdict → Kind → Frame → List Note → List Note
with_reply (GoesOn event None) kind frame mine = Took kind frame ∷ mine
with_reply (GoesOn event (Some reply)) kind frame mine = Put reply frame ∷ Took kind frame ∷ mine
with_reply (Fault code) kind frame mine = mine

abbrev pub take_first : Role → List Carried → List Note → List Note
take_first role [] mine = mine
take_first role (Carry kind frame ∷ later) mine = with_reply (verdict role mine kind) kind frame mine

-- an end takes the next note, if there is one
abbrev pub take_one : Role → (theirs mine : List Note) → List Note
take_one role theirs mine = take_first role (drop (length (taken_by mine)) (put_by theirs)) mine

abbrev pub take_many : ℕ → Role → (theirs mine : List Note) → List Note
take_many zero role theirs mine = mine
take_many (suc n) role theirs mine = take_many n role theirs (take_one role theirs mine)

abbrev pub notes_at : Role → World → List Note
notes_at Client w = w.client
notes_at Server w = w.server

-- one more step, which leaves such notes at an end
abbrev pub stepped : Role → List Note → World → World
stepped Client notes w = record { client = notes; server = w.server; steps = suc w.steps; refused = w.refused }
stepped Server notes w = record { client = w.client; server = notes; steps = suc w.steps; refused = w.refused }

abbrev pub refused_step : World → World
refused_step w =
    record { client = w.client; server = w.server; steps = suc w.steps; refused = w.refused ++ suc w.steps ∷ [] }

abbrev pub other_notes : Role → World → List Note
other_notes Client w = w.server
other_notes Server w = w.client

abbrev pub after : World → ScriptStep → World
after w (Ask role kind frame) =
    cond (may_put role (notes_at role w) kind) (stepped role (Put kind frame ∷ notes_at role w) w) (refused_step w)
after w (Take role notes) = stepped role (take_many notes role (other_notes role w) (notes_at role w)) w
after w (Leave role) = stepped role (Leaving ∷ notes_at role w) w

abbrev pub play : World → List ScriptStep → World
play w [] = w
play w (step ∷ steps) = play (after w step) steps

-- what a script comes to
abbrev pub replay : List ScriptStep → World
replay steps = play (record { client = []; server = []; steps = 0; refused = [] }) steps

-- the verdicts on what an end took, the oldest first
abbrev pub verdicts : Role → List Note → List Verdict
verdicts role [] = []
verdicts role (Took kind frame ∷ before) = verdicts role before ++ verdict role before kind ∷ []
verdicts role (_ ∷ before) = verdicts role before

-- more than any script here puts
abbrev pub ALL : ℕ
ALL = 9

-- a script that begins as the client opens the channel, in three steps
abbrev on_open_channel : Frame → List ScriptStep → List ScriptStep
on_open_channel open_frame steps = Ask Client Open open_frame ∷ Take Server ALL ∷ Take Client ALL ∷ steps

-- Both ends close before they take the other's close. At step 7 the client may not open the number again, since it
-- has not taken its close-ok; at step 9 it may.
abbrev pub crossing_steps : (ℕ → Frame) → List ScriptStep
crossing_steps f =
    on_open_channel (f 1)
    (Ask Client Close (f 4)
    ∷ Ask Server Close (f 5)
    ∷ Take Server ALL
    ∷ Ask Client Open (f 7)
    ∷ Take Client ALL
    ∷ Ask Client Open (f 9)
    ∷ Take Server ALL
    ∷ Take Client ALL
    ∷ [])

abbrev pub crossing_closes : (ℕ → Frame) → World
crossing_closes f = replay (crossing_steps f)

-- In that run only the seventh step is refused, both ends count two lives and are Open, and no message was sent or
-- acted on.
pub record CrossingCloses (f : ℕ → Frame) : Type 0 where
  pub refused : (crossing_closes f).refused ≡ 7 ∷ []
  pub lives_of_client : lives Client (crossing_closes f).client ≡ 2
  pub lives_of_server : lives Server (crossing_closes f).server ≡ 2
  pub client_is : state Client (crossing_closes f).client ≡ State.Open
  pub server_is : state Server (crossing_closes f).server ≡ State.Open
  pub client_took :
      verdicts Client (crossing_closes f).client
      ≡ GoesOn Opened None ∷ GoesOn Quiet (Some CloseOk) ∷ GoesOn ClosedByUs None ∷ GoesOn Opened None ∷ []
  pub server_took :
      verdicts Server (crossing_closes f).server
      ≡ GoesOn Opened (Some OpenOk) ∷ GoesOn Quiet (Some CloseOk) ∷ GoesOn ClosedByUs None
      ∷ GoesOn Opened (Some OpenOk) ∷ []
  pub to_server :
      (life : ℕ) → (sent Client life (crossing_closes f).client ≡ [])
      × (acted Server life (crossing_closes f).server ≡ [])
  pub to_client :
      (life : ℕ) → (sent Server life (crossing_closes f).server ≡ [])
      × (acted Client life (crossing_closes f).client ≡ [])

-- The server closes; the client's close-ok and its next open are taken one after the other.
abbrev pub closed_and_reopened : (ℕ → Frame) → World
closed_and_reopened f =
    replay (on_open_channel (f 1) (Ask Server Close (f 4) ∷ Take Client ALL
    ∷ Ask Client Open (f 6) ∷ Take Server ALL ∷ []))

-- In that run nothing is refused, and the server takes the close-ok before the open.
pub record ClosedAndReopened (f : ℕ → Frame) : Type 0 where
  pub refused : (closed_and_reopened f).refused ≡ []
  pub client_took :
      verdicts Client (closed_and_reopened f).client ≡ GoesOn Opened None
      ∷ GoesOn ClosedByPeer (Some CloseOk) ∷ []
  pub server_took :
      verdicts Server (closed_and_reopened f).server
      ≡ GoesOn Opened (Some OpenOk) ∷ GoesOn ClosedByUs None ∷ GoesOn Opened (Some OpenOk) ∷ []

-- The server closes right after its open-ok, before the client has taken that; the client opens again.
abbrev pub closed_at_once : (ℕ → Frame) → World
closed_at_once f =
    replay
    (Ask Client Open (f 1)
    ∷ Take Server ALL
    ∷ Ask Server Close (f 3)
    ∷ Take Client ALL
    ∷ Take Server ALL
    ∷ Ask Client Open (f 6)
    ∷ Take Server ALL
    ∷ [])

-- In that run nothing is refused, the client is told of the open and then of the close, and both ends count two lives.
pub record ClosedAtOnce (f : ℕ → Frame) : Type 0 where
  pub refused : (closed_at_once f).refused ≡ []
  pub client_took :
      verdicts Client (closed_at_once f).client ≡ GoesOn Opened None ∷ GoesOn ClosedByPeer (Some CloseOk) ∷ []
  pub lives_of_client : lives Client (closed_at_once f).client ≡ 2
  pub lives_of_server : lives Server (closed_at_once f).server ≡ 2
  pub to_server :
      (life : ℕ) → (sent Client life (closed_at_once f).client ≡ [])
      × (acted Server life (closed_at_once f).server ≡ [])
  pub to_client :
      (life : ℕ) → (sent Server life (closed_at_once f).server ≡ [])
      × (acted Client life (closed_at_once f).client ≡ [])

-- The server sends three contents without a body. The client has taken the first as it closes: it drops the rest.
abbrev pub discarded_contents : (ℕ → Frame) → World
discarded_contents f =
    replay (on_open_channel (f 1)
    (Ask Server (Other true) (f 4)
    ∷ Ask Server (Other false) (f 5)
    ∷ Ask Server (Other true) (f 6)
    ∷ Ask Server (Other false) (f 7)
    ∷ Ask Server (Other true) (f 8)
    ∷ Ask Server (Other false) (f 9)
    ∷ Take Client 2
    ∷ Ask Client Close (f 11)
    ∷ Take Client ALL
    ∷ Take Server ALL
    ∷ Take Client ALL
    ∷ []))

-- In that run the client acts on the first content alone and drops the other two, and both ends come to be Free.
pub record DiscardedContents (f : ℕ → Frame) : Type 0 where
  pub refused : (discarded_contents f).refused ≡ []
  pub client_took :
      verdicts Client (discarded_contents f).client ≡
      GoesOn Opened None
      ∷ GoesOn Acted None
      ∷ GoesOn Acted None
      ∷ GoesOn Discarded None
      ∷ GoesOn Discarded None
      ∷ GoesOn Discarded None
      ∷ GoesOn Discarded None
      ∷ GoesOn ClosedByUs None
      ∷ []
  pub client_is : state Client (discarded_contents f).client ≡ Free
  pub server_is : state Server (discarded_contents f).server ≡ Free
  pub sent_to_client : sent Server 1 (discarded_contents f).server ≡ f 4 ∷ f 5 ∷ f 6
      ∷ f 7 ∷ f 8 ∷ f 9 ∷ []
  pub acted_by_client : acted Client 1 (discarded_contents f).client ≡ f 4 ∷ f 5 ∷ []
  pub sent_to_server : sent Client 1 (discarded_contents f).client ≡ []
  pub acted_by_server : acted Server 1 (discarded_contents f).server ≡ []

-- The client pauses the server, and may not put a second flow before the first is answered. The paused server
-- begins no content, but a get-ok with its header.
abbrev pub paused_server : (ℕ → Frame) → World
paused_server f =
    replay (on_open_channel (f 1)
    (Ask Client (Flow false) (f 4)
    ∷ Ask Client (Flow true) (f 5)
    ∷ Take Server ALL
    ∷ Ask Server (Other true) (f 7)
    ∷ Ask Server (Other false) (f 8)
    ∷ Ask Server (Other false) (f 9)
    ∷ Take Client ALL
    ∷ []))

-- In that run the second flow and the content are refused, and the client acts on the get-ok and its header.
pub record PausedServer (f : ℕ → Frame) : Type 0 where
  pub refused : (paused_server f).refused ≡ 5 ∷ 7 ∷ []
  pub server_took :
      verdicts Server (paused_server f).server
      ≡ GoesOn Opened (Some OpenOk) ∷ GoesOn (FlowAsked false) (Some (FlowOk false)) ∷ []
  pub client_took :
      verdicts Client (paused_server f).client
      ≡ GoesOn Opened None ∷ GoesOn (FlowAnswered false) None ∷ GoesOn Acted None ∷ GoesOn Acted None ∷ []
  pub sent_to_server : sent Client 1 (paused_server f).client ≡ f 4 ∷ []
  pub acted_by_server : acted Server 1 (paused_server f).server ≡ f 4 ∷ []
  pub sent_to_client : sent Server 1 (paused_server f).server ≡ f 4 ∷ f 8 ∷ f 9 ∷ []
  pub acted_by_client : acted Client 1 (paused_server f).client ≡ f 4 ∷ f 8 ∷ f 9 ∷ []
  pub client_holds : pauses_other Client (paused_server f).client ≡ true
  pub server_is : is_paused Server (paused_server f).server ≡ true

-- The same, and the client puts flow with active 1 once its first is answered: contents come again.
abbrev pub restarted_server : (ℕ → Frame) → World
restarted_server f =
    replay (on_open_channel (f 1)
    (Ask Client (Flow false) (f 4)
    ∷ Take Server ALL
    ∷ Take Client ALL
    ∷ Ask Client (Flow true) (f 7)
    ∷ Ask Server (Other true) (f 8)
    ∷ Take Server ALL
    ∷ Ask Server (Other true) (f 10)
    ∷ Take Client ALL
    ∷ []))

-- In that run the content that comes before the server takes the second flow is refused, and the one after it is acted
-- on.
pub record RestartedServer (f : ℕ → Frame) : Type 0 where
  pub refused : (restarted_server f).refused ≡ 8 ∷ []
  pub client_took :
      verdicts Client (restarted_server f).client
      ≡ GoesOn Opened None ∷ GoesOn (FlowAnswered false) None ∷ GoesOn (FlowAnswered true) None
      ∷ GoesOn Acted None ∷ []
  pub acted_by_client : acted Client 1 (restarted_server f).client ≡ f 4 ∷ f 7 ∷ f 10 ∷ []
  pub client_holds : pauses_other Client (restarted_server f).client ≡ false
  pub server_is : is_paused Server (restarted_server f).server ≡ false

-- The server sends a message and closes right after it: the client acts on the message.
abbrev pub message_then_close : (ℕ → Frame) → World
message_then_close f =
    replay (on_open_channel (f 1) (Ask Server (Other false) (f 4) ∷ Ask Server Close (f 5)
    ∷ Take Client ALL ∷ []))

-- In that run the client acts on all that the server sent.
pub record MessageThenClose (f : ℕ → Frame) : Type 0 where
  pub client_took :
      verdicts Client (message_then_close f).client
      ≡ GoesOn Opened None ∷ GoesOn Acted None ∷ GoesOn ClosedByPeer (Some CloseOk) ∷ []
  pub sent_to_client : sent Server 1 (message_then_close f).server ≡ f 4 ∷ []
  pub acted_by_client : acted Client 1 (message_then_close f).client ≡ f 4 ∷ []

-- The client is dropped while its content is in flight: it takes and asks no more. What it wrote still comes.
abbrev pub dropped_client : (ℕ → Frame) → (taken : ℕ) → World
dropped_client f taken =
    replay (on_open_channel (f 1)
    (Ask Client (Other true) (f 4) ∷ Ask Client (Other false) (f 5) ∷ Ask Client (Other false)
    (f 6) ∷ Take Server taken ∷ []))

-- In that run the server acts on as much of what was sent as it takes, in order.
pub record DroppedClient (f : ℕ → Frame) : Type 0 where
  pub sent_to_server : sent Client 1 (dropped_client f 1).client ≡ f 4 ∷ f 5 ∷ f 6 ∷ []
  pub first_alone : acted Server 1 (dropped_client f 1).server ≡ f 4 ∷ []
  pub all_come : acted Server 1 (dropped_client f ALL).server ≡ f 4 ∷ f 5 ∷ f 6 ∷ []

-- The server puts connection.close while a message is in flight to it: it drops that, and answers no close.
abbrev pub server_leaves : (ℕ → Frame) → World
server_leaves f =
    replay
    (on_open_channel (f 1) (Ask Client (Other false) (f 4) ∷ Leave Server
    ∷ Ask Client Close (f 6) ∷ Take Server ALL ∷ Ask Server Close (f 8) ∷ []))

-- In that run the server acts on nothing, and its own close is refused; it keeps the channel Open, and the client is
-- Closing.
pub record ServerLeaves (f : ℕ → Frame) : Type 0 where
  pub refused : (server_leaves f).refused ≡ 8 ∷ []
  pub server_took :
      verdicts Server (server_leaves f).server
      ≡ GoesOn Opened (Some OpenOk) ∷ GoesOn Discarded None ∷ GoesOn Discarded None ∷ []
  pub sent_to_server : sent Client 1 (server_leaves f).client ≡ f 4 ∷ []
  pub acted_by_server : acted Server 1 (server_leaves f).server ≡ []
  pub server_is : state Server (server_leaves f).server ≡ State.Open
  pub client_is : state Client (server_leaves f).client ≡ Closing

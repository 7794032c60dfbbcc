-- What the two ends of a channel may do, in every interleaving.
use Rattle.std.specs.Prelude.{◌≡◌, Bool, true, false, not, ◌&&◌, List, [], ◌∷◌, ◌++◌, Some, None}
use Rattle.amqp_model.specs.Wire.Frame.{Frame}
use Rattle.amqp_model.specs.Wire.Notes.{Role, Client, Server, is_client, Kind, Open, Close, Flow, Other, Note, Put}
use Rattle.amqp_model.specs.Wire.Notes.{Took, Leaving}
use Rattle.amqp_model.specs.History.States.{State, Free}
use Rattle.amqp_model.specs.History.Lives.{state, awaits_flow_ok, is_paused, has_left}
use Rattle.amqp_model.specs.History.Verdict.{ChannelEvent, GoesOn, verdict}
use Rattle.amqp_model.specs.Pair.Carried.{Carried, Carry, put_by, taken_by}

-- What an end may put of itself: the client an open where the number is free; on an open channel either end a close,
-- a flow while none is unanswered, and any other frame, but no content while it is paused. A close that an end puts
-- because it refuses a content is one of these.
abbrev pub may_ask : Role → State → (awaits paused : Bool) → Kind → Bool
may_ask role Free awaits paused Open = is_client role
may_ask role State.Open awaits paused Close = true
may_ask role State.Open awaits paused (Flow active) = not awaits
may_ask role State.Open awaits paused (Other begins_content) = not (paused && begins_content)
may_ask role _ awaits paused kind = false

-- the end may put such a frame next; after its connection.close it puts none
abbrev pub may_put : Role → List Note → Kind → Bool
may_put role history kind =
    not (has_left history) && may_ask role (state role history) (awaits_flow_ok role history)
    (is_paused role history) kind

-- the next note in flight to an end: what the other put is what this end took, then this note, then the rest
abbrev pub IsNext : (theirs mine : List Note) → Carried → Type 0
IsNext theirs mine next = (later : List Carried) × (put_by theirs ≡ taken_by mine ++ next ∷ later)

-- One act of an end, from its notes before to its notes after: it puts what it may, it puts connection.close, or it
-- takes the next note and at once puts the reply that its verdict owes. A verdict of a fault is no act. An end that
-- is dropped, or has taken the other's connection.close, just acts no more.
pub data Acts (role : Role) (theirs : List Note) : List Note → List Note → Type 0 where
  asks :
      {mine : List Note} (kind : Kind) (frame : Frame) → may_put role mine kind ≡ true
      → Acts role theirs mine (Put kind frame ∷ mine)
  leaves : {mine : List Note} → Acts role theirs mine (Leaving ∷ mine)
  takes :
      {mine : List Note} (kind : Kind) (frame : Frame) (event : ChannelEvent) → IsNext theirs mine (Carry kind frame)
      → verdict role mine kind ≡ GoesOn event None → Acts role theirs mine (Took kind frame ∷ mine)
  replies :
      {mine : List Note} (kind : Kind) (frame : Frame) (event : ChannelEvent) (reply : Kind) (answer : Frame)
      → IsNext theirs mine (Carry kind frame)
      → verdict role mine kind ≡ GoesOn event (Some reply)
      → Acts role theirs mine (Put reply answer ∷ Took kind frame ∷ mine)

-- the notes of the client and of the server after any acts of the two, in any order
pub data Run : (client server : List Note) → Type 0 where
  start : Run [] []
  client_acts :
      {client server after : List Note} → Run client server → Acts Client server client after → Run after server
  server_acts :
      {client server after : List Note} → Run client server → Acts Server client server after → Run client after

-- a run, as one of the two ends sees it
abbrev pub RunAt : Role → (mine theirs : List Note) → Type 0
RunAt Client mine theirs = Run mine theirs
RunAt Server mine theirs = Run theirs mine

-- A connection of many channels. What an end takes next on a channel is the next that the other put on that
-- channel: frames of different channels may leave in another order than they were put.
use Rattle.std.specs.Prelude.{◌≡◌, true, cond, ℕ, List, [], ◌∷◌, Some, None, ◌==◌}
use Rattle.amqp_model.specs.Wire.Frame.{Frame}
use Rattle.amqp_model.specs.Wire.Notes.{Role, Client, Server, Kind, Open, OpenOk, Note, Put, Took, Leaving}
use Rattle.amqp_model.specs.History.Verdict.{ChannelEvent, GoesOn, verdict}
use Rattle.amqp_model.specs.Pair.Carried.{Carry}
use Rattle.amqp_model.specs.Pair.Runs.{may_put, IsNext, Run}

-- an end put or took a frame on a channel above 0, or it put connection.close
pub data ConnectionNote : Type 0 where
  PutOn TookOn : (channel : ℕ) → Kind → Frame → ConnectionNote
  LeavingAll : ConnectionNote

-- the notes of one channel, the newest first like the connection's
abbrev pub notes_of : ℕ → List ConnectionNote → List Note
notes_of channel [] = []
notes_of channel (PutOn other kind frame ∷ before) =
    cond (other == channel) (Put kind frame ∷ notes_of channel before) (notes_of channel before)
notes_of channel (TookOn other kind frame ∷ before) =
    cond (other == channel) (Took kind frame ∷ notes_of channel before) (notes_of channel before)
notes_of channel (LeavingAll ∷ before) = Leaving ∷ notes_of channel before

-- one act of an end: an act on one of its channels, or connection.close for all of them
pub data ConnectionActs (role : Role) (theirs : List ConnectionNote) : List ConnectionNote → List ConnectionNote
    → Type 0 where
  asks_on :
      {mine : List ConnectionNote} (channel : ℕ) (kind : Kind) (frame : Frame)
      → may_put role (notes_of channel mine) kind ≡ true
      → ConnectionActs role theirs mine (PutOn channel kind frame ∷ mine)
  leaves_all : {mine : List ConnectionNote} → ConnectionActs role theirs mine (LeavingAll ∷ mine)
  takes_on :
      {mine : List ConnectionNote} (channel : ℕ) (kind : Kind) (frame : Frame) (event : ChannelEvent)
      → IsNext (notes_of channel theirs) (notes_of channel mine) (Carry kind frame)
      → verdict role (notes_of channel mine) kind ≡ GoesOn event None
      → ConnectionActs role theirs mine (TookOn channel kind frame ∷ mine)
  replies_on :
      {mine : List ConnectionNote} (channel : ℕ) (kind : Kind) (frame : Frame) (event : ChannelEvent) (reply : Kind)
      (answer : Frame)
      → IsNext (notes_of channel theirs) (notes_of channel mine) (Carry kind frame)
      → verdict role (notes_of channel mine) kind ≡ GoesOn event (Some reply)
      → ConnectionActs role theirs mine (PutOn channel reply answer ∷ TookOn channel kind frame ∷ mine)

-- the notes of the client and of the server after any acts of the two, in any order
pub data ConnectionRun : (client server : List ConnectionNote) → Type 0 where
  nothing : ConnectionRun [] []
  client_does :
      {client server after : List ConnectionNote} → ConnectionRun client server
      → ConnectionActs Client server client after
      → ConnectionRun after server
  server_does :
      {client server after : List ConnectionNote} → ConnectionRun client server
      → ConnectionActs Server client server after
      → ConnectionRun client after

-- on each channel the notes of a connection are a run
abbrev pub EachChannelRuns : Type 0
EachChannelRuns =
    (client server : List ConnectionNote) → ConnectionRun client server
    → (channel : ℕ) → Run (notes_of channel client) (notes_of channel server)

-- The client opens two channels, and the server takes the second open first.
abbrev pub overtaken_client : (ℕ → Frame) → List ConnectionNote
overtaken_client f = PutOn 2 Open (f 2) ∷ PutOn 1 Open (f 1) ∷ []

abbrev pub overtaking_server : (ℕ → Frame) → List ConnectionNote
overtaking_server f =
    PutOn 1 OpenOk (f 1) ∷ TookOn 1 Open (f 1) ∷ PutOn 2 OpenOk (f 2) ∷ TookOn 2 Open (f 2) ∷ []

-- Whatever the frames, that is a run of a connection.
abbrev pub EveryOvertakingRuns : Type 0
EveryOvertakingRuns = (f : ℕ → Frame) → ConnectionRun (overtaken_client f) (overtaking_server f)

-- What a session whose end lends reads and writes. Read before: what one read gives (`Refilling`), what a push makes of
-- the output (`Sessions`), and when a stream's marks change (`Streams`).
use Rattle.std.specs.Prelude.{◌≡◌, ◌≤◌, ◌<◌, ℕ, List, [], ◌++◌, length, take, Result, Ok, Err, OnOk}
use Rattle.std.specs.Borrow.{Bor}
use Rattle.std.specs.Io.KnownBytes.{append_known}
use Rattle.amqp_model.specs.Output.Outputs.{after_writing, output_octets}
use Rattle.amqp_outbox.specs.OutboxView.{Outgoing, with_output}
use Rattle.amqp_core.specs.Stream.View.{endpoint_of, settings_at}
use Rattle.amqp_core.specs.declared.roles.Role.{Ghosts}
use Rattle.amqp_io.specs.Refilling.{AreRead}
use Rattle.amqp_io.specs.Sessions.{due, Known, Pushes}
use Rattle.amqp_io.specs.Streams.{Marks}
use Rattle.amqp_io.specs.declared.faults.IoFault.{IoFault}
use Rattle.amqp_io.specs.declared.faults.IoFault.TheVariants as io
use Rattle.amqp_io.specs.declared.stream.Stream as stream
use Rattle.amqp_io.specs.declared.streaming.StreamSession.{StreamSession}

-- the octets that one read gave, at least one and at most as many as there is room for; where it failed, none is gone
abbrev pub Reads : (room : ℕ) → Result (Bor (List ℕ)) IoFault → (before after : Known) → Type 0
Reads room (Ok octets) before after = AreRead room octets.now before after
Reads room (Err io.Read) before after = after ≡ before
Reads room (Err io.EndOfInput) before after = after ≡ before
Reads room (Err fault) before after = ⊥

-- Octets are read.
pub record Pulled {R H S : Type 0} {G : Ghosts R H} (of : stream.Ghosts S) (room : ℕ) (old : StreamSession R S H G)
    (result : Result (Bor (List ℕ)) IoFault) (new : StreamSession R S H G) : Type 0 where
  -- They are the next that the stream gives.
  pub reads : Reads room result (of.to_give old.stream) (of.to_give new.stream)
  -- Nothing is written.
  pub taken : of.taken new.stream ≡ of.taken old.stream
  -- It answers that a read failed, or that the input ended, exactly when that is so.
  pub failure : Marks (result ≡ Err io.Read) (of.failures old.stream) (of.failures new.stream)
  pub ends : Marks (result ≡ Err io.EndOfInput) (of.ends old.stream) (of.ends new.stream)
  -- The end is not touched.
  pub end_stays : new.end ≡ old.end

-- Octets of the output are written.
pub record Pushed {R H S : Type 0} {G : Ghosts R H} (of : stream.Ghosts S) (limit : ℕ) (old : StreamSession R S H G)
    (result : Result ℕ IoFault) (new : StreamSession R S H G) : Type 0 where
  -- The stream takes a prefix of the output, which counts as written: all that is due, or less where it fails.
  pub pushed :
      Pushes limit result (endpoint_of old.end) (endpoint_of new.end) (of.taken old.stream) (of.taken new.stream)
  -- Where nothing is due the stream isn't touched.
  pub untouched : due limit (endpoint_of old.end) ≡ 0 → new.stream ≡ old.stream
  -- Nothing is read.
  pub to_give : of.to_give new.stream ≡ of.to_give old.stream
  pub no_end : of.ends new.stream ≡ of.ends old.stream
  -- It fails exactly when a write does.
  pub failure : Marks (result ≡ Err io.Write) (of.failures old.stream) (of.failures new.stream)
  -- The end's settings stay.
  pub settings : settings_at new.end ≡ settings_at old.end

-- The stream takes n octets from the start of what waits in a queue, at least one, and the queue goes on from there.
pub record MovesPieces (n : ℕ) (old new : Outgoing) (before after : Known) : Type 0 where
  pub some : 0 < n
  pub within : n ≤ length (output_octets old.output)
  pub left : new ≡ with_output old (after_writing n old.output)
  pub taken : after ≡ append_known before (take n (output_octets old.output))

-- where the write fails, all stays
abbrev pub PushesPieces : Result ℕ IoFault → (old new : Outgoing) → (before after : Known) → Type 0
PushesPieces (Ok n) old new before after = MovesPieces n old new before after
PushesPieces (Err fault) old new before after = (new ≡ old) × (after ≡ before)

-- Octets of a queue are written, as one write takes them.
pub record PushedPieces {R H S : Type 0} {G : Ghosts R H} (of : stream.Ghosts S) (old : StreamSession R S H G)
    (queue : Outgoing) (result : Result ℕ IoFault) (new : StreamSession R S H G) (left : Outgoing) : Type 0 where
  pub pushed :
      0 < length (output_octets queue.output) → PushesPieces result queue left (of.taken old.stream) (of.taken new.stream)
  -- Where nothing waits the stream isn't touched.
  pub untouched :
      length (output_octets queue.output) ≡ 0 → (result ≡ Ok 0) × (left ≡ queue) × (new.stream ≡ old.stream)
  -- Nothing is read.
  pub to_give : of.to_give new.stream ≡ of.to_give old.stream
  pub no_end : of.ends new.stream ≡ of.ends old.stream
  -- It fails exactly when the write does.
  pub failure : Marks (result ≡ Err io.Write) (of.failures old.stream) (of.failures new.stream)
  -- The end stays.
  pub end : new.end ≡ old.end

-- The stream takes octets from the start of those that are lent, and the others are left.
pub record PushesFrames (old left : List ℕ) (before after : Known) : Type 0 where
  pub gone : List ℕ
  pub parts : old ≡ gone ++ left
  pub taken : after ≡ append_known before gone

-- The frames of a content are written, from where they are lent.
pub record PushedFrames {A R H S : Type 0} {G : Ghosts R H} (of : stream.Ghosts S) (old : StreamSession R S H G)
    (frames : List ℕ) (result : Result A IoFault) (new : StreamSession R S H G) (left : List ℕ) : Type 0 where
  -- The stream takes all of them, or those before the write that fails.
  pub pushed : PushesFrames frames left (of.taken old.stream) (of.taken new.stream)
  pub all : OnOk result (left ≡ [])
  -- Nothing is read.
  pub to_give : of.to_give new.stream ≡ of.to_give old.stream
  pub no_end : of.ends new.stream ≡ of.ends old.stream
  -- It fails exactly when a write does.
  pub failure : Marks (result ≡ Err io.Write) (of.failures old.stream) (of.failures new.stream)
  -- The end stays.
  pub end : new.end ≡ old.end

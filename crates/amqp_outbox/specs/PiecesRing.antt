-- The queues of the channels as the turn goes round them: those after LAST, then the others, again and again.
use Rattle.std.specs.Prelude.{◌≡◌, ℕ, suc, ◌-◌, ◌^◌, ◌<◌, ◌≤◌, List, [], ◌∷◌, ◌++◌, length, map, take, drop, All}
use Rattle.amqp_frame.specs.Frame.{Frame}
use Rattle.amqp_model.specs.Output.Arrangement.{steps, arranged}
use Rattle.amqp_outbox.specs.PiecesQueues.{frames_of, IsQueue}
use Rattle.amqp_outbox.specs.declared.queues.Queue.{Queue}
use Rattle.amqp_outbox.specs.declared.ring.Ring.{Ring}

-- the frames of a channel that are still to come
pub record Line : Type 0 where
  pub channel : ℕ
  pub frames : List Frame

-- a queue of which so many frames are lent
abbrev pub line_of : ℕ → Queue → Line
line_of lent queue = record { channel = queue.channel; frames = drop lent (frames_of queue.frames.items) }

abbrev pub lines_of : ℕ → List Queue → List Line
lines_of lent queues = map (line_of lent) queues

-- all frames of the lines
abbrev pub flat : List Line → List Frame
flat [] = []
flat (line ∷ later) = line.frames ++ flat later

pub record IsLine (line : Line) : Type 0 where
  pub above : 0 < line.channel
  pub channel : line.channel < 2 ^ 16
  pub own : All (λ (f : Frame). f.channel ≡ line.channel) line.frames

-- each line has its turn before those after it, counted from LAST
abbrev pub IsRing : (last : ℕ) → List Line → Type 0
IsRing last [] = Unit {0}
IsRing last (line ∷ later) = IsLine line × (All (λ (other : Line). steps last line.channel < steps last other.channel) later × IsRing last later)

-- the queues of a ring, in their first order
abbrev pub queues_in : Ring → List Queue
queues_in ring = ring.later.now ++ ring.earlier.now

-- the lines of a ring where the turn stands at a queue in a round: each queue passed in a round has lent a frame more
abbrev pub lines_at : (round at : ℕ) → List Queue → List Line
lines_at round at queues = lines_of round (drop at queues) ++ lines_of (suc round) (take at queues)

abbrev pub lines_in : Ring → List Line
lines_in ring = lines_at ring.round ring.at (queues_in ring)

-- the row of what a ring has to lend
abbrev pub row_in : Ring → List Frame
row_in ring = arranged ring.last (flat (lines_in ring))

abbrev pub IsIdle : Line → Type 0
IsIdle line = line.frames ≡ []

pub record IsRound (ring : Ring) : Type 0 where
  pub queues : All IsQueue (queues_in ring)
  pub at : ring.at ≤ length (queues_in ring)
  pub in_turn : IsRing ring.last (lines_in ring)
  pub last : ring.last < 2 ^ 16
  -- so many lines were passed without a frame
  pub idle : ring.idle ≤ length (queues_in ring)
  pub none : All IsIdle (drop (length (queues_in ring) - ring.idle) (lines_in ring))

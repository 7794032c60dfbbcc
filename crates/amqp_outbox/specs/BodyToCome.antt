-- A body that comes part by part: what is still to be written of it, and how that grows less.
use Rattle.std.specs.Prelude.{◌≡◌, ℕ, zero, suc, ◌+◌, List, ◌∷◌, ◌++◌, length, take, drop}
use Rattle.amqp_frame.specs.Frame.{END}
use Rattle.amqp_frame.specs.Splitting.{stream}
use Rattle.amqp_outbox.specs.OutboxFrames.{body_frames}
use Rattle.amqp_outbox.specs.declared.body.BodyWriter.{BodyWriter}

-- What is left to be written of a body of which this is the rest: where a frame was begun to which `begun` octets of it
-- belong, these and the octet that ends the frame; then the frames of what follows.
abbrev pub rest_framed : (channel room begun : ℕ) → (rest : List ℕ) → List ℕ
rest_framed channel room zero rest = stream (body_frames channel room rest)
rest_framed channel room (suc n) rest =
    take (suc n) rest ++ END ∷ stream (body_frames channel room (drop (suc n) rest))

abbrev pub still_to_write : BodyWriter → (rest : List ℕ) → List ℕ
still_to_write writer rest = rest_framed writer.channel writer.room writer.begun rest

-- how many octets of the body are still to come
abbrev pub octets_left : BodyWriter → ℕ
octets_left writer = writer.left

-- A part of the body is written: whatever is to follow it, what is written and what is still to be written are together
-- as they were, and so many octets fewer are to come.
pub record Goes (old : BodyWriter) (before part : List ℕ) (new : BodyWriter) (written : List ℕ) : Type 0 where
  pub framed : (later : List ℕ) → length part + length later ≡ octets_left old
      → written ++ still_to_write new later ≡ before ++ still_to_write old (part ++ later)
  pub fewer : octets_left new + length part ≡ octets_left old

-- What it is for a row to be arranged, in the words of the rules and read off the whole of it.
use Rattle.std.specs.Prelude.{◌≡◌, ℕ, zero, suc, ◌+◌, ◌<◌, ◌≤◌, ◌⊎◌, cond, ◌==◌, nat_lt}
use Rattle.std.specs.Prelude.{List, ◌∷◌, ◌++◌, map, Contains, filter}
use Rattle.amqp_frame.specs.Frame.{Frame}
use Rattle.amqp_model.specs.Output.Arrangement.{PlainFrames, LeavingFrames, queued, steps}

-- the channel that follows in the count
abbrev pub next_channel : ℕ → ℕ
next_channel channel = cond (channel == 65535) 1 (channel + 1)

-- the channel at which n counts from a channel end
abbrev pub counted : (n from : ℕ) → ℕ
counted zero from = from
counted (suc n) from = counted n (next_channel from)

-- the frames of the channels above 0, in order
abbrev pub above_0 : List Frame → List Frame
above_0 frames = filter (λ f. nat_lt 0 f.channel) frames

abbrev pub channels_of : List Frame → List ℕ
channels_of frames = map (λ f. f.channel) frames

pub record FollowsRules (last : ℕ) (row : List Frame) : Type 0 where
  -- plain frames of channel 0, then those of the channels above 0, then those that leave the connection
  pub in_parts : row ≡ queued PlainFrames row ++ (above_0 row ++ queued LeavingFrames row)
  -- where the channel d follows the channel c, LAST being the first of all, no channel that counting up from c + 1
  -- meets before d stands after
  pub in_turn :
      (before after : List ℕ) (c d e : ℕ) → last ∷ channels_of (above_0 row) ≡ before ++ c ∷ d ∷ after
      → Contains after e
      → steps c d ≤ steps c e

-- A channel is met no later than the other: it is the lowest above LAST, or else, where none is above, the lowest.
abbrev pub ComesNoLater : (last channel other : ℕ) → Type 0
ComesNoLater last channel other =
    ((last < channel) × (last < other → channel ≤ other)) ⊎ ((channel ≤ other) × (other ≤ last))

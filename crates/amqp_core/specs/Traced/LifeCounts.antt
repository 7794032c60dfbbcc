-- The lives of a channel, counted by what is noted, the oldest note first. It comes to what the notes of a history
-- count to.
use Rattle.std.specs.Prelude.{Bool, true, false, cond, not, ◌&&◌, ◌==◌, ℕ, suc, List, [], ◌∷◌}
use Rattle.amqp_model.specs.Wire.Notes.{Role, is_client, is_server}
use Rattle.amqp_model.specs.Stream.Traces.{Word, Open, Close, CloseOk, Direction, IsPut, IsTaken, Noted}

-- how many lives began, and whether the end put close and has taken no close-ok since
pub record LifeCount : Type 0 where
  pub lives : ℕ
  pub waits : Bool

abbrev pub no_lives : LifeCount
no_lives = record { lives = 0; waits = false }

-- a client's open begins a life, and so does one that a server takes while it doesn't wait
abbrev pub begins_life : Role → Direction → Word → (waits : Bool) → Bool
begins_life role IsPut Open waits = is_client role
begins_life role IsTaken Open waits = is_server role && not waits
begins_life role direction word waits = false

abbrev waits_after : Direction → Word → (waits : Bool) → Bool
waits_after IsPut Close waits = true
waits_after IsTaken CloseOk waits = false
waits_after direction word waits = waits

abbrev pub after_word : Role → Direction → Word → LifeCount → LifeCount
after_word role direction word count =
    record {
      lives = cond (begins_life role direction word count.waits) (suc count.lives) count.lives;
      waits = waits_after direction word count.waits;
    }

-- a note of the channel is counted
abbrev pub count_with : Role → (channel : ℕ) → Noted → LifeCount → LifeCount
count_with role channel note count =
    cond (note.channel == channel) (after_word role note.direction note.word count) count

abbrev pub counted_from : Role → (channel : ℕ) → LifeCount → List Noted → LifeCount
counted_from role channel count [] = count
counted_from role channel count (note ∷ later) = counted_from role channel (count_with role channel note count) later

-- what notes count to on a channel
abbrev pub counted_lives : Role → (channel : ℕ) → List Noted → LifeCount
counted_lives role channel notes = counted_from role channel no_lives notes

-- What looking for a number that is free does to the channels: it changes none. Read before: the channels by number
-- (`ChannelsView`), and the model's `first_free`.
use Rattle.std.specs.Prelude.{◌≡◌, ◌<◌, true, ℕ, Option, IfSome}
use Rattle.amqp_model.specs.End.Asks.{first_free, is_free}
use Rattle.amqp_channel.specs.Channels.ChannelsView.{channels_view, NoneLent}
use Rattle.amqp_channel.specs.declared.channels.Channels.{Channels}

-- The number found is the lowest that is free, from 1 up to the greatest.
pub record FindsFree (most : ℕ) (old : Channels) (result : Option ℕ) (new : Channels) : Type 0 where
  -- It is the first of them that is free, if any is.
  pub lowest : result ≡ first_free (channels_view old) most 1
  -- So it is above 0, and the channel of this number is free.
  pub above : IfSome result (λ number. 0 < number)
  pub free : IfSome result (λ number. is_free (channels_view old number) ≡ true)
  -- Every channel stays as it was.
  pub same : (number : ℕ) → channels_view new number ≡ channels_view old number
  -- No content is lent by it.
  pub gathers : NoneLent old → NoneLent new

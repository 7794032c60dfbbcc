-- The octets that an end has put and not written, and what a put and a write make of them.
use Rattle.std.specs.Prelude.{◌≡◌, ℕ, ◌+◌, ◌-◌, ◌<◌, ◌≤◌, cond, ◌==◌, nat_lt, List, []}
use Rattle.std.specs.Prelude.{◌∷◌, ◌++◌, length, drop}
use Rattle.amqp_frame.specs.Frame.{Frame, octets, frame_length}
use Rattle.amqp_frame.specs.Splitting.{stream}
use Rattle.amqp_model.specs.Output.Arrangement.{last_after, last_after_all, on, placed}

pub record Output : Type 0 where
  -- What no put moves: what is left of the frame that is begun. Of an end that begins with the protocol header
  -- it is that header until it is written, since nothing was put before it.
  pub ahead : List ℕ
  -- the channel whose frame was begun most recently, channel 0 too, 0 at first
  pub begun_on : ℕ
  -- the channel above 0 whose frame was begun most recently, 0 at first
  pub last : ℕ
  -- the frames that are not begun, in the order in which they are to leave
  pub row : List Frame

abbrev pub output_octets : Output → List ℕ
output_octets o = o.ahead ++ stream o.row

-- How many octets wait of a channel: what is left of the frame that is begun, where it is the channel's, and all of
-- its other frames. The protocol header counts to channel 0.
abbrev pub waiting_on : (channel : ℕ) → Output → ℕ
waiting_on channel o = cond (o.begun_on == channel) (length o.ahead) 0 + length (stream (on channel o.row))

-- the channel of the last of these frames, begun in turn
abbrev pub begun_on_after : (begun_on : ℕ) → List Frame → ℕ
begun_on_after begun_on [] = begun_on
begun_on_after begun_on (f ∷ later) = begun_on_after f.channel later

-- A put changes the row alone: the frame that is begun stays, and so does LAST.
abbrev pub after_put : Frame → Output → Output
after_put f o = record { ahead = o.ahead; begun_on = o.begun_on; last = o.last; row = placed o.last f o.row }

-- frames that are put one after another
abbrev pub after_puts : List Frame → Output → Output
after_puts [] o = o
after_puts (f ∷ frames) o = after_puts frames (after_put f o)

-- The first n octets of an output are written.
pub record Writes (n : ℕ) (old new : Output) : Type 0 where
  -- the frames of which the first octet is among these
  pub begun : List Frame
  pub row_is : old.row ≡ begun ++ new.row
  pub all_begun :
      (before later : List Frame) (f : Frame) → begun ≡ before ++ f ∷ later
      → length (old.ahead ++ stream before) < n
  pub no_more_begun : n ≤ length (old.ahead ++ stream begun)
  pub begun_on_is : new.begun_on ≡ begun_on_after old.begun_on begun
  pub last_is : new.last ≡ last_after_all old.last begun
  pub octets_are : output_octets new ≡ drop n (output_octets old)

-- n octets of a row are written, of which no frame was begun
abbrev pub row_after_writing : (n begun_on last : ℕ) → List Frame → Output
row_after_writing n begun_on last [] = record { ahead = []; begun_on = begun_on; last = last; row = [] }
row_after_writing n begun_on last (f ∷ later) =
    cond (n == 0)
    (record { ahead = []; begun_on = begun_on; last = last; row = f ∷ later })
    (cond (nat_lt n (frame_length f))
    (record { ahead = drop n (octets f); begun_on = f.channel; last = last_after last f; row = later })
    (row_after_writing (n - frame_length f) f.channel (last_after last f) later))

abbrev pub after_writing : ℕ → Output → Output
after_writing n o =
    cond (nat_lt n (length o.ahead))
    (record { ahead = drop n o.ahead; begun_on = o.begun_on; last = o.last; row = o.row })
    (row_after_writing (n - length o.ahead) o.begun_on o.last o.row)

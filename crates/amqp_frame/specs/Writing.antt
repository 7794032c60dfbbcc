-- A frame whose payload is written straight into the output, between its header and its end octet.
use Rattle.std.specs.Prelude.{◌≡◌, ℕ, ◌+◌, ◌-◌, ◌^◌, ◌<◌, ◌≤◌, List, ◌++◌, length}
use Rattle.amqp_frame.specs.Frame.{Frame, header, octets}

-- a header stands at this place, and what follows it is no longer than a payload may be
pub record HasPayloadRoom (start : ℕ) (out : List ℕ) : Type 0 where
  pub header : start + 7 ≤ length out
  pub size : length out - (start + 7) < 2 ^ 32

-- where the output was other octets, the header of a frame with no size, and its payload, it is now those octets and
-- that frame
abbrev pub FinishesFrame : (start : ℕ) → (old new : List ℕ) → Type 0
FinishesFrame start old new =
    (before : List ℕ) (f : Frame)
    → length before ≡ start → old ≡ before ++ (header f.kind f.channel 0 ++ f.payload) → new ≡ before ++ octets f

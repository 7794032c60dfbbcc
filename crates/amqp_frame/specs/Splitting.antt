-- What it is to split a stream of octets into frames: AMQP 0-9-1 specification, sections 2.3.4, "Delimiting Frames",
-- and 4.2.3.
use Rattle.std.specs.Prelude.{◌≡◌, ◌≢◌, ℕ, ◌+◌, ◌<◌, ◌≤◌, ◌⊎◌, List, [], ◌∷◌, ◌++◌, length, take, drop, slice_index}
use Rattle.byteorder.specs.Endian.{big_number}
use Rattle.amqp_frame.specs.Frame.{Frame, octets, Fits, END}
use Rattle.amqp_frame.specs.declared.faults.FrameFaultKind.{FrameFaultKind}
use Rattle.amqp_frame.specs.declared.faults.FrameFaultKind.TheVariants.{UnknownType, TooLarge, BadEnd, OutOfMemory, Failed}

-- the octets of the frames, one frame after another
abbrev pub stream : List Frame → List ℕ
stream [] = []
stream (f ∷ frames) = octets f ++ stream frames

-- each of the frames fits its fields
abbrev pub AllFit : List Frame → Type 0
AllFit [] = Unit {0}
AllFit (f ∷ frames) = Fits f × AllFit frames

-- a prefix of the octets is a frame
abbrev pub BeginsWithFrame : List ℕ → Type 0
BeginsWithFrame xs = (f : Frame) × (tail : List ℕ) × Fits f × (xs ≡ octets f ++ tail)

-- the octets are those of the frames, and then a rest of which no prefix is a frame
pub record SplitsInto (xs : List ℕ) (frames : List Frame) (rest : List ℕ) : Type 0 where
  pub joined : xs ≡ stream frames ++ rest
  pub fit : AllFit frames
  pub no_frame : BeginsWithFrame rest → ⊥

-- the octet is the type of some frame
abbrev pub IsTypeOctet : ℕ → Type 0
IsTypeOctet x = (x ≡ 1) ⊎ (x ≡ 2) ⊎ (x ≡ 3) ⊎ (x ≡ 8)

-- the payload's size, as the fourth to seventh octet have it
abbrev pub size_of : List ℕ → ℕ
size_of xs = big_number 4 (drop 3 xs)

-- Octets show a fault, under a limit on a frame's octets. Out of memory and an earlier fault stand in no octet.
abbrev pub Tells : ℕ → List ℕ → FrameFaultKind → Type 0
-- the first octet is the type of no frame
Tells limit xs UnknownType = (0 < length xs) × (IsTypeOctet (slice_index xs 0) → ⊥)
-- seven octets are there, and the frame that they begin is longer than the limit
Tells limit xs TooLarge = (7 ≤ length xs) × (limit < size_of xs + 8)
-- as many octets are there as the frame has, and the last of these isn't CE
Tells limit xs BadEnd = (size_of xs + 8 ≤ length xs) × (slice_index xs (size_of xs + 7) ≢ END)
Tells limit xs OutOfMemory = ⊥
Tells limit xs Failed = ⊥

-- The octet at a place shows the fault: the octets up to and with it show it, and no shorter prefix tells any.
pub record TellsFirst (limit : ℕ) (xs : List ℕ) (kind : FrameFaultKind) (place : ℕ) : Type 0 where
  pub within : place < length xs
  pub told : Tells limit (take (place + 1) xs) kind
  pub first : (n : ℕ) (other : FrameFaultKind) → n ≤ place → Tells limit (take n xs) other → ⊥

-- a frame begun: no prefix of the octets is a frame, and they show no fault
pub record IsRest (limit : ℕ) (xs : List ℕ) : Type 0 where
  pub no_frame : BeginsWithFrame xs → ⊥
  pub no_fault : (kind : FrameFaultKind) → Tells limit xs kind → ⊥

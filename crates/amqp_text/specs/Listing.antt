-- What it is to list the frames of octets, and the line of a frame.
use Rattle.std.specs.Prelude.{◌≡◌, ℕ, ◌<◌, ◌≤◌, List, [], ◌∷◌, ◌++◌, length, map, codes}
use Rattle.std.specs.Fmt.{decimal}
use Rattle.hex.specs.Hex.{encode_lower}
use Rattle.amqp_frame.specs.Frame.{Frame, frame_length, owned, kind_name}
use Rattle.amqp_frame.specs.Splitting.{stream, AllFit, TellsFirst, IsRest}
use Rattle.amqp_frame.specs.Splitter.{place_after}
use Rattle.amqp_frame.specs.declared.faults.FrameFaultKind.{FrameFaultKind}
use Rattle.amqp_frame.specs.declared.faults.FrameFaultKind.TheVariants.{UnknownType, TooLarge, BadEnd, OutOfMemory, Failed}
use Rattle.amqp_text.specs.declared.listing.Ending.{Ending}
use Rattle.amqp_text.specs.declared.listing.Ending.TheVariants.{Whole, Rest, Fault}
use Rattle.amqp_text.specs.declared.listing.Listing.{Listing}

-- how many octets a frame may have
abbrev pub GREATEST_FRAME : ℕ
GREATEST_FRAME = 1048576

-- the frames of a listing
abbrev pub frames_of : Listing → List Frame
frames_of listing = map owned listing.frames.items

-- each of the frames is within the limit
abbrev pub AllWithin : List Frame → Type 0
AllWithin [] = Unit {0}
AllWithin (f ∷ frames) = (frame_length f ≤ GREATEST_FRAME) × AllWithin frames

-- a fault stands after so many octets
abbrev FaultAfter : ℕ → List ℕ → FrameFaultKind → ℕ → Type 0
FaultAfter taken rest UnknownType at = (place : ℕ) × TellsFirst GREATEST_FRAME rest UnknownType place
    × (at ≡ place_after taken place)
FaultAfter taken rest TooLarge at = (place : ℕ) × TellsFirst GREATEST_FRAME rest TooLarge place
    × (at ≡ place_after taken place)
FaultAfter taken rest BadEnd at = (place : ℕ) × TellsFirst GREATEST_FRAME rest BadEnd place
    × (at ≡ place_after taken place)
FaultAfter taken rest OutOfMemory at = at ≡ place_after taken 0
FaultAfter taken rest Failed at = ⊥

-- what follows the frames, after so many octets
abbrev pub EndsWith : ℕ → List ℕ → Ending → Type 0
EndsWith taken rest Whole = rest ≡ []
EndsWith taken rest (Rest n) = (n ≡ length rest) × (0 < n) × IsRest GREATEST_FRAME rest
EndsWith taken rest (Fault fault) = FaultAfter taken rest fault.kind fault.at

-- the octets are those of the frames, and then what the listing says
pub record IsListing (octets : List ℕ) (listing : Listing) : Type 0 where
  pub rest : List ℕ
  pub joined : octets ≡ stream (frames_of listing) ++ rest
  pub fit : AllFit (frames_of listing)
  pub within : AllWithin (frames_of listing)
  pub ended : EndsWith (length (stream (frames_of listing))) rest listing.end

-- octets in hexadecimal, `-` for none
abbrev pub hexadecimal : List ℕ → List ℕ
hexadecimal [] = codes "-"
hexadecimal (x ∷ octets) = encode_lower (x ∷ octets)

-- the channel, the kind, the payload's size and the payload
abbrev pub line_of : Frame → List ℕ
line_of f = decimal f.channel ++ (32 ∷ (kind_name f.kind
    ++ (32 ∷ (decimal (length f.payload) ++ (32 ∷ hexadecimal f.payload)))))

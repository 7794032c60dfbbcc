-- What a splitter behind a handle does with a piece that is split into the frames that lie in it. Read before: what it
-- does with a piece that is fed (`Splitters`).
use Rattle.std.specs.Prelude.{◌≡◌, ◌≢◌, ◌+◌, ◌<◌, ℕ, true, false, List, [], ◌∷◌, length, take, drop}
use Rattle.std.specs.Prelude.{Option, Some, None, is_some, Result, Ok, Err, ◌⊎◌}
use Rattle.amqp_frame.specs.Splitter.{after_feed_ref}
use Rattle.amqp_frame.specs.Stream.{Stream}
use Rattle.amqp_frame.specs.declared.faults.FrameFault.{FrameFault}
use Rattle.amqp_frame.specs.declared.splitting.FedRef.{FedRef}
use Rattle.amqp_handle.specs.declared.held.Held.{Held}
use Rattle.amqp_handle.specs.declared.held.Held.TheVariants.{Splitter, Content}
use Rattle.amqp_calls.specs.Splitters.{Answers, answer_of, frame_fault, frame_there}
use Rattle.amqp_calls.specs.declared.splitting.FedFrame.{FedFrame}
use Rattle.amqp_calls.specs.declared.splitting.SplitPiece.{SplitPiece}

-- this frame is what a feed of the octets gives
pub record Gives (old : Stream) (octets : List ℕ) (frame : FedFrame) : Type 0 where
  pub answers : Answers old octets (answer_of 0 frame)
  pub there : is_some (frame_there frame) ≡ true

-- These frames are what one feed after the other gives, each of the octets that those before it left. In the end the
-- splitter is this, and these octets are left.
abbrev pub GivesEach : Stream → List ℕ → List FedFrame → (new : Stream) → (rest : List ℕ) → Type 0
GivesEach old octets [] new rest = (new ≡ old) × (rest ≡ octets)
GivesEach old octets (frame ∷ frames) new rest =
    Gives old octets frame
    × GivesEach (after_feed_ref old octets (answer_of 0 frame)) (drop frame.taken octets) frames new rest

-- what is left has no frame: it is taken, as a feed answers
abbrev pub waiting : List ℕ → Result FedRef FrameFault
waiting rest = Ok (record { taken = length rest; frame = None })

-- or it shows a fault
abbrev pub faulty : ℕ → SplitPiece → Result FedRef FrameFault
faulty status out = Err (record { at = out.at; kind = frame_fault status })

-- Why there are no more frames than these, of a splitter which they left so, with this rest, and with room for so many
-- more; and what it is then.
pub data Ends (old : Stream) (rest : List ℕ) (room status : ℕ) (out : SplitPiece) (all : ℕ)
    (new : Stream) : Type 0 where
  -- no octet is left, or no room
  given : status ≡ 0 → ((rest ≡ []) ⊎ (room ≡ 0)) → out.taken + length rest ≡ all → new ≡ old
      → Ends old rest room status out all new
  -- the rest is taken, and gives no frame
  waits : status ≡ 0 → Answers old rest (waiting rest) → out.taken ≡ all → new ≡ after_feed_ref old rest (waiting rest)
      → Ends old rest room status out all new
  -- the rest shows a fault, and isn't taken
  faults : 100 < status → Answers old rest (faulty status out) → out.taken + length rest ≡ all
      → new ≡ after_feed_ref old rest (faulty status out) → Ends old rest room status out all new

-- A piece is split: so many frames stand in the first places, and the others stay.
pub record SplitsPiece (old : Stream) (piece : List ℕ) (places : List FedFrame) (status : ℕ) (out : SplitPiece)
    (frames : List FedFrame) (new : Stream) : Type 0 where
  -- what the frames left, of the splitter and of the piece
  pub left : Stream
  pub rest : List ℕ
  pub gives : GivesEach old piece (take out.count frames) left rest
  -- there are as many places as before, and at least so many
  pub room : ℕ
  pub places_are : out.count + room ≡ length places
  pub others : drop out.count frames ≡ drop out.count places
  pub ends : Ends left rest room status out (length piece) new
  pub not_cut : out.cut ≡ false

-- a frame had begun before, and nothing is taken
pub record IsCut (old : Stream) (places : List FedFrame) (status : ℕ) (out : SplitPiece) (frames : List FedFrame)
    (new : Stream) : Type 0 where
  pub begun : old.pending ≢ []
  pub told : (status ≡ 0) × (out.taken ≡ 0) × (out.count ≡ 0) × (out.cut ≡ true)
  pub frames_are : frames ≡ places
  pub stays : new ≡ old

-- the splitter of an open handle splits a piece; any other handle is refused
abbrev pub SplitsHandle : Option Held → List ℕ → List FedFrame → ℕ → SplitPiece → List FedFrame → Option Held → Type 0
SplitsHandle None piece places status out frames new = (status ≡ 1) × (frames ≡ places) × (new ≡ None)
SplitsHandle (Some (Content c)) piece places status out frames new =
    (status ≡ 3) × (frames ≡ places) × (new ≡ Some (Content c))
SplitsHandle (Some (Splitter s)) piece places status out frames None = ⊥
SplitsHandle (Some (Splitter s)) piece places status out frames (Some (Content c)) = ⊥
SplitsHandle (Some (Splitter s)) piece places status out frames (Some (Splitter now)) =
    IsCut s places status out frames now ⊎ SplitsPiece s piece places status out frames now

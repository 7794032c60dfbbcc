-- The laws of frames, as statements.
use Rattle.std.specs.Prelude.{◌≡◌, ℕ, ◌≤◌, List, ◌++◌}
use Rattle.amqp_frame.specs.Frame.{Frame, octets, Fits, frame_length}
use Rattle.amqp_frame.specs.Judged.{Wrong, judged, fault_place}
use Rattle.amqp_frame.specs.Splitting.{SplitsInto, Tells, TellsFirst}
use Rattle.amqp_frame.specs.declared.faults.FrameFaultKind.{FrameFaultKind}

-- octets split into frames and a rest in one way only
abbrev pub OneSplit : Type 0
OneSplit =
    (xs : List ℕ) (frames others : List Frame) (rest other : List ℕ)
    → SplitsInto xs frames rest → SplitsInto xs others other → (frames ≡ others) × (rest ≡ other)

-- octets that begin with two frames begin with the same one, and the same octets follow it
abbrev pub OneFrameAtStart : Type 0
OneFrameAtStart =
    (f g : Frame) (xs ys : List ℕ) → Fits f → Fits g → octets f ++ xs ≡ octets g ++ ys → (f ≡ g) × (xs ≡ ys)

-- a prefix of a frame that is no longer than the limit shows no fault
abbrev pub PrefixHasNoFault : Type 0
PrefixHasNoFault =
    (limit : ℕ) (f : Frame) (prefix tail : List ℕ) (kind : FrameFaultKind)
    → Fits f → frame_length f ≤ limit → octets f ≡ prefix ++ tail → Tells limit prefix kind → ⊥

-- octets that are judged wrong show that fault first in its place
abbrev pub JudgedIsShown : Type 0
JudgedIsShown =
    (limit : ℕ) (xs : List ℕ) (kind : FrameFaultKind) → judged limit xs ≡ Wrong kind
    → TellsFirst limit xs kind (fault_place kind xs)

-- octets that show a fault first are judged wrong so, and that octet stands in its place
abbrev pub ShownIsJudged : Type 0
ShownIsJudged =
    (limit : ℕ) (xs : List ℕ) (kind : FrameFaultKind) (place : ℕ)
    → TellsFirst limit xs kind place → (judged limit xs ≡ Wrong kind) × (place ≡ fault_place kind xs)

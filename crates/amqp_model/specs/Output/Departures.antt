-- In which order the frames leave that an end puts, from the first to the last. That what was put before a
-- connection.close leaves before it is this profile's own promise; the standard has the close itself (AMQP 0-9-1
-- specification, section 2.3.7, "Closing Channels and Connections").
use Rattle.std.specs.Prelude.{◌≡◌, ℕ, zero, suc, ◌<◌, true, cond, List, [], ◌∷◌, ◌++◌, length}
use Rattle.std.specs.Prelude.{All}
use Rattle.amqp_model.specs.Output.Prefixes.{IsPrefixOf}
use Rattle.amqp_frame.specs.Frame.{Frame}
use Rattle.amqp_frame.specs.Splitting.{stream, AllFit}
use Rattle.amqp_model.specs.Output.Arrangement.{is_leaving, Queue, queued, on, last_after_all, IsArranged}
use Rattle.amqp_model.specs.Output.Outputs.{Output, begun_on_after}

-- the frames before the connection.close or close-ok number k, counted from 0; all of them where there is none
abbrev pub before_close : ℕ → List Frame → List Frame
before_close k [] = []
before_close zero (f ∷ later) = cond (is_leaving f) [] (f ∷ before_close zero later)
before_close (suc k) (f ∷ later) = f ∷ cond (is_leaving f) (before_close k later) (before_close (suc k) later)

-- Frames were put in the one order and leave in the other.
pub record KeepsOrder (put departing : List Frame) : Type 0 where
  -- each queue's frames leave in the order in which they were put
  pub queues : (queue : Queue) → queued queue departing ≡ queued queue put
  -- what was put before a connection.close or close-ok leaves before it
  pub closes :
      (k : ℕ) (queue : Queue)
      → IsPrefixOf (queued queue (before_close k put)) (queued queue (before_close k departing))

-- the output of an end that began with these octets, then put these frames, and wrote these octets
pub record IsOutputOf (opening : List ℕ) (put : List Frame) (written : List ℕ) (o : Output) : Type 0 where
  -- the frames of which the first octet is written, in the order in which they left
  pub begun : List Frame
  pub all_begun :
      (before later : List Frame) (f : Frame) → begun ≡ before ++ f ∷ later
      → length (opening ++ stream before) < length written
  pub octets_are : written ++ o.ahead ≡ opening ++ stream begun
  pub begun_on_is : o.begun_on ≡ begun_on_after 0 begun
  pub last_is : o.last ≡ last_after_all 0 begun
  pub arranged : IsArranged o.last o.row
  pub fit : AllFit (begun ++ o.row)
  pub order : KeepsOrder put (begun ++ o.row)

-- All octets of an end, written or not, are what it began with and then the frames that it put, in such an order.
pub record PutInOrder (opening octets : List ℕ) (put : List Frame) : Type 0 where
  pub departing : List Frame
  pub octets_are : octets ≡ opening ++ stream departing
  pub fit : AllFit departing
  pub order : KeepsOrder put departing

-- The order at one close: of a queue, what was put before the close leaves before it, and so does perhaps some of what
-- was put after it; only the rest of that leaves after it.
pub record LeavesAfter (earlier later before after : List Frame) (queue : Queue) : Type 0 where
  pub overtaking : List Frame
  pub before_is : queued queue before ≡ queued queue earlier ++ overtaking
  pub later_is : queued queue later ≡ overtaking ++ queued queue after

-- after a connection.close or close-ok nothing but these was put
abbrev pub LeavesLast : List Frame → Type 0
LeavesLast frames =
    (before after : List Frame) (f : Frame) → frames ≡ before ++ f ∷ after → is_leaving f ≡ true
    → All (λ g. is_leaving g ≡ true) after

-- All octets of an end, written or not, are what it began with and then the frames that it put, each channel's in
-- order, and no frame of a channel above 0 after a connection.close or close-ok.
pub record PutAs (opening octets : List ℕ) (put : List Frame) : Type 0 where
  pub departing : List Frame
  pub octets_are : octets ≡ opening ++ stream departing
  pub fit : AllFit departing
  pub each_channel : (channel : ℕ) → on channel departing ≡ on channel put
  pub closes_last :
      (before after : List Frame) (f : Frame) → departing ≡ before ++ f ∷ after
      → is_leaving f ≡ true → (channel : ℕ) → 0 < channel → on channel after ≡ []

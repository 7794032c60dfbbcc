-- Rows, worked out.
use Rattle.std.specs.Prelude.{◌≡◌, ℕ, true, false, List, [], ◌∷◌, length, drop, map}
use Rattle.amqp_frame.specs.declared.frames.FrameKind.TheVariants.{Method, Header, Body, Heartbeat}
use Rattle.amqp_frame.specs.Frame.{Frame, octets, frame_length}
use Rattle.amqp_model.specs.Output.Arrangement.{is_leaving, IsArranged, arranged}
use Rattle.amqp_model.specs.Output.Outputs.{Output, after_put, after_writing}

-- basic.publish to the exchange "" with the routing key "q" (`amqp0-9-1.xml`, class 60, method 40)
abbrev publish : (channel : ℕ) → Frame
publish channel =
    record {
      kind = Method;
      channel = channel;
      payload = 0 ∷ 60 ∷ 0 ∷ 40 ∷ 0 ∷ 0 ∷ 0
          ∷ 1 ∷ 113 ∷ 0 ∷ [];
    }

-- the header of a content of no properties, whose body has 256 a + b octets
abbrev header : (channel a b : ℕ) → Frame
header channel a b =
    record {
      kind = Header;
      channel = channel;
      payload = 0 ∷ 60 ∷ 0 ∷ 0 ∷ 0 ∷ 0 ∷ 0 ∷ 0 ∷ 0 ∷ 0 ∷ a
          ∷ b ∷ 0 ∷ 0 ∷ [];
    }

abbrev body : (channel : ℕ) → List ℕ → Frame
body channel payload = record { kind = Body; channel = channel; payload = payload }

-- tx.select (class 90, method 10)
abbrev select : (channel : ℕ) → Frame
select channel = record { kind = Method; channel = channel; payload = 0 ∷ 90 ∷ 0 ∷ 10 ∷ [] }

-- connection.close with the code 200 and the text "bye" (class 10, method 50)
abbrev pub close : Frame
close =
    record {
      kind = Method;
      channel = 0;
      payload = 0 ∷ 10 ∷ 0 ∷ 50 ∷ 0 ∷ 200 ∷ 3 ∷ 98 ∷ 121 ∷ 101
          ∷ 0 ∷ 0 ∷ 0 ∷ 0 ∷ [];
    }

-- connection.close-ok (class 10, method 51)
abbrev close_ok : Frame
close_ok = record { kind = Method; channel = 0; payload = 0 ∷ 10 ∷ 0 ∷ 51 ∷ [] }

-- connection.tune-ok for 2047 channels, frames of 131072 octets, and no heartbeat (class 10, method 31)
abbrev tune_ok : Frame
tune_ok =
    record {
      kind = Method;
      channel = 0;
      payload = 0 ∷ 10 ∷ 0 ∷ 31 ∷ 7 ∷ 255 ∷ 0 ∷ 2 ∷ 0
          ∷ 0 ∷ 0 ∷ 0 ∷ [];
    }

abbrev heartbeat : Frame
heartbeat = record { kind = Heartbeat; channel = 0; payload = [] }

-- Only a method frame on channel 0 with one of two methods leaves the connection.
abbrev pub LeavingOnes : Type 0
LeavingOnes =
    (is_leaving close ≡ true)
    × (is_leaving close_ok ≡ true)
    × (is_leaving tune_ok ≡ false)
    × (is_leaving heartbeat ≡ false)
    × (is_leaving (record { kind = Method; channel = 1; payload = close_ok.payload }) ≡ false)
    × (is_leaving (record { kind = Body; channel = 0; payload = close_ok.payload }) ≡ false)

-- After 65535 the count goes on at 1, and frames of channel 0 stand at the start and don't move LAST.
abbrev pub RoundTheTop : Type 0
RoundTheTop =
    (arranged 65534 (heartbeat ∷ close ∷ publish 1 ∷ publish 65535 ∷ tune_ok ∷ [])
    ≡ heartbeat ∷ tune_ok ∷ publish 65535 ∷ publish 1 ∷ close ∷ [])
    × (arranged 65535 (heartbeat ∷ close ∷ publish 1 ∷ publish 65535 ∷ tune_ok ∷ [])
    ≡ heartbeat ∷ tune_ok ∷ publish 1 ∷ publish 65535 ∷ close ∷ [])

-- a frame as its octets are counted, and its channel
pub data Sized : Type 0 where
  OctetsOn : (size channel : ℕ) → Sized

abbrev sizes : List Frame → List Sized
sizes frames = map (λ f. OctetsOn (frame_length f) f.channel) frames

-- After channel 2: a content of 4089 octets on channel 1, in frames of at most 4096 octets, one of no octets on
-- channel 2, and a close. The order in which they are put is not that in which they leave.
abbrev long_and_short : (most rest : List ℕ) → List Frame
long_and_short most rest =
    publish 1 ∷ header 1 15 249 ∷ body 1 most ∷ body 1 rest ∷ publish 2 ∷ header 2 0 0 ∷ close ∷ []

-- The long content lets the short one pass: these frames leave in this order, with these lengths.
abbrev pub LongAndShort : Type 0
LongAndShort =
    (most rest : List ℕ) → length most ≡ 4088 → length rest ≡ 1
    → (arranged 2 (long_and_short most rest)
    ≡ publish 1 ∷ publish 2 ∷ header 1 15 249 ∷ header 2 0 0 ∷ body 1 most ∷ body 1 rest ∷ close ∷ [])
    × (sizes (arranged 2 (long_and_short most rest))
    ≡ OctetsOn 18 1 ∷ OctetsOn 18 2 ∷ OctetsOn 22 1 ∷ OctetsOn 22 2 ∷ OctetsOn 4096 1
    ∷ OctetsOn 9 1 ∷ OctetsOn 22 0 ∷ [])
    × (IsArranged 2 (long_and_short most rest) → ⊥)

-- After channel 2: a content of no octets on channel 1, five octets written, and tx.select on channel 2. The frame
-- that is begun stays at the start.
abbrev begun_and_put : Output
begun_and_put =
    after_put (select 2) (after_writing 5 (after_put (header 1 0 0)
    (after_put (publish 1) (record { ahead = []; begun_on = 2; last = 2; row = [] }))))

-- The begun frame has 13 octets left, and tx.select comes before the header of channel 1.
abbrev pub BegunAndPut : Type 0
BegunAndPut =
    (begun_and_put ≡ record {
      ahead = drop 5 (octets (publish 1));
      begun_on = 1;
      last = 1;
      row = select 2 ∷ header 1 0 0 ∷ [];
    })
    × (length begun_and_put.ahead ≡ 13)
    × (sizes begun_and_put.row ≡ OctetsOn 12 2 ∷ OctetsOn 22 1 ∷ [])

-- The octets of a frame: AMQP 0-9-1 specification, section 4.2.3, "General Frame Format".
use Rattle.std.specs.Prelude.{ℕ, ◌+◌, ◌^◌, ◌<◌, List, [], ◌∷◌, ◌++◌, length, codes}
use Rattle.byteorder.specs.Endian.{big_bytes}
use Rattle.amqp_frame.specs.declared.frames.FrameKind.{FrameKind}
use Rattle.amqp_frame.specs.declared.frames.FrameKind.TheVariants.{Method, Header, Body, Heartbeat}
use Rattle.amqp_frame.specs.declared.frames.RawFrame.{RawFrame}
use Rattle.amqp_frame.specs.declared.frames.FrameRef.{FrameRef}

-- a frame, apart from where it lies in memory
pub record Frame : Type 0 where
  pub kind : FrameKind
  pub channel : ℕ
  pub payload : List ℕ

-- the type octet: 1 method, 2 content header, 3 content body, 8 heartbeat
abbrev pub type_octet : FrameKind → ℕ
type_octet Method = 1
type_octet Header = 2
type_octet Body = 3
type_octet Heartbeat = 8

-- the kind as it is printed
abbrev pub kind_name : FrameKind → List ℕ
kind_name Method = codes "method"
kind_name Header = codes "header"
kind_name Body = codes "body"
kind_name Heartbeat = codes "heartbeat"

-- the octet that ends a frame, CE
abbrev pub END : ℕ
END = 206

-- the octets before a payload: the type, the channel in two octets, the payload's size in four
abbrev pub header : FrameKind → (channel size : ℕ) → List ℕ
header kind channel size = type_octet kind ∷ (big_bytes 2 channel ++ big_bytes 4 size)

-- the type, the channel in two octets, the payload's size in four, the payload, and CE
unfoldable pub octets : Frame → List ℕ
octets f = type_octet f.kind ∷ (big_bytes 2 f.channel ++ (big_bytes 4 (length f.payload) ++ (f.payload ++ END ∷ [])))

-- the channel and the payload's size fit their fields
pub record Fits (f : Frame) : Type 0 where
  pub channel : f.channel < 2 ^ 16
  pub size : length f.payload < 2 ^ 32

-- how many octets a frame has: seven before the payload, and the end octet
abbrev pub frame_length : Frame → ℕ
frame_length f = length f.payload + 8

-- an owned frame
abbrev pub owned : RawFrame → Frame
owned f = record { kind = f.kind; channel = f.channel; payload = f.payload.items }

-- a frame whose payload is lent
abbrev pub lent : FrameRef → Frame
lent f = record { kind = f.kind; channel = f.channel; payload = f.payload.now }

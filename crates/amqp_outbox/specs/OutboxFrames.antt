-- The frames that an outbox is handed, and how their octets come about.
use Rattle.std.specs.Prelude.{◌≡◌, ℕ, List, Some, map}
use Rattle.amqp_frame.specs.Frame.{Frame}
use Rattle.amqp_method.specs.Properties.{ContentHeader}
use Rattle.amqp_model.specs.End.Asks.{payload_frame}
use Rattle.amqp_model.specs.Wire.Contents.{Header, Body, pieces}
use Rattle.amqp_model.specs.Wire.Methods.{header_at, plain_header}

-- the frame of a content header, plainly encoded
abbrev pub header_frame : (channel : ℕ) → ContentHeader → Frame
header_frame channel header = payload_frame channel (Header header.body_size header.properties)

-- what is written of the header reads as the header
abbrev pub HeaderReadsBack : ContentHeader → Type 0
HeaderReadsBack header = header_at (plain_header header) ≡ Some header

-- the frame of a part of a body
abbrev pub body_frame : (channel : ℕ) → List ℕ → Frame
body_frame channel part = payload_frame channel (Body part)

-- the frames of a body that is cut: each part as long as there is room, the last with what is left
abbrev pub body_frames : (channel room : ℕ) → (body : List ℕ) → List Frame
body_frames channel room body = map (body_frame channel) (pieces room body)

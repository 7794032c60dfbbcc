-- The frames of a message say the payloads that they were made of.
use Rattle.std.proofs.Common.{◌≡◌, ℕ, List, [], ◌∷◌, map, refl, ap}
use Rattle.amqp_model.specs.Wire.Frame.{Frame}
use Rattle.amqp_model.specs.Wire.Methods.{ReadsBack}
use Rattle.amqp_model.specs.Wire.Contents as contents
use Rattle.amqp_model.specs.Wire.Contents.{Payload, pieces, room_in}
use Rattle.amqp_model.specs.Wire.Readings.{method_reading, header_reading, reading, payload_of}
use Rattle.amqp_model.specs.End.Events.{Message, Plain, Whole}
use Rattle.amqp_model.specs.End.Asks.{Send, payload_frame, message_payloads, method_asked}
use Rattle.amqp_model.specs.End.ReadingBack.{header_of, HeaderAskedReadsBack}
use Rattle.amqp_model.specs.Laws.FittingLaws.{FramesSayPayloads}

-- what the frame of a payload says
abbrev said : (channel : ℕ) → Payload → Payload
said channel payload = payload_of (reading (payload_frame channel payload))

abbrev all_said : (channel : ℕ) → List Payload → List Payload
all_said channel payloads = map (λ (frame : Frame). payload_of (reading frame)) (map (payload_frame channel) payloads)

bodies-say : (channel : ℕ) (parts : List (List ℕ)) → all_said channel (map contents.Body parts)
    ≡ map contents.Body parts
bodies-say channel [] = refl
bodies-say channel (part ∷ parts) = ap (λ later. contents.Body part ∷ later) (bodies-say channel parts)

pub frames-say : FramesSayPayloads
frames-say max channel message back = by message back.method back.header
  where
    by : (message : Message) → ReadsBack (method_asked (Send channel message))
        → HeaderAskedReadsBack (Send channel message) → all_said channel (message_payloads max message)
        ≡ message_payloads max message
    by (Plain method) reads header = ap (λ read. payload_of (method_reading read) ∷ []) reads
    by (Whole content) reads header =
        let first : said channel (contents.Calls content.method) ≡ contents.Calls content.method =
        ap (λ read. payload_of (method_reading read)) reads in
        let second : said channel (contents.Header (header_of content).body_size content.properties)
        ≡ contents.Header (header_of content).body_size content.properties =
        ap (λ read. payload_of (header_reading read)) header in
        let later = bodies-say channel (pieces (room_in max) content.body) in
        rw (first, second, later) refl

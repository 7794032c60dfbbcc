-- A content whose frames are lent: its channel, and what the end is then.
use Rattle.std.proofs.Common.{◌≡◌, ℕ, List, [], ◌∷◌, map, refl}
use Rattle.std.proofs.lemmas.List.Elements.{All-nil, All-cons}
use Rattle.amqp_frame.specs.Frame.{Frame}
use Rattle.amqp_model.specs.End.Asks.{payload_frame}
use Rattle.amqp_model.specs.Wire.Contents.{Payload, Calls, Header, Body, Unread}
use Rattle.amqp_outbox.specs.LentContent.{AllOn}

frame_on : (channel : ℕ) (payload : Payload) → (payload_frame channel payload).channel ≡ channel
frame_on channel (Calls method) = refl
frame_on channel (Header size properties) = refl
frame_on channel (Body part) = refl
frame_on channel Unread = refl

pub frames_on : (channel : ℕ) (payloads : List Payload) → AllOn channel (map (payload_frame channel) payloads)
frames_on channel [] = All-nil (λ (f : Frame). f.channel ≡ channel)
frames_on channel (payload ∷ later) =
    All-cons (λ (f : Frame). f.channel ≡ channel) (payload_frame channel payload) (map (payload_frame channel) later) (frame_on channel payload)
    (frames_on channel later)

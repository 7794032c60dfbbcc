-- What a message that is put leaves of a channel: of a content only the method changes it.
use Rattle.std.proofs.Common.{◌≡◌, true, ℕ, List, [], ◌∷◌, map, length, Result, Ok, Err, OnOk, refl, ap, sym, ◌∙◌}
use Rattle.std.proofs.lemmas.Bool.{false≢true}
use Rattle.amqp_model.specs.End.Asks.{payload_frame, message_payloads}
use Rattle.amqp_model.specs.End.Channels.{Life, Channel, Open}
use Rattle.amqp_model.specs.End.Events.{Message, Plain, Whole, method_of}
use Rattle.amqp_model.specs.Wire.Contents as contents
use Rattle.amqp_model.specs.Wire.Contents.{pieces, room_in}
use Rattle.amqp_model.specs.Wire.Frame.{Frame}
use Rattle.amqp_model.specs.History.Histories.{PutHere}
use Rattle.amqp_model.specs.End.Machine.{channel_after}
use Rattle.amqp_model.specs.Wire.Methods.{Method, Properties}
use Rattle.amqp_model.specs.Wire.Notes.{Role, Client, Server}
use Rattle.amqp_model.specs.Wire.Readings.{Reading, Calls, HeaderOf, MalformedHeader, BodyOf}
use Rattle.amqp_channel.specs.Verdict.VerdictView.{IsPart}
use Rattle.amqp_channel.specs.Channels.Payloads.{after_payloads}
use Rattle.amqp_channel.specs.Channels.Used.{is_open_at}

part_stays : (role : Role) (frame : Frame) (reading : Reading) (life : Life) → IsPart reading → channel_after role (PutHere reading frame) (Open life) ≡ Open life
part_stays Client frame (HeaderOf size properties) life h = refl
part_stays Client frame MalformedHeader life h = refl
part_stays Client frame (BodyOf octets) life h = refl
part_stays Server frame (HeaderOf size properties) life h = refl
part_stays Server frame MalformedHeader life h = refl
part_stays Server frame (BodyOf octets) life h = refl
part_stays role frame reading life h = absurd h

bodies_stay : (role : Role) (number : ℕ) (parts : List (List ℕ)) (life : Life) → after_payloads role number (map contents.Body parts) (Open life) ≡ Open life
bodies_stay role number [] life = refl
bodies_stay role number (part ∷ parts) life =
    ap (after_payloads role number (map contents.Body parts)) (part_stays role (payload_frame number (contents.Body part)) (BodyOf part) life tt) ∙ bodies_stay role number parts life

content_stays : (role : Role) (number size : ℕ) (properties : Properties) (parts : List (List ℕ)) (life : Life) → after_payloads role number (contents.Header size properties ∷ map contents.Body parts) (Open life) ≡ Open life
content_stays role number size properties parts life =
    ap (after_payloads role number (map contents.Body parts)) (part_stays role (payload_frame number (contents.Header size properties)) (HeaderOf size properties) life tt) ∙ bodies_stay role number parts life

pub message_leaves : (role : Role) (number frame_max : ℕ) (message : Message) (before : Channel) (after : Life)
    → ((frame : Frame) → Open after ≡ channel_after role (PutHere (Calls (method_of message)) frame) before)
    → Open after ≡ after_payloads role number (message_payloads frame_max message) before
message_leaves role number frame_max (Plain method) before after h = h (payload_frame number (contents.Calls method))
message_leaves role number frame_max (Whole content) before after h =
    let parts = pieces (room_in frame_max) content.body in
    sym (content_stays role number (length content.body) content.properties parts after)
    ∙ ap (after_payloads role number (contents.Header (length content.body) content.properties ∷ map contents.Body parts)) (h (payload_frame number (contents.Calls content.method)))

-- the same of a call's result
pub message_goes : {A E : Type 0} (role : Role) (number : ℕ) (method : Method) (before after : Channel) (result : Result A E)
    → is_open_at after ≡ true
    → OnOk result ((frame : Frame) → after ≡ channel_after role (PutHere (Calls method) frame) before)
    → OnOk result ((frame_max : ℕ) (message : Message) → method_of message ≡ method → after ≡ after_payloads role number (message_payloads frame_max message) before)
message_goes role number method before (Open life) (Ok done) is_open h =
    λ frame_max message method_is. message_leaves role number frame_max message before life (λ frame. rw method_is (h frame))
message_goes role number method before after (Ok done) is_open h = absurd (false≢true is_open)
message_goes role number method before after (Err failed) is_open h = h

-- A body that is cut: part by part, and a message as payloads that read back.
use Rattle.std.proofs.Common.{◌≡◌, ◌<◌, ℕ, min, List, [], ◌∷◌, ◌++◌, map, length, take, drop, Option, Some, refl, ap, sym, ◌∙◌, append_assoc, append-nil}
use Rattle.amqp_method.specs.Properties.{header}
use Rattle.amqp_model.specs.End.Asks.{payload_frame, message_payloads}
use Rattle.amqp_model.specs.End.Closes.{method_frame}
use Rattle.amqp_model.specs.Wire.Contents.{Body, pieces, room_in}
use Rattle.amqp_model.specs.Wire.Frame.{Frame}
use Rattle.amqp_model.specs.Wire.Methods.{Method, Properties}
use Rattle.amqp_outbox.specs.OutboxFrames.{header_frame, body_frame}
use Rattle.amqp_outbox.specs.OutboxView.{Outgoing, with_staged}
use Rattle.amqp_channel.specs.Events.EventView.{message_by}
use Rattle.amqp_outbox.proofs.BodyParts.{pieces_none, cut_once}

-- A part that is staged.

pub part_staged : (staged : List Frame) (channel room size : ℕ) (rest part later : List ℕ) → 0 < room → 0 < length rest → size ≡ min (length rest) room
    → part ≡ take size rest → later ≡ drop size rest
    → (staged ++ body_frame channel part ∷ []) ++ map (body_frame channel) (pieces room later) ≡ staged ++ map (body_frame channel) (pieces room rest)
part_staged staged channel room size rest part later some more size_is part_is later_is =
    append_assoc staged (body_frame channel part ∷ []) (map (body_frame channel) (pieces room later))
    ∙ (ap (λ p. staged ++ body_frame channel p ∷ map (body_frame channel) (pieces room later)) part_is
    ∙ (ap (λ l. staged ++ body_frame channel (take size rest) ∷ map (body_frame channel) (pieces room l)) later_is
    ∙ ap (λ ps. staged ++ map (body_frame channel) ps) (sym (cut_once room size rest some more size_is))))

pub all_staged : (outbox old : Outgoing) (channel room : ℕ) (rest body : List ℕ) → 0 < room → rest ≡ [] → outbox.output ≡ old.output
    → outbox.staged ++ map (body_frame channel) (pieces room rest) ≡ old.staged ++ map (body_frame channel) (pieces room body)
    → outbox ≡ with_staged old (map (body_frame channel) (pieces room body))
all_staged outbox old channel room rest body some none output staged =
    let ended : map (body_frame channel) (pieces room rest) ≡ [] = ap (λ r. map (body_frame channel) (pieces room r)) none
    ∙ ap (map (body_frame channel)) (pieces_none room some) in
    ap (λ o. record { output = o; staged = outbox.staged }) output
    ∙ ap (λ l. record { output = old.output; staged = l }) (sym (append-nil outbox.staged) ∙ (ap (λ l. outbox.staged ++ l) (sym ended) ∙ staged))

-- A message that is staged: its method, its header and the parts of its body.

pub bodies_framed : (channel : ℕ) (parts : List (List ℕ)) → map (body_frame channel) parts ≡ map (payload_frame channel) (map Body parts)
bodies_framed channel [] = refl
bodies_framed channel (part ∷ parts) = ap (λ l. body_frame channel part ∷ l) (bodies_framed channel parts)

joined : (staged frames : List Frame) (first second : Frame) → ((staged ++ first ∷ []) ++ second ∷ []) ++ frames ≡ staged ++ first ∷ second ∷ frames
joined staged frames first second = append_assoc (staged ++ first ∷ []) (second ∷ []) frames ∙ append_assoc staged (first ∷ []) (second ∷ frames)

cut_staged : (old : Outgoing) (channel frame_max : ℕ) (method : Method) (properties : Properties) (body : List ℕ)
    → with_staged (with_staged (with_staged old (method_frame channel method ∷ [])) (header_frame channel (header (length body) properties) ∷ []))
    (map (body_frame channel) (pieces (room_in frame_max) body))
    ≡ with_staged old (map (payload_frame channel) (message_payloads frame_max (message_by method (Some properties) body)))
cut_staged old channel frame_max method properties body =
    ap (λ l. record { output = old.output; staged = l })
    (joined old.staged (map (body_frame channel) (pieces (room_in frame_max) body)) (method_frame channel method)
    (header_frame channel (header (length body) properties))
    ∙ ap (λ l. old.staged ++ method_frame channel method ∷ header_frame channel (header (length body) properties) ∷ l)
    (bodies_framed channel (pieces (room_in frame_max) body)))

pub message_staged : (old begun new : Outgoing) (channel frame_max : ℕ) (method called : Method) (there : Option Properties) (properties : Properties)
    (body sent : List ℕ)
    → called ≡ method → there ≡ Some properties → body ≡ sent
    → begun ≡ with_staged (with_staged old (method_frame channel called ∷ [])) (header_frame channel (header (length sent) properties) ∷ [])
    → new ≡ with_staged begun (map (body_frame channel) (pieces (room_in frame_max) sent))
    → new ≡ with_staged old (map (payload_frame channel) (message_payloads frame_max (message_by method there body)))
message_staged old begun new channel frame_max method called there properties body sent called_is there_is body_is begun_is new_is =
    rw (there_is, body_is)
    (new_is
    ∙ (ap (λ o. with_staged o (map (body_frame channel) (pieces (room_in frame_max) sent))) begun_is
    ∙ (ap (λ m. with_staged (with_staged (with_staged old (method_frame channel m ∷ [])) (header_frame channel (header (length sent) properties) ∷ []))
    (map (body_frame channel) (pieces (room_in frame_max) sent))) called_is
    ∙ cut_staged old channel frame_max method properties sent)))

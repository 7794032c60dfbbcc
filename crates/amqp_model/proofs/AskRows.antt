-- What comes of asks, computed: the whole answer of an end that is Running, at an agreed frame size of 4096 or of
-- 131072.
use Rattle.std.proofs.Common.{◌≡◌, true, false, cond, ◌==◌, nat_le, ℕ, List, [], ◌∷◌, map, length}
use Rattle.std.proofs.Common.{codes, replicate, Some, refl}
use Rattle.amqp_frame.specs.declared.frames.FrameKind.{FrameKind}
use Rattle.amqp_method.specs.declared.kinds.Kind.TheVariants as kinds
use Rattle.amqp_method.specs.Arguments.{Argument, bit, long, long_long, short_string}
use Rattle.amqp_model.specs.Wire.Frame.{Frame}
use Rattle.amqp_model.specs.Wire.Notes.{Role, Client, Server}
use Rattle.amqp_model.specs.Wire.Methods.{MethodKind, Method, plain_method, plain_header}
use Rattle.amqp_model.specs.End.Channels.{Life, Channel, Free, Opening, Closing, Open, new_life, Running, End}
use Rattle.amqp_model.specs.End.Closes.{without_arguments}
use Rattle.amqp_model.specs.End.Events.{Plain, Whole}
use Rattle.amqp_model.specs.End.Asks.{Refusal, Ask, AskVerdict, Refused, Puts, ask_verdict}

-- an end that is Running with ten channels at most, and these records of them
abbrev pub ten_channels : (frame_max : ℕ) → (ℕ → Channel) → End
ten_channels frame_max channels =
    record {
      phase = Running;
      agreed = Some (record { channel_max = 10; frame_max = frame_max; heartbeat = 0 });
      channels = channels;
    }

-- such an end with channel 1 Open in this life, and no other channel
abbrev pub open_on_1 : (frame_max : ℕ) → Life → End
open_on_1 frame_max life = ten_channels frame_max (λ number. cond (number == 1) (Open life) Free)

-- this is what comes of the ask, whichever of the two sizes was agreed
abbrev pub AtBothSizes : Role → (ℕ → End) → Ask → AskVerdict → Type 0
AtBothSizes role end ask verdict =
    (ask_verdict role (end 4096) ask ≡ verdict) × (ask_verdict role (end 131072) ask ≡ verdict)

-- the same of an end with channel 1 Open in this life
abbrev pub OnOpenChannel : Role → Life → Ask → AskVerdict → Type 0
OnOpenChannel role life ask verdict = AtBothSizes role (λ frame_max. open_on_1 frame_max life) ask verdict

-- a life with these requests, the oldest first, without a reply
abbrev asked_for : List MethodKind → Life
asked_for requests = record new_life { requests = requests }

-- a life in which the other end paused this one
abbrev pub paused_life : Life
paused_life = record new_life { paused = true }

-- a method is to be sent on channel 1
abbrev pub sends : Method → Ask
sends method = Ask.Send 1 (Plain method)

-- a content without properties is to be sent there
abbrev pub sends_content : MethodKind → List Argument → List ℕ → Ask
sends_content kind args body =
    Ask.Send 1 (Whole (record { method = record { kind = kind; args = args }; properties = []; body = body }))

-- a method frame, a header frame and a body frame of channel 1
abbrev pub method_of : List ℕ → Frame
method_of payload = record { kind = FrameKind.Method; channel = 1; payload = payload }

abbrev header_of : List ℕ → Frame
header_of payload = record { kind = FrameKind.Header; channel = 1; payload = payload }

abbrev body_of : List ℕ → Frame
body_of payload = record { kind = FrameKind.Body; channel = 1; payload = payload }

-- A client asks for one thing at a time: while a request waits it puts no other, but one that wants no reply.
second_request : OnOpenChannel Client (asked_for (kinds.TxSelect ∷ [])) (sends (without_arguments kinds.TxCommit))
    (Refused Refusal.ReplyPending)
unfolding plain_method
second_request = (refl, refl)

first_request : OnOpenChannel Client new_life (sends (without_arguments kinds.TxCommit))
    (Puts (method_of (0 ∷ 90 ∷ 0 ∷ 20 ∷ []) ∷ []))
unfolding plain_method
first_request = (refl, refl)

no_reply_wanted : OnOpenChannel Client (asked_for (kinds.TxSelect ∷ []))
    (sends (record { kind = kinds.ConfirmSelect; args = bit true ∷ [] }))
    (Puts (method_of (0 ∷ 85 ∷ 0 ∷ 10 ∷ 1 ∷ []) ∷ []))
unfolding plain_method
no_reply_wanted = (refl, refl)

-- A server replies to the oldest request that it keeps, and to nothing else.
reply_to_nothing : OnOpenChannel Server new_life (sends (without_arguments kinds.TxSelectOk))
    (Refused Refusal.NoSuchRequest)
unfolding plain_method
reply_to_nothing = (refl, refl)

reply_out_of_turn : OnOpenChannel Server (asked_for (kinds.TxCommit ∷ kinds.TxSelect ∷ []))
    (sends (without_arguments kinds.TxSelectOk)) (Refused Refusal.NoSuchRequest)
unfolding plain_method
reply_out_of_turn = (refl, refl)

reply_in_turn : OnOpenChannel Server (asked_for (kinds.TxCommit ∷ kinds.TxSelect ∷ []))
    (sends (without_arguments kinds.TxCommitOk)) (Puts (method_of (0 ∷ 90 ∷ 0 ∷ 21 ∷ []) ∷ []))
unfolding plain_method
reply_in_turn = (refl, refl)

-- A paused server begins no content but get-ok, which a get has to have asked for.

-- a delivery of two octets
abbrev deliver : Ask
deliver =
    sends_content kinds.BasicDeliver (short_string (codes "c") ∷ long_long 1 ∷ bit false ∷ short_string []
    ∷ short_string (codes "q") ∷ []) (codes "hi")

-- a get-ok of two octets
abbrev get_ok : Ask
get_ok =
    sends_content kinds.BasicGetOk (long_long 1 ∷ bit false ∷ short_string [] ∷ short_string (codes "q")
    ∷ long 0 ∷ []) (codes "hi")

-- the header of two octets of body
abbrev header_of_two : Frame
header_of_two = header_of (0 ∷ 60 ∷ 0 ∷ 0 ∷ 0 ∷ 0 ∷ 0 ∷ 0 ∷ 0 ∷ 0 ∷ 0 ∷ 2 ∷ 0 ∷ 0 ∷ [])

deliver_paused : OnOpenChannel Server paused_life deliver (Refused Refusal.Paused)
deliver_paused = (refl, refl)

deliver_active : OnOpenChannel Server new_life deliver
    (Puts (method_of (0 ∷ 60 ∷ 0 ∷ 60 ∷ 1 ∷ 99 ∷ 0 ∷ 0 ∷ 0 ∷ 0 ∷ 0 ∷ 0 ∷ 0 ∷ 1 ∷ 0 ∷ 0
    ∷ 1 ∷ 113 ∷ []) ∷ header_of_two ∷ body_of (104 ∷ 105 ∷ []) ∷ []))
unfolding plain_method plain_header
deliver_active = (refl, refl)

get_ok_paused : OnOpenChannel Server (record paused_life { requests = kinds.BasicGet ∷ [] }) get_ok
    (Puts (method_of (0 ∷ 60 ∷ 0 ∷ 71 ∷ 0 ∷ 0 ∷ 0 ∷ 0 ∷ 0 ∷ 0 ∷ 0 ∷ 1 ∷ 0 ∷ 0 ∷ 1 ∷ 113
    ∷ 0 ∷ 0 ∷ 0 ∷ 0 ∷ []) ∷ header_of_two ∷ body_of (104 ∷ 105 ∷ []) ∷ []))
unfolding plain_method plain_header
get_ok_paused = (refl, refl)

get_ok_unasked : OnOpenChannel Server paused_life get_ok (Refused Refusal.NoSuchRequest)
unfolding plain_method plain_header
get_ok_unasked = (refl, refl)

-- A content of a kind that the end may not send: Paused comes before NotSendable.

-- a publish to the exchange "" with the key "q"
abbrev publish : List ℕ → Ask
publish body =
    sends_content kinds.BasicPublish (short_string [] ∷ short_string (codes "q") ∷ bit false
    ∷ bit false ∷ []) body

publish_at_paused_server : OnOpenChannel Server paused_life (publish []) (Refused Refusal.Paused)
publish_at_paused_server = (refl, refl)

publish_at_server : OnOpenChannel Server new_life (publish []) (Refused Refusal.NotSendable)
publish_at_server = (refl, refl)

deliver_at_paused_client : OnOpenChannel Client paused_life deliver (Refused Refusal.Paused)
deliver_at_paused_client = (refl, refl)

deliver_at_client : OnOpenChannel Client new_life deliver (Refused Refusal.NotSendable)
deliver_at_client = (refl, refl)

-- A flow waits for the one before it to be answered, at either end.
second_flow_of_client : OnOpenChannel Client (record new_life { awaits = true }) (Ask.Flow 1 true)
    (Refused Refusal.FlowPending)
second_flow_of_client = (refl, refl)

second_flow_of_server : OnOpenChannel Server (record new_life { awaits = true }) (Ask.Flow 1 false)
    (Refused Refusal.FlowPending)
second_flow_of_server = (refl, refl)

first_flow : OnOpenChannel Server new_life (Ask.Flow 1 true)
    (Puts (method_of (0 ∷ 20 ∷ 0 ∷ 20 ∷ 1 ∷ []) ∷ []))
unfolding plain_method
first_flow = (refl, refl)

-- An open takes the lowest number that is Free, up to the agreed maximum, and a server asks for none.

-- number 7 Open and 8 Closing, the others up to ten Opening, and none above
abbrev ten_taken : ℕ → Channel
ten_taken number =
    cond (number == 7) (Open new_life) (cond (number == 8) Closing (cond (nat_le number 10) Opening Free))

ten_of_ten : AtBothSizes Client (λ frame_max. ten_channels frame_max ten_taken) Ask.Open
    (Refused Refusal.NoFreeChannel)
ten_of_ten = (refl, refl)

nine_of_ten : AtBothSizes Client
    (λ frame_max. ten_channels frame_max (λ number. cond (number == 7) Free (ten_taken number))) Ask.Open
    (Puts (record { kind = FrameKind.Method; channel = 7; payload = 0 ∷ 20 ∷ 0 ∷ 10 ∷ 0 ∷ [] } ∷ []))
unfolding plain_method
nine_of_ten = (refl, refl)

open_at_server : OnOpenChannel Server new_life Ask.Open (Refused Refusal.NotSendable)
open_at_server = (refl, refl)

-- A body of 4089 octets is one more than a frame of 4096 has room for.

-- the lengths of the payloads of the frames put
abbrev payload_lengths : AskVerdict → List ℕ
payload_lengths (Puts frames) = map (λ f. length f.payload) frames
payload_lengths (Refused refusal) = []

-- the kinds of the frames put
abbrev frame_kinds : AskVerdict → List FrameKind
frame_kinds (Puts frames) = map (λ f. f.kind) frames
frame_kinds (Refused refusal) = []

-- what comes of a client's publish of that body
abbrev published : (frame_max : ℕ) → AskVerdict
published frame_max = ask_verdict Client (open_on_1 frame_max new_life) (publish (replicate 4089 120))

long_body_in_small_frames : payload_lengths (published 4096) ≡ 10 ∷ 14 ∷ 4088 ∷ 1 ∷ []
unfolding plain_method plain_header
long_body_in_small_frames = refl

kinds_in_small_frames : frame_kinds (published 4096) ≡ FrameKind.Method ∷ FrameKind.Header
    ∷ FrameKind.Body ∷ FrameKind.Body ∷ []
unfolding plain_method plain_header
kinds_in_small_frames = refl

long_body_in_large_frames : payload_lengths (published 131072) ≡ 10 ∷ 14 ∷ 4089 ∷ []
unfolding plain_method plain_header
long_body_in_large_frames = refl

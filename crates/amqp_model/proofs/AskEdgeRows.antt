-- What comes of asks at the edges of each refusal, computed: both sides of each.
use Rattle.std.proofs.Common.{◌≡◌, true, false, cond, ◌==◌, ℕ, List, [], ◌∷◌, length, codes}
use Rattle.std.proofs.Common.{replicate, refl}
use Rattle.amqp_frame.specs.declared.frames.FrameKind.{FrameKind}
use Rattle.amqp_method.specs.declared.kinds.Kind.TheVariants as kinds
use Rattle.amqp_value.specs.Values.{Datum, pair, no_pairs}
use Rattle.amqp_method.specs.Arguments.{bit, short_string, table}
use Rattle.amqp_model.specs.Wire.Frame.{Frame}
use Rattle.amqp_model.specs.Wire.Notes.{Role, Client, Server}
use Rattle.amqp_model.specs.Wire.Methods.{Method, plain_method}
use Rattle.amqp_model.specs.End.Channels.{Free, Opening, Closing, Open, new_life, AwaitsOpenOk, Phase, Handshake}
use Rattle.amqp_model.specs.End.Channels.{Closed, Failed, End}
use Rattle.amqp_model.specs.End.Closes.{close_as, no_cause, flow_as, without_arguments}
use Rattle.amqp_model.specs.End.Events.{Plain}
use Rattle.amqp_model.specs.End.Asks.{Refusal, Ask, AskVerdict, Refused, Puts, ask_verdict}
use Rattle.amqp_model.proofs.AskRows.{ten_channels, open_on_1, AtBothSizes, OnOpenChannel, paused_life, sends}

-- a method frame of this channel
abbrev method_on : ℕ → List ℕ → Frame
method_on channel payload = record { kind = FrameKind.Method; channel = channel; payload = payload }

-- Nothing is asked of an end whose connection is not Running.

-- an end with channel 1 Open, in another phase
abbrev in_phase : Phase → ℕ → End
in_phase phase frame_max =
    record {
      phase = phase;
      agreed = (open_on_1 frame_max new_life).agreed;
      channels = (open_on_1 frame_max new_life).channels;
    }

abbrev IsNotRunning : Phase → Type 0
IsNotRunning phase =
    AtBothSizes Client (in_phase phase) (sends (without_arguments kinds.TxSelect)) (Refused Refusal.NotRunning)
    × AtBothSizes Client (in_phase phase) Ask.Open (Refused Refusal.NotRunning)
    × AtBothSizes Server (in_phase phase) (Ask.Flow 1 true) (Refused Refusal.NotRunning)
    × AtBothSizes Server (in_phase phase) (Ask.CloseChannel 1 200 [] no_cause) (Refused Refusal.NotRunning)
    × AtBothSizes Client (in_phase phase) (Ask.Close 200 [] no_cause) (Refused Refusal.NotRunning)
    × AtBothSizes Server (in_phase phase) (Ask.Blocked []) (Refused Refusal.NotRunning)
    × AtBothSizes Server (in_phase phase) Ask.Unblocked (Refused Refusal.NotRunning)

in_handshake : IsNotRunning (Handshake AwaitsOpenOk)
in_handshake = ((refl, refl), (refl, refl), (refl, refl), (refl, refl), (refl, refl), (refl, refl), (refl, refl))

in_closing : IsNotRunning Phase.Closing
in_closing = ((refl, refl), (refl, refl), (refl, refl), (refl, refl), (refl, refl), (refl, refl), (refl, refl))

in_closed : IsNotRunning Closed
in_closed = ((refl, refl), (refl, refl), (refl, refl), (refl, refl), (refl, refl), (refl, refl), (refl, refl))

in_failed : IsNotRunning Failed
in_failed = ((refl, refl), (refl, refl), (refl, refl), (refl, refl), (refl, refl), (refl, refl), (refl, refl))

-- The numbers of channels are those from 1 to the agreed maximum, ten here. A number that is none is refused before a
-- channel that is not Open.

-- an end with channel 10 Open, 2 Opening and 3 Closing
abbrev open_on_10 : ℕ → End
open_on_10 frame_max =
    ten_channels frame_max
    (λ number. cond (number == 10) (Open new_life) (cond (number == 2) Opening (cond (number == 3) Closing Free)))

abbrev OnChannels : Role → Ask → AskVerdict → Type 0
OnChannels role ask verdict = AtBothSizes role open_on_10 ask verdict

send_on_0 : OnChannels Client (Ask.Send 0 (Plain (without_arguments kinds.TxSelect))) (Refused Refusal.BadChannel)
send_on_0 = (refl, refl)

send_on_11 : OnChannels Client (Ask.Send 11 (Plain (without_arguments kinds.TxSelect))) (Refused Refusal.BadChannel)
send_on_11 = (refl, refl)

send_on_10 : OnChannels Client (Ask.Send 10 (Plain (without_arguments kinds.TxSelect)))
    (Puts (method_on 10 (0 ∷ 90 ∷ 0 ∷ 10 ∷ []) ∷ []))
unfolding plain_method
send_on_10 = (refl, refl)

flow_on_0 : OnChannels Server (Ask.Flow 0 true) (Refused Refusal.BadChannel)
flow_on_0 = (refl, refl)

flow_on_11 : OnChannels Server (Ask.Flow 11 true) (Refused Refusal.BadChannel)
flow_on_11 = (refl, refl)

flow_on_10 : OnChannels Server (Ask.Flow 10 false) (Puts (method_on 10 (0 ∷ 20 ∷ 0 ∷ 20 ∷ 0 ∷ []) ∷ []))
unfolding plain_method
flow_on_10 = (refl, refl)

close_on_0 : OnChannels Client (Ask.CloseChannel 0 200 [] no_cause) (Refused Refusal.BadChannel)
close_on_0 = (refl, refl)

close_on_11 : OnChannels Client (Ask.CloseChannel 11 200 [] no_cause) (Refused Refusal.BadChannel)
close_on_11 = (refl, refl)

-- A channel has to be Open.

send_on_free : OnChannels Client (Ask.Send 1 (Plain (without_arguments kinds.TxSelect))) (Refused Refusal.NotOpen)
send_on_free = (refl, refl)

send_on_opening : OnChannels Client (Ask.Send 2 (Plain (without_arguments kinds.TxSelect))) (Refused Refusal.NotOpen)
send_on_opening = (refl, refl)

flow_on_closing : OnChannels Server (Ask.Flow 3 true) (Refused Refusal.NotOpen)
flow_on_closing = (refl, refl)

close_on_closing : OnChannels Server (Ask.CloseChannel 3 200 [] no_cause) (Refused Refusal.NotOpen)
close_on_closing = (refl, refl)

-- The classes connection and channel are no messages, whoever may send the method.

connection_of_client : OnOpenChannel Client new_life (sends (without_arguments kinds.ConnectionCloseOk))
    (Refused Refusal.NotSendable)
connection_of_client = (refl, refl)

connection_of_server : OnOpenChannel Server new_life (sends (without_arguments kinds.ConnectionUnblocked))
    (Refused Refusal.NotSendable)
connection_of_server = (refl, refl)

channel_open : OnOpenChannel Client new_life (sends (without_arguments kinds.ChannelOpen)) (Refused Refusal.NotSendable)
channel_open = (refl, refl)

channel_flow : OnOpenChannel Server new_life (sends (flow_as kinds.ChannelFlow true)) (Refused Refusal.NotSendable)
channel_flow = (refl, refl)

channel_close : OnOpenChannel Client new_life (sends (close_as kinds.ChannelClose 200 [])) (Refused Refusal.NotSendable)
channel_close = (refl, refl)

-- Only a server tells that it is blocked.

blocked_by_client : OnOpenChannel Client new_life (Ask.Blocked (codes "low")) (Refused Refusal.NotSendable)
blocked_by_client = (refl, refl)

unblocked_by_client : OnOpenChannel Client new_life Ask.Unblocked (Refused Refusal.NotSendable)
unblocked_by_client = (refl, refl)

blocked_by_server : OnOpenChannel Server new_life (Ask.Blocked (codes "low"))
    (Puts (method_on 0 (0 ∷ 10 ∷ 0 ∷ 60 ∷ 3 ∷ 108 ∷ 111 ∷ 119 ∷ []) ∷ []))
unfolding plain_method
blocked_by_server = (refl, refl)

unblocked_by_server : OnOpenChannel Server new_life Ask.Unblocked
    (Puts (method_on 0 (0 ∷ 10 ∷ 0 ∷ 61 ∷ []) ∷ []))
unfolding plain_method
unblocked_by_server = (refl, refl)

-- A close has its code and its text, at either end, also where the end is paused.

-- 200 and "bye", of no method
abbrev bye_octets : List ℕ
bye_octets = 0 ∷ 200 ∷ 3 ∷ 98 ∷ 121 ∷ 101 ∷ 0 ∷ 0 ∷ 0 ∷ 0 ∷ []

close_channel_of_client : OnOpenChannel Client paused_life (Ask.CloseChannel 1 200 (codes "bye") no_cause)
    (Puts (method_on 1 (0 ∷ 20 ∷ 0 ∷ 40 ∷ bye_octets) ∷ []))
unfolding plain_method
close_channel_of_client = (refl, refl)

close_channel_of_server : OnChannels Server (Ask.CloseChannel 10 404 [] no_cause)
    (Puts (method_on 10 (0 ∷ 20 ∷ 0 ∷ 40 ∷ 1 ∷ 148 ∷ 0 ∷ 0 ∷ 0 ∷ 0 ∷ 0 ∷ []) ∷ []))
unfolding plain_method
close_channel_of_server = (refl, refl)

close_of_client : OnOpenChannel Client new_life (Ask.Close 200 (codes "bye") no_cause)
    (Puts (method_on 0 (0 ∷ 10 ∷ 0 ∷ 50 ∷ bye_octets) ∷ []))
unfolding plain_method
close_of_client = (refl, refl)

close_of_server : OnOpenChannel Server new_life (Ask.Close 320 (codes "x") no_cause)
    (Puts (method_on 0 (0 ∷ 10 ∷ 0 ∷ 50 ∷ 1 ∷ 64 ∷ 1 ∷ 120 ∷ 0 ∷ 0 ∷ 0 ∷ 0 ∷ []) ∷ []))
unfolding plain_method
close_of_server = (refl, refl)

-- A payload of 4088 octets just fills a frame of 4096, and one of 4089 does not fit.

-- a queue.declare with a table of one long string: nineteen octets and those of the string
abbrev declares : (octets : ℕ) → Method
declares octets =
    record {
      kind = kinds.QueueDeclare;
      args = short_string [] ∷ bit false ∷ bit false ∷ bit false ∷ bit false
          ∷ bit false ∷ table (pair (codes "a") (Datum.long_string (replicate octets 120)) no_pairs) ∷ [];
    }

declare_length : length (plain_method (declares 3)) ≡ 22
unfolding plain_method
declare_length = refl

-- the lengths of the payloads of the frames put
abbrev lengths_put : AskVerdict → List ℕ
lengths_put (Puts (frame ∷ [])) = length frame.payload ∷ []
lengths_put verdict = []

abbrev declared : (octets : ℕ) → AskVerdict
declared octets = ask_verdict Client (open_on_1 4096 new_life) (sends (declares octets))

declare_fits : lengths_put (declared 4069) ≡ 4088 ∷ []
unfolding plain_method
declare_fits = refl

declare_too_large : declared 4070 ≡ Refused Refusal.TooLarge
unfolding plain_method
declare_too_large = refl

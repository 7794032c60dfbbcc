-- Verdicts at the edges of each rule, computed: both sides of each.
use Rattle.std.proofs.Common.{◌≡◌, true, false, ℕ, List, [], ◌∷◌, map, codes, Some, None, refl}
use Rattle.amqp_method.specs.declared.kinds.Kind.TheVariants as kinds
use Rattle.amqp_value.specs.Values.{no_pairs}
use Rattle.amqp_model.specs.Wire.Notes.{Client, Server}
use Rattle.amqp_method.specs.Arguments.{bit, short, long, short_string}
use Rattle.amqp_model.specs.Wire.Readings.{Calls, MalformedMethod, UnknownMethod, HeaderOf, BodyOf, Beat}
use Rattle.amqp_model.specs.History.Histories.{PutHere}
use Rattle.amqp_model.specs.History.Negotiation.{Config, OfServer, start, start_ok, tune}
use Rattle.amqp_model.specs.End.Closes.{CloseCode, ContentTooLarge, FrameError, SyntaxError, CommandInvalid}
use Rattle.amqp_model.specs.End.Closes.{ChannelError, UnexpectedFrame, ResourceError, NotImplemented, without_arguments}
use Rattle.amqp_model.specs.End.Closes.{connection_close}
use Rattle.amqp_model.specs.End.Events.{ChannelClosed, ConnectionClosed, Discarded, FlowOk, Negotiated, Fatal}
use Rattle.amqp_model.specs.End.Events.{FrameVerdict, Proceeds, RefusesContent, Faults}
use Rattle.amqp_model.specs.End.Machine.{end_after, new_end}
use Rattle.amqp_model.proofs.VerdictRows.{Came, On, some_frame, verdicts, quietly, silently, closed_with, server_config}
use Rattle.amqp_model.proofs.VerdictRows.{client_config, calls, greeted, publish, no_properties, bye, closing_client}
use Rattle.amqp_model.proofs.VerdictRows.{open_client, asking_server, server_says, leaving_server, owes}

-- The limits that a client settles on: the smaller of its own, 8192 and 10, and the server's, where 0 means none.

-- what a client puts for a tune with these numbers
abbrev settles : (channel_max frame_max : ℕ) → (tune_ok_channels tune_ok_frame : ℕ) → Type 0
settles channel_max frame_max own_channels own_frame =
    verdicts Client client_config (new_end Client) (calls 0 kinds.ConnectionStart [] ∷ calls 0 kinds.ConnectionTune
    (short channel_max ∷ long frame_max ∷ short 60 ∷ []) ∷ []) ≡
    quietly (owes 0 (start_ok client_config) ∷ [])
    ∷ quietly (owes 0
    (record { kind = kinds.ConnectionTuneOk; args = short own_channels ∷ long own_frame ∷ short 0 ∷ [] })
    ∷ owes 0 (record { kind = kinds.ConnectionOpen; args = short_string (codes "/") ∷ [] }) ∷ []) ∷ []

no_limits : settles 0 0 10 8192
no_limits = refl

no_limit_of_channels : settles 0 4096 10 4096
no_limit_of_channels = refl

no_limit_of_frames : settles 5 0 5 8192
no_limit_of_frames = refl

both_smaller : settles 9 8191 9 8191
both_smaller = refl

both_equal : settles 10 8192 10 8192
both_equal = refl

both_greater : settles 11 8193 10 8192
both_greater = refl

greatest_frame : settles 65535 1048576 10 8192
greatest_frame = refl

-- The limits that a server accepts: up to its own, 131072 and 2047, and no frame below 4096.

-- what a server says to a tune-ok with these numbers
abbrev answers_tune_ok : (channel_max frame_max : ℕ) → FrameVerdict → Type 0
answers_tune_ok channel_max frame_max verdict =
    verdicts Server (server_config 8) (greeted 8) (calls 0 kinds.ConnectionStartOk [] ∷ calls 0 kinds.ConnectionTuneOk
    (short channel_max ∷ long frame_max ∷ short 0 ∷ []) ∷ [])
    ≡ quietly (owes 0 (tune (server_config 8)) ∷ []) ∷ verdict ∷ []

channels_at_most : answers_tune_ok 2047 131072 (quietly [])
channels_at_most = refl

channels_above : answers_tune_ok 2048 131072 (Faults Fatal)
channels_above = refl

channels_at_least : answers_tune_ok 1 131072 (quietly [])
channels_at_least = refl

frame_above : answers_tune_ok 2047 131073 (Faults Fatal)
frame_above = refl

frame_at_least : answers_tune_ok 2047 4096 (quietly [])
frame_at_least = refl

frame_below : answers_tune_ok 2047 4095 (Faults Fatal)
frame_below = refl

frame_of_none : answers_tune_ok 2047 0 (Faults Fatal)
frame_of_none = refl

-- a server of the greatest frames takes one
abbrev greatest_config : Config Server
greatest_config =
    record {
      frame_max = 1048576;
      channel_max = 65535;
      max_body = 8;
      heartbeat = 0;
      gated = false;
      hello = OfServer no_pairs [] [];
    }

greatest_taken : verdicts Server greatest_config
    (end_after Server greatest_config 0 (PutHere (Calls (start greatest_config)) (some_frame 0)) (new_end Server))
    (calls 0 kinds.ConnectionStartOk [] ∷ calls 0 kinds.ConnectionTuneOk (short 65535 ∷ long 1048576 ∷ short 0
    ∷ []) ∷ calls 0 kinds.ConnectionOpen [] ∷ []) ≡
    quietly (owes 0 (record { kind = kinds.ConnectionTune; args = short 65535 ∷ long 1048576 ∷ short 0 ∷ [] })
    ∷ []) ∷ quietly []
    ∷ Proceeds (Some (Negotiated (record { channel_max = 65535; frame_max = 1048576; heartbeat = 0 })))
    (owes 0 (without_arguments kinds.ConnectionOpenOk) ∷ []) ∷ []
greatest_taken = refl

-- What a client that is Running with ten channels at most and has channel 1 Open says.
abbrev client_says : List Came → List FrameVerdict
client_says frames = verdicts Client client_config open_client frames

connection_elsewhere : client_says (calls 1 kinds.ConnectionClose bye ∷ []) ≡ closed_with CommandInvalid ∷ []
connection_elsewhere = refl

blocked_elsewhere : client_says (calls 1 kinds.ConnectionBlocked (short_string [] ∷ []) ∷ [])
    ≡ closed_with CommandInvalid ∷ []
blocked_elsewhere = refl

class_on_zero : client_says (calls 0 kinds.BasicDeliver [] ∷ []) ≡ closed_with ChannelError ∷ []
class_on_zero = refl

misdirected : client_says (On 1 (Calls publish) ∷ []) ≡ closed_with CommandInvalid ∷ []
misdirected = refl

on_highest : client_says (calls 10 kinds.BasicDeliver [] ∷ []) ≡ closed_with ChannelError ∷ []
on_highest = refl

above_highest : client_says (calls 11 kinds.BasicDeliver [] ∷ []) ≡ closed_with ChannelError ∷ []
above_highest = refl

header_above_highest : client_says (On 11 (HeaderOf 0 no_properties) ∷ []) ≡ closed_with ChannelError ∷ []
header_above_highest = refl

secure_refused : client_says (calls 0 kinds.ConnectionSecure [] ∷ []) ≡ closed_with NotImplemented ∷ []
secure_refused = refl

-- On a channel that is Closing whatever comes is dropped, also what does not stand there or does not parse; but a
-- heartbeat stands on channel 0.
closing_drops : verdicts Client client_config closing_client (calls 1 kinds.ConnectionClose bye ∷ On 1 (Calls publish)
    ∷ On 1 UnknownMethod ∷ On 1 (BodyOf []) ∷ calls 1 kinds.ChannelFlow (bit true ∷ []) ∷ []) ≡
    Proceeds (Some (Discarded 1)) []
    ∷ Proceeds (Some (Discarded 1)) []
    ∷ Proceeds (Some (Discarded 1)) []
    ∷ Proceeds (Some (Discarded 1)) []
    ∷ Proceeds (Some (Discarded 1)) []
    ∷ []
closing_drops = refl

heartbeat_on_closing : verdicts Client client_config closing_client (On 1 (Beat true) ∷ [])
    ≡ closed_with FrameError ∷ []
heartbeat_on_closing = refl

-- A close that crosses the end's own is answered, on the channel and of the connection.
crossing_channel_close : verdicts Client client_config closing_client
    (calls 1 kinds.ChannelClose bye ∷ calls 1 kinds.ChannelCloseOk [] ∷ []) ≡
    quietly (owes 1 (without_arguments kinds.ChannelCloseOk) ∷ [])
    ∷ Proceeds (Some (ChannelClosed 1 None)) [] ∷ []
crossing_channel_close = refl

leaving_drops : verdicts Server (server_config 8) leaving_server (On 1 (Calls publish) ∷ On 3 (Beat true)
    ∷ On 0 MalformedMethod ∷ calls 9 kinds.ConnectionClose bye ∷ calls 0 kinds.ConnectionClose bye
    ∷ calls 0 kinds.ConnectionCloseOk [] ∷ []) ≡
    Proceeds (Some (Discarded 1)) []
    ∷ Proceeds (Some (Discarded 3)) []
    ∷ Proceeds (Some (Discarded 0)) []
    ∷ Proceeds (Some (Discarded 9)) []
    ∷ quietly (owes 0 (without_arguments kinds.ConnectionCloseOk) ∷ [])
    ∷ Proceeds (Some (ConnectionClosed None)) []
    ∷ []
leaving_drops = refl

-- A flow-ok is told with its own bit.
flow_ok_of_pause : verdicts Server (server_config 8) asking_server (calls 1 kinds.ChannelFlowOk (bit false ∷ [])
    ∷ []) ≡ Proceeds (Some (FlowOk 1 false)) [] ∷ []
flow_ok_of_pause = refl

-- A body of the greatest size is taken, and one of an octet more is refused.
greatest_body : server_says (On 1 (Calls publish) ∷ On 1 (HeaderOf 8 no_properties) ∷ [])
    ≡ silently ∷ silently ∷ []
greatest_body = refl

body_above_greatest : server_says (On 1 (Calls publish) ∷ On 1 (HeaderOf 9 no_properties) ∷ [])
    ≡ silently ∷ RefusesContent ∷ []
body_above_greatest = refl

-- The codes and the texts of the closes that an end puts of itself.
close_texts : map (λ (code : CloseCode). (connection_close code).method.args)
    (ContentTooLarge ∷ FrameError ∷ SyntaxError ∷ CommandInvalid ∷ ChannelError ∷ UnexpectedFrame
    ∷ ResourceError ∷ NotImplemented ∷ []) ≡
    (short 311 ∷ short_string (codes "content-too-large") ∷ short 0 ∷ short 0 ∷ [])
    ∷ (short 501 ∷ short_string (codes "frame-error") ∷ short 0 ∷ short 0 ∷ [])
    ∷ (short 502 ∷ short_string (codes "syntax-error") ∷ short 0 ∷ short 0 ∷ [])
    ∷ (short 503 ∷ short_string (codes "command-invalid") ∷ short 0 ∷ short 0 ∷ [])
    ∷ (short 504 ∷ short_string (codes "channel-error") ∷ short 0 ∷ short 0 ∷ [])
    ∷ (short 505 ∷ short_string (codes "unexpected-frame") ∷ short 0 ∷ short 0 ∷ [])
    ∷ (short 506 ∷ short_string (codes "resource-error") ∷ short 0 ∷ short 0 ∷ [])
    ∷ (short 540 ∷ short_string (codes "not-implemented") ∷ short 0 ∷ short 0 ∷ [])
    ∷ []
close_texts = refl

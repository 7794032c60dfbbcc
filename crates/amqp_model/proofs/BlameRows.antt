-- The rule that a frame breaks, computed: each rule of the verdict on a frame with a frame that breaks it.
use Rattle.std.proofs.Common.{◌≡◌, true, false, ℕ, List, [], ◌∷◌, replicate, Option, Some, None, refl}
use Rattle.amqp_frame.specs.declared.frames.FrameKind.{FrameKind}
use Rattle.amqp_method.specs.Kinds.{with_id}
use Rattle.amqp_method.specs.Reading as reading
use Rattle.amqp_method.specs.HeaderReading as header_reading
use Rattle.amqp_method.specs.Arguments.{Argument, bit, short, long, long_long}
use Rattle.amqp_method.specs.declared.faults.MethodFaultKind.TheVariants as faults
use Rattle.amqp_method.specs.declared.kinds.Kind.TheVariants as kinds
use Rattle.amqp_value.specs.declared.fault.ValueFaultKind.TheVariants as value
use Rattle.amqp_value.specs.Reading.{table_at, elements, many, named, after_tag, tagged, value_at}
use Rattle.amqp_value.specs.Values.{no_pairs}
use Rattle.amqp_model.specs.Wire.Notes.{Role, Client, Server}
use Rattle.amqp_model.specs.Wire.Methods.{MethodKind, Method, Properties, method_at, header_at, plain_method}
use Rattle.amqp_model.specs.Wire.Gathering.{Gathering, Nothing, HeaderDue, BodyDue}
use Rattle.amqp_model.specs.Wire.Readings.{Reading, Calls, UnknownMethod, MalformedMethod, HeaderOf, MalformedHeader}
use Rattle.amqp_model.specs.Wire.Readings.{BodyOf, Beat}
use Rattle.amqp_model.specs.End.Channels.{Channel, Free, Closing, Open, Phase, Handshake, Running, AwaitsStart}
use Rattle.amqp_model.specs.End.Channels.{AwaitsTune, AwaitsTuneOk, HoldsLogin}
use Rattle.amqp_model.specs.History.Negotiation.{Config, OfClient, OfServer}
use Rattle.amqp_model.specs.End.FrameVerdict.{Facts}
use Rattle.amqp_model.specs.End.Blame.{Rule, code_of, blamed, blame_on}

abbrev client_config : Config Client
client_config =
    record {
      frame_max = 8192;
      channel_max = 10;
      max_body = 8;
      heartbeat = 0;
      gated = false;
      hello = OfClient no_pairs [] [] [] [];
    }

abbrev server_config : Config Server
server_config =
    record {
      frame_max = 8192;
      channel_max = 10;
      max_body = 8;
      heartbeat = 0;
      gated = true;
      hello = OfServer no_pairs [] [];
    }

abbrev facts : {role : Role} → Config role → Phase → (number : ℕ) → Channel → Facts role
facts config phase number channel =
    record {
      config = config;
      phase = phase;
      agreed = Some (record { channel_max = 10; frame_max = 8192; heartbeat = 0 });
      number = number;
      channel = channel;
    }

abbrev open_with : Gathering → List MethodKind → Channel
open_with kept requests = Open (record { content = kept; paused = false; awaits = false; requests = requests })

abbrev calls : MethodKind → List Argument → Reading
calls kind args = Calls (record { kind = kind; args = args })

abbrev no_properties : Properties
no_properties = []

abbrev deliver : Method
deliver = record { kind = kinds.BasicDeliver; args = [] }

-- the rule that a client breaks, or a server, with this
abbrev Breaks : {role : Role} → Config role → Phase → (number : ℕ) → Channel → Reading → Rule
    → (code : Option ℕ) → Type 0
Breaks config phase number channel reading rule code =
    (blamed (facts config phase number channel) reading ≡ Some rule) × (code_of rule ≡ code)

-- Heartbeats, and methods that can't be read.
beat_on_1 : Breaks client_config Running 1 Free (Beat true) Rule.HeartbeatOffZero (Some 501)
beat_on_1 = (refl, refl)

full_beat : Breaks client_config Running 0 Free (Beat false) Rule.HeartbeatNotEmpty (Some 501)
full_beat = (refl, refl)

unknown : Breaks client_config Running 1 Free UnknownMethod Rule.MethodUnknown (Some 540)
unknown = (refl, refl)

malformed : Breaks client_config Running 1 Free MalformedMethod Rule.MethodMalformed (Some 502)
malformed = (refl, refl)

-- The handshake.
off_zero : Breaks client_config (Handshake AwaitsStart) 1 Free (calls kinds.ConnectionStart [])
    Rule.HandshakeOffZero (Some 503)
off_zero = (refl, refl)

no_method : Breaks client_config (Handshake AwaitsStart) 1 Free (BodyOf []) Rule.HandshakeNoMethod (Some 503)
no_method = (refl, refl)

secure : Breaks client_config (Handshake AwaitsTune) 0 Free (calls kinds.ConnectionSecure [])
    Rule.SecureNotThere (Some 540)
secure = (refl, refl)

out_of_order : Breaks client_config (Handshake AwaitsStart) 0 Free (calls kinds.ConnectionTune [])
    Rule.HandshakeOutOfOrder (Some 503)
out_of_order = (refl, refl)

-- whoever goes on while the server's application decides
unadmitted : Breaks server_config (Handshake HoldsLogin) 0 Free
    (calls kinds.ConnectionTuneOk (short 10 ∷ long 8192 ∷ short 0 ∷ [])) Rule.HandshakeOutOfOrder (Some 503)
unadmitted = (refl, refl)

tune_4095 : Breaks client_config (Handshake AwaitsTune) 0 Free
    (calls kinds.ConnectionTune (short 0 ∷ long 4095 ∷ short 0 ∷ [])) Rule.TuneTooSmall (Some 501)
tune_4095 = (refl, refl)

tune_ok_of_11 : Breaks server_config (Handshake AwaitsTuneOk) 0 Free
    (calls kinds.ConnectionTuneOk (short 11 ∷ long 8192 ∷ short 0 ∷ [])) Rule.TuneOkOutOfRange None
tune_ok_of_11 = (refl, refl)

-- Contents.
content_on_11 : Breaks client_config Running 11 Free (BodyOf []) Rule.ContentOffChannel (Some 504)
content_on_11 = (refl, refl)

content_on_free : Breaks client_config Running 1 Free (HeaderOf 1 no_properties) Rule.ContentNotOpen (Some 504)
content_on_free = (refl, refl)

header_malformed : Breaks client_config Running 1 (open_with (HeaderDue deliver) []) MalformedHeader
    Rule.HeaderMalformed (Some 502)
header_malformed = (refl, refl)

not_begun : Breaks client_config Running 1 (open_with Nothing []) (HeaderOf 1 no_properties)
    Rule.ContentNotBegun (Some 505)
not_begun = (refl, refl)

body_early : Breaks client_config Running 1 (open_with (HeaderDue deliver) []) (BodyOf []) Rule.BodyForHeader (Some 505)
body_early = (refl, refl)

header_again : Breaks client_config Running 1 (open_with (BodyDue deliver 2 no_properties []) [])
    (HeaderOf 2 no_properties) Rule.HeaderForBody (Some 505)
header_again = (refl, refl)

header_unread : Breaks client_config Running 1 (open_with (BodyDue deliver 2 no_properties []) []) MalformedHeader
    Rule.ContentUnread (Some 505)
header_unread = (refl, refl)

past_size : Breaks client_config Running 1 (open_with (BodyDue deliver 2 no_properties []) [])
    (BodyOf (1 ∷ 2 ∷ 3 ∷ [])) Rule.BodyPastSize (Some 501)
past_size = (refl, refl)

-- a header past the greatest body costs the channel, and is no fault
too_large : blamed (facts client_config Running 1 (open_with (HeaderDue deliver) []))
    (HeaderOf 9 no_properties) ≡ None
too_large = refl

-- Methods.
blocked_on_1 : Breaks client_config Running 1 Free (calls kinds.ConnectionBlocked []) Rule.ConnectionOffZero (Some 503)
blocked_on_1 = (refl, refl)

start_again : Breaks client_config Running 0 Free (calls kinds.ConnectionStart []) Rule.ConnectionOutOfOrder (Some 503)
start_again = (refl, refl)

misdirected : Breaks client_config Running 1 (open_with Nothing []) (calls kinds.BasicPublish [])
    Rule.MethodMisdirected (Some 503)
misdirected = (refl, refl)

on_11 : Breaks client_config Running 11 Free (Calls deliver) Rule.MethodOffChannel (Some 504)
on_11 = (refl, refl)

on_free : Breaks server_config Running 3 Free (calls kinds.BasicAck (long_long 1 ∷ bit false ∷ []))
    Rule.MethodNotOpen (Some 504)
on_free = (refl, refl)

ack_for_header : Breaks server_config Running 3
    (open_with (HeaderDue (record { kind = kinds.BasicPublish; args = [] })) [])
    (calls kinds.BasicAck (long_long 1 ∷ bit false ∷ [])) Rule.MethodForHeader (Some 505)
ack_for_header = (refl, refl)

ack_for_body : Breaks server_config Running 3
    (open_with (BodyDue (record { kind = kinds.BasicPublish; args = [] }) 1 no_properties []) [])
    (calls kinds.BasicAck (long_long 1 ∷ bit false ∷ [])) Rule.MethodForBody (Some 505)
ack_for_body = (refl, refl)

opened_again : Breaks server_config Running 1 (open_with Nothing []) (calls kinds.ChannelOpen [])
    Rule.OpenedAgain (Some 504)
opened_again = (refl, refl)

open_ok_again : Breaks client_config Running 1 (open_with Nothing []) (calls kinds.ChannelOpenOk [])
    Rule.ChannelOutOfOrder (Some 503)
open_ok_again = (refl, refl)

flow_ok : Breaks client_config Running 1 (open_with Nothing []) (calls kinds.ChannelFlowOk (bit true ∷ []))
    Rule.FlowOkUnasked (Some 503)
flow_ok = (refl, refl)

reply : Breaks client_config Running 1 (open_with Nothing (kinds.TxSelect ∷ [])) (calls kinds.TxCommitOk [])
    Rule.ReplyUnasked (Some 503)
reply = (refl, refl)

request_1025 : Breaks server_config Running 1 (open_with Nothing (replicate 1024 kinds.TxSelect))
    (calls kinds.TxSelect []) Rule.RequestTooMany (Some 506)
request_1025 = (refl, refl)

-- nothing is found where a channel closes, or the connection does
closing : blamed (facts client_config Running 1 Closing) MalformedMethod ≡ None
closing = refl

leaving : blamed (facts client_config Phase.Closing 1 Free) MalformedMethod ≡ None
leaving = refl

-- What is told of a fault: an ack of channel 3 where a header is due, and a channel.close whose text begins at octet 6
-- and ends early.
told_of_ack : blame_on
    (facts server_config Running 3 (open_with (HeaderDue (record { kind = kinds.BasicPublish; args = [] })) []))
    (record {
      kind = FrameKind.Method;
      channel = 3;
      payload = 0 ∷ 60 ∷ 0 ∷ 80 ∷ 0 ∷ 0 ∷ 0 ∷ 0 ∷ 0 ∷ 0
          ∷ 0 ∷ 1 ∷ 0 ∷ [];
    }) ≡
    Some (record { rule = Rule.MethodForHeader; channel = Some 3; called = Some kinds.BasicAck; field = None })
unfolding method_at header_at plain_method reading.method_at reading.args_at reading.field_at with_id
    header_reading.header_at header_reading.properties_at header_reading.optional_at table_at elements many
    named after_tag tagged value_at
told_of_ack = refl

told_of_close : blame_on (facts server_config Running 3 Free) (record {
  kind = FrameKind.Method;
  channel = 3;
  payload = 0 ∷ 20 ∷ 0 ∷ 40 ∷ 0 ∷ 0 ∷ 5 ∷ 97 ∷ 98 ∷ [];
}) ≡
    Some (record {
      rule = Rule.MethodMalformed;
      channel = Some 3;
      called = Some kinds.ChannelClose;
      field = Some (record { kind = faults.Value value.Ends; at = 6 });
    })
unfolding method_at header_at plain_method reading.method_at reading.args_at reading.field_at with_id
    header_reading.header_at header_reading.properties_at header_reading.optional_at table_at elements many
    named after_tag tagged value_at
told_of_close = refl

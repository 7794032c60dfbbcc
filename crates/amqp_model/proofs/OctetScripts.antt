-- What one end makes of octets that are fed to it, from octets to octets: each piece with what comes of it and what the
-- end then has to write, computed.
use Rattle.std.proofs.Common.{◌≡◌, false, cond, ℕ, ◌+◌, ◌-◌, ◌*◌, nat_lt, List, [], ◌∷◌}
use Rattle.std.proofs.Common.{◌++◌, replicate, codes, length, Some, None, refl}
use Rattle.amqp_frame.specs.Frame as frames
use Rattle.amqp_method.specs.declared.kinds.Kind.TheVariants as kinds
use Rattle.amqp_method.specs.Arguments.{bit, short_string}
use Rattle.amqp_method.specs.Kinds.{with_id}
use Rattle.amqp_method.specs.Reading as reading
use Rattle.amqp_method.specs.HeaderReading as header_reading
use Rattle.amqp_value.specs.Reading.{table_at, elements, many, named, after_tag, tagged, value_at}
use Rattle.amqp_value.specs.Values.{no_pairs}
use Rattle.amqp_model.specs.Wire.Methods.{Method, method_at, header_at, plain_method, plain_header}
use Rattle.amqp_model.specs.Wire.Notes.{Role, Client, Server}
use Rattle.amqp_model.specs.History.Negotiation.{Config, OfClient, OfServer}
use Rattle.amqp_model.specs.End.Closes.{FrameError, NotImplemented}
use Rattle.amqp_model.specs.End.Events.{Whole, Negotiated, Opened, Told, Discarded, Blocked, Quiet, Peer, Fatal}
use Rattle.amqp_model.specs.End.Events.{WrongProtocolHeader}
use Rattle.amqp_model.specs.Output.Outputs.{output_octets}
use Rattle.amqp_model.specs.Stream.Endpoint.{Endpoint, Feeding, Outcome, Unfinished, Finished, Found, new_endpoint}
use Rattle.amqp_model.specs.Stream.Endpoint.{after_feed, after_wrote}

-- hexadecimal digits as octets
abbrev digit : ℕ → ℕ
digit code = cond (nat_lt code 58) (code - 48) (code - 87)

abbrev pub hex : List ℕ → List ℕ
hex [] = []
hex (high ∷ []) = []
hex (high ∷ low ∷ later) = (16 * digit high + digit low) ∷ hex later

-- what came of a piece, and what is to be written then
data Line : Type 0 where
  line : Outcome → List ℕ → Line

-- all that there is to write is written after each piece
abbrev next_line : (role : Role) → Config role → Feeding → List (List ℕ)
    → (Endpoint → List Line) → List Line
next_line role config feeding later go =
    line feeding.outcome (output_octets feeding.endpoint.output)
    ∷ go (after_wrote (length (output_octets feeding.endpoint.output)) feeding.endpoint)

abbrev played : (role : Role) → Config role → List (List ℕ) → Endpoint → List Line
played role config [] endpoint = []
played role config (piece ∷ later) endpoint =
    next_line role config (after_feed role config endpoint piece) later (played role config later)

abbrev server_config : (max_body : ℕ) → Config Server
server_config max_body =
    record {
      frame_max = 131072;
      channel_max = 2047;
      max_body = max_body;
      heartbeat = 0;
      gated = false;
      hello = OfServer no_pairs (codes "PLAIN") (codes "en_US");
    }

abbrev server_lines : (max_body : ℕ) → List (List ℕ) → List Line
server_lines max_body pieces = played Server (server_config max_body) pieces (new_endpoint Server)

abbrev pub protocol_header : List ℕ
protocol_header = hex (codes "414d515000000901")

abbrev pub start_octets : List ℕ
start_octets = hex (codes "0100000000001c000a000a00090000000000000005504c41494e00000005656e5f5553ce")

abbrev pub start_ok_octets : List ℕ
start_ok_octets =
    hex (codes "01000000000024000a000b0000000005504c41494e0000000c006775657374006775657374" ++ codes "05656e5f5553ce")

abbrev pub tune_octets : List ℕ
tune_octets = hex (codes "0100000000000c000a001e07ff000200000000ce")

-- The server's handshake, and a channel opened.
abbrev handshake : List (List ℕ)
handshake =
    protocol_header
    ∷ start_ok_octets
    ∷ hex (codes "0100000000000c000a001f07ff000200000000ce")
    ∷ hex (codes "01000000000008000a0028012f0000ce")
    ∷ hex (codes "010001000000050014000a00ce")
    ∷ []

abbrev handshake_lines : List Line
handshake_lines =
    line (Finished (Some Quiet)) start_octets
    ∷ line (Finished (Some Quiet)) tune_octets
    ∷ line (Finished (Some Quiet)) []
    ∷ line (Finished (Some (Negotiated (record { channel_max = 2047; frame_max = 131072; heartbeat = 0 }))))
    (hex (codes "01000000000005000a002900ce"))
    ∷ line (Finished (Some (Opened 1))) (hex (codes "010001000000080014000b00000000ce"))
    ∷ []

server_handshake : server_lines 16777216 handshake ≡ handshake_lines
unfolding method_at header_at plain_method plain_header frames.octets reading.method_at reading.args_at reading.field_at
    with_id header_reading.header_at header_reading.properties_at header_reading.optional_at table_at elements many
    named after_tag tagged value_at
server_handshake = refl

-- A content of two octets, with a heartbeat and another channel's open between its frames.
abbrev content_pieces : List (List ℕ)
content_pieces =
    hex (codes "0100010000000a003c0028000000017100ce")
    ∷ hex (codes "08000000000000ce")
    ∷ hex (codes "0200010000000e003c000000000000000000020000ce")
    ∷ hex (codes "010002000000050014000a00ce")
    ∷ hex (codes "030001000000026869ce")
    ∷ []

abbrev publish : Method
publish =
    record {
      kind = kinds.BasicPublish;
      args = short_string [] ∷ short_string (codes "q")
          ∷ bit false ∷ bit false ∷ [];
    }

server_content : server_lines 16777216 (handshake ++ content_pieces) ≡
    handshake_lines
    ++ line (Finished None) []
    ∷ line (Finished (Some Quiet)) []
    ∷ line (Finished None) []
    ∷ line (Finished (Some (Opened 2))) (hex (codes "010002000000080014000b00000000ce"))
    ∷ line (Finished
    (Some (Told 1 (Whole (record { method = publish; properties = replicate 14 None; body = codes "hi" }))))) [] ∷ []
unfolding method_at header_at plain_method plain_header frames.octets reading.method_at reading.args_at reading.field_at
    with_id header_reading.header_at header_reading.properties_at header_reading.optional_at table_at elements many
    named after_tag tagged value_at
server_content = refl

-- The same where the server takes no body above one octet.
server_content_refused : server_lines 1 (handshake ++ content_pieces) ≡
    handshake_lines
    ++ line (Finished None) []
    ∷ line (Finished (Some Quiet)) []
    ∷ line (Finished (Some (Discarded 1)))
    (hex (codes "0100010000001c00140028013711636f6e74656e742d746f6f2d6c6172676500000000ce"))
    ∷ line (Finished (Some (Opened 2))) (hex (codes "010002000000080014000b00000000ce"))
    ∷ line (Finished (Some (Discarded 1))) []
    ∷ []
unfolding method_at header_at plain_method plain_header frames.octets reading.method_at reading.args_at reading.field_at
    with_id header_reading.header_at header_reading.properties_at header_reading.optional_at table_at elements many
    named after_tag tagged value_at
server_content_refused = refl

-- A frame above 4096 octets before tune-ok is reported at the last octet of its size; one of 4096 is waited for.
too_large_told : server_lines 1 (protocol_header ∷ hex (codes "01000000000ff9") ∷ []) ≡
    line (Finished (Some Quiet)) start_octets
    ∷ line (Found (Peer FrameError)) (hex (codes "01000000000016000a003201f50b6672616d652d6572726f7200000000ce"))
    ∷ []
unfolding method_at header_at plain_method plain_header frames.octets reading.method_at reading.args_at reading.field_at
    with_id header_reading.header_at header_reading.properties_at header_reading.optional_at table_at elements many
    named after_tag tagged value_at
too_large_told = refl

longest_waited_for : server_lines 1 (protocol_header ∷ hex (codes "01000000000ff8") ∷ [])
    ≡ line (Finished (Some Quiet)) start_octets ∷ line Unfinished [] ∷ []
unfolding method_at header_at plain_method plain_header frames.octets reading.method_at reading.args_at reading.field_at
    with_id header_reading.header_at header_reading.properties_at header_reading.optional_at table_at elements many
    named after_tag tagged value_at
longest_waited_for = refl

-- A tune-ok out of range is not answered; another protocol header is answered with this one.
tune_ok_of_nothing : server_lines 1
    (protocol_header ∷ start_ok_octets ∷ hex (codes "0100000000000c000a001f0000000200000000ce") ∷ []) ≡
    line (Finished (Some Quiet)) start_octets ∷ line (Finished (Some Quiet)) tune_octets
    ∷ line (Found Fatal) [] ∷ []
unfolding method_at header_at plain_method plain_header frames.octets reading.method_at reading.args_at reading.field_at
    with_id header_reading.header_at header_reading.properties_at header_reading.optional_at table_at elements many
    named after_tag tagged value_at
tune_ok_of_nothing = refl

another_header : server_lines 1 (hex (codes "414d515000000800") ∷ [])
    ≡ line (Found WrongProtocolHeader) protocol_header ∷ []
another_header = refl

-- an unknown method costs the connection
unknown_method : server_lines 1 (handshake ++ hex (codes "01000000000004000a0046ce") ∷ []) ≡
    handshake_lines ++ line (Found (Peer NotImplemented))
    (hex (codes "0100000000001a000a0032021c0f6e6f742d696d706c656d656e74656400000000ce")) ∷ []
unfolding method_at header_at plain_method plain_header frames.octets reading.method_at reading.args_at reading.field_at
    with_id header_reading.header_at header_reading.properties_at header_reading.optional_at table_at elements many
    named after_tag tagged value_at
unknown_method = refl

-- A client that takes frames of 8192 octets and ten channels: its protocol header is written at first.
abbrev client_config : Config Client
client_config =
    record {
      frame_max = 8192;
      channel_max = 10;
      max_body = 16777216;
      heartbeat = 0;
      gated = false;
      hello = OfClient no_pairs (codes "PLAIN") (hex (codes "006775657374006775657374")) (codes "en_US") (codes "/");
    }

abbrev client_lines : List (List ℕ) → List Line
client_lines pieces =
    line Unfinished (output_octets (new_endpoint Client).output) ∷ played Client client_config pieces
    (after_wrote 8 (new_endpoint Client))

client_handshake : client_lines (start_octets ∷ tune_octets ∷ hex (codes "01000000000005000a002900ce")
    ∷ hex (codes "01000000000008000a003c036c6f77ce") ∷ []) ≡
    line Unfinished protocol_header
    ∷ line (Finished (Some Quiet)) start_ok_octets
    ∷ line (Finished (Some Quiet))
    (hex (codes "0100000000000c000a001f000a000020000000ce" ++ codes "01000000000008000a0028012f0000ce"))
    ∷ line (Finished (Some (Negotiated (record { channel_max = 10; frame_max = 8192; heartbeat = 0 })))) []
    ∷ line (Finished (Some (Blocked (codes "low")))) []
    ∷ []
unfolding method_at header_at plain_method plain_header frames.octets reading.method_at reading.args_at reading.field_at
    with_id header_reading.header_at header_reading.properties_at header_reading.optional_at table_at elements many
    named after_tag tagged value_at
client_handshake = refl

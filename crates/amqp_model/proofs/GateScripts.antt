-- A gated handshake from octets to octets: each piece that is fed, and each heartbeat and decision, with what comes of
-- it and what the end then has to write, computed. Heartbeats that two ends settle, and what each end heard of the
-- other.
use Rattle.std.proofs.Common.{◌≡◌, true, false, List, ◌∷◌, [], ◌++◌, ℕ, replicate, codes, length, map}
use Rattle.std.proofs.Common.{Option, Some, None, refl}
use Rattle.amqp_frame.specs.Frame as frames
use Rattle.amqp_method.specs.Kinds.{with_id}
use Rattle.amqp_method.specs.Reading as reading
use Rattle.amqp_method.specs.HeaderReading as header_reading
use Rattle.amqp_method.specs.declared.kinds.Kind.TheVariants as kinds
use Rattle.amqp_value.specs.Reading.{table_at, elements, many, named, after_tag, tagged, value_at}
use Rattle.amqp_value.specs.Values.{no_pairs}
use Rattle.amqp_model.specs.Wire.Methods.{method_at, header_at, plain_method, plain_header}
use Rattle.amqp_model.specs.Wire.Notes.{Role, Client, Server}
use Rattle.amqp_model.specs.End.Channels.{Handshake, HoldsStart}
use Rattle.amqp_model.specs.History.Negotiation.{Config, OfClient, OfServer, start, start_ok, tune, tune_ok}
use Rattle.amqp_model.specs.History.Negotiation.{connection_open}
use Rattle.amqp_model.specs.End.Closes.{CommandInvalid}
use Rattle.amqp_model.specs.End.Events.{AnswerAsked, LoginAsked, OpenAsked, Negotiated, Opened, ConnectionClosed, Quiet}
use Rattle.amqp_model.specs.End.Events.{Peer}
use Rattle.amqp_model.specs.End.Asks.{Refusal, NotRunning, NotAwaited, TooLarge, AskVerdict, Refused, Puts}
use Rattle.amqp_model.specs.End.Controls.{Control, Beat, Admit, Refuse, AnswerStart, control_in, control_verdict}
use Rattle.amqp_model.specs.Output.Outputs.{output_octets}
use Rattle.amqp_model.specs.Stream.Endpoint.{Endpoint, Outcome, Finished, Found, new_endpoint, after_feed}
use Rattle.amqp_model.specs.Stream.Endpoint.{after_control, after_wrote}
use Rattle.amqp_model.specs.End.Heard.{heard}
use Rattle.amqp_model.specs.Laws.PairExample.{example_client, example_server, settled_example}
use Rattle.amqp_model.proofs.OctetScripts.{hex, protocol_header, start_octets, start_ok_octets, tune_octets}
use Rattle.amqp_model.proofs.PairExample.{s4, c3}

-- octets that are fed, or what the application does
data Step : Type 0 where
  Feeds : List ℕ → Step
  Does : Control → Step

-- what came of it, with what is to be written then
data Line : Type 0 where
  came : Outcome → List ℕ → Line
  puts : List ℕ → Line
  refuses : Refusal → Line

-- all that there is to write is written after each step
abbrev written : Endpoint → Endpoint
written endpoint = after_wrote (length (output_octets endpoint.output)) endpoint

abbrev line_of : AskVerdict → Endpoint → Line
line_of (Refused refusal) after = refuses refusal
line_of (Puts frames) after = puts (output_octets after.output)

abbrev played : (role : Role) → Config role → List Step → Endpoint → List Line
played role config [] endpoint = []
played role config (Feeds piece ∷ later) endpoint =
    came (after_feed role config endpoint piece).outcome
    (output_octets (after_feed role config endpoint piece).endpoint.output)
    ∷ played role config later (written (after_feed role config endpoint piece).endpoint)
played role config (Does control ∷ later) endpoint =
    line_of (control_verdict role config endpoint.end control) (after_control role config endpoint control)
    ∷ played role config later (written (after_control role config endpoint control))

-- what is left after it
abbrev left : (role : Role) → Config role → List Step → Endpoint → Endpoint
left role config [] endpoint = endpoint
left role config (Feeds piece ∷ later) endpoint =
    left role config later (written (after_feed role config endpoint piece).endpoint)
left role config (Does control ∷ later) endpoint =
    left role config later (written (after_control role config endpoint control))

-- A server that waits for its application, and wants a heartbeat of a minute.
abbrev gated_server : Config Server
gated_server =
    record {
      frame_max = 131072;
      channel_max = 2047;
      max_body = 16777216;
      heartbeat = 60;
      gated = true;
      hello = OfServer no_pairs (codes "PLAIN") (codes "en_US");
    }

abbrev server_lines : List Step → List Line
server_lines steps = played Server gated_server steps (new_endpoint Server)

-- tune with 60 seconds, and tune-ok with 10
abbrev tune_60 : List ℕ
tune_60 = hex (codes "0100000000000c000a001e07ff00020000003cce")

abbrev tune_ok_10 : List ℕ
tune_ok_10 = hex (codes "0100000000000c000a001f07ff00020000000ace")

abbrev open_octets : List ℕ
open_octets = hex (codes "01000000000008000a0028012f0000ce")

abbrev open_ok_octets : List ℕ
open_ok_octets = hex (codes "01000000000005000a002900ce")

abbrev heartbeat_octets : List ℕ
heartbeat_octets = hex (codes "08000000000000ce")

abbrev close_ok_octets : List ℕ
close_ok_octets = hex (codes "01000000000004000a0033ce")

-- the login is admitted, and then the open; before that no heartbeat is put, and nothing more is to be admitted
abbrev admitted : List Step
admitted =
    Feeds protocol_header
    ∷ Does Admit
    ∷ Feeds start_ok_octets
    ∷ Does Beat
    ∷ Feeds heartbeat_octets
    ∷ Does Admit
    ∷ Does Admit
    ∷ Feeds tune_ok_10
    ∷ Feeds open_octets
    ∷ Does Admit
    ∷ Does Beat
    ∷ Does (Refuse 530 (codes "NOT_ALLOWED"))
    ∷ Feeds (hex (codes "010001000000050014000a00ce"))
    ∷ []

login_admitted : server_lines admitted ≡
    came (Finished (Some Quiet)) start_octets
    ∷ refuses NotAwaited
    ∷ came (Finished (Some LoginAsked)) []
    ∷ refuses NotRunning
    ∷ came (Finished (Some Quiet)) []
    ∷ puts tune_60
    ∷ refuses NotAwaited
    ∷ came (Finished (Some Quiet)) []
    ∷ came (Finished (Some OpenAsked)) []
    ∷ puts open_ok_octets
    ∷ puts heartbeat_octets
    ∷ refuses NotAwaited
    ∷ came (Finished (Some (Opened 1))) (hex (codes "010001000000080014000b00000000ce"))
    ∷ []
unfolding method_at header_at plain_method plain_header frames.octets reading.method_at reading.args_at reading.field_at
    with_id header_reading.header_at header_reading.properties_at header_reading.optional_at table_at elements many
    named after_tag tagged value_at
login_admitted = refl

heartbeat_of_10 : (left Server gated_server admitted (new_endpoint Server)).end.agreed
    ≡ Some (record { channel_max = 2047; frame_max = 131072; heartbeat = 10 })
unfolding method_at header_at plain_method plain_header frames.octets reading.method_at reading.args_at reading.field_at
    with_id header_reading.header_at header_reading.properties_at header_reading.optional_at table_at elements many
    named after_tag tagged value_at
heartbeat_of_10 = refl

-- a login refused with 403: the client answers the close
abbrev turned_away : List Step
turned_away =
    Feeds protocol_header ∷ Feeds start_ok_octets ∷ Does (Refuse 403 (codes "ACCESS_REFUSED")) ∷ Does Admit
    ∷ Does Beat ∷ Feeds close_ok_octets ∷ Does Admit ∷ []

login_refused : server_lines turned_away ≡
    came (Finished (Some Quiet)) start_octets
    ∷ came (Finished (Some LoginAsked)) []
    ∷ puts (hex (codes "01000000000019000a003201930e4143434553535f5245465553454400000000ce"))
    ∷ refuses NotAwaited
    ∷ refuses NotRunning
    ∷ came (Finished (Some (ConnectionClosed None))) []
    ∷ refuses NotAwaited
    ∷ []
unfolding method_at header_at plain_method plain_header frames.octets reading.method_at reading.args_at reading.field_at
    with_id header_reading.header_at header_reading.properties_at header_reading.optional_at table_at elements many
    named after_tag tagged value_at
login_refused = refl

-- an open refused with 530
open_refused : server_lines (Feeds protocol_header ∷ Feeds start_ok_octets ∷ Does Admit ∷ Feeds tune_ok_10
    ∷ Feeds open_octets ∷ Does (Refuse 530 (codes "NOT_ALLOWED")) ∷ Feeds close_ok_octets ∷ []) ≡
    came (Finished (Some Quiet)) start_octets
    ∷ came (Finished (Some LoginAsked)) []
    ∷ puts tune_60
    ∷ came (Finished (Some Quiet)) []
    ∷ came (Finished (Some OpenAsked)) []
    ∷ puts (hex (codes "01000000000016000a003202120b4e4f545f414c4c4f57454400000000ce"))
    ∷ came (Finished (Some (ConnectionClosed None))) []
    ∷ []
unfolding method_at header_at plain_method plain_header frames.octets reading.method_at reading.args_at reading.field_at
    with_id header_reading.header_at header_reading.properties_at header_reading.optional_at table_at elements many
    named after_tag tagged value_at
open_refused = refl

-- who doesn't wait for the answer is refused: a tune-ok before tune
tune_ok_unasked : server_lines (Feeds protocol_header ∷ Feeds start_ok_octets ∷ Feeds tune_ok_10 ∷ []) ≡
    came (Finished (Some Quiet)) start_octets
    ∷ came (Finished (Some LoginAsked)) []
    ∷ came (Found (Peer CommandInvalid))
    (hex (codes "0100000000001a000a003201f70f636f6d6d616e642d696e76616c696400000000ce")) ∷ []
unfolding method_at header_at plain_method plain_header frames.octets reading.method_at reading.args_at reading.field_at
    with_id header_reading.header_at header_reading.properties_at header_reading.optional_at table_at elements many
    named after_tag tagged value_at
tune_ok_unasked = refl

-- A server that is not gated answers at once, and has nothing to decide.
abbrev plain_server : Config Server
plain_server =
    record {
      frame_max = 131072;
      channel_max = 2047;
      max_body = 16777216;
      heartbeat = 0;
      gated = false;
      hello = OfServer no_pairs (codes "PLAIN") (codes "en_US");
    }

answers_at_once : played Server plain_server (Feeds protocol_header ∷ Feeds start_ok_octets ∷ Does Admit
    ∷ Does (Refuse 403 []) ∷ Feeds tune_ok_10 ∷ []) (new_endpoint Server) ≡
    came (Finished (Some Quiet)) start_octets
    ∷ came (Finished (Some Quiet)) tune_octets
    ∷ refuses NotAwaited
    ∷ refuses NotAwaited
    ∷ came (Finished (Some Quiet)) []
    ∷ []
unfolding method_at header_at plain_method plain_header frames.octets reading.method_at reading.args_at reading.field_at
    with_id header_reading.header_at header_reading.properties_at header_reading.optional_at table_at elements many
    named after_tag tagged value_at
answers_at_once = refl

-- it takes the heartbeat that tune-ok says, also where it proposed none
heartbeat_unasked : (left Server plain_server (Feeds protocol_header ∷ Feeds start_ok_octets ∷ Feeds tune_ok_10
    ∷ []) (new_endpoint Server)).end.agreed
    ≡ Some (record { channel_max = 2047; frame_max = 131072; heartbeat = 10 })
unfolding method_at header_at plain_method plain_header frames.octets reading.method_at reading.args_at reading.field_at
    with_id header_reading.header_at header_reading.properties_at header_reading.optional_at table_at elements many
    named after_tag tagged value_at
heartbeat_unasked = refl

-- A client that chooses its mechanism when it has seen the server's, and wants a heartbeat of so many seconds.
abbrev client_config : (heartbeat : ℕ) → Config Client
client_config heartbeat =
    record {
      frame_max = 8192;
      channel_max = 10;
      max_body = 16777216;
      heartbeat = heartbeat;
      gated = true;
      hello = OfClient no_pairs [] [] [] (codes "/");
    }

abbrev client_lines : (heartbeat : ℕ) → List Step → List Line
client_lines heartbeat steps = played Client (client_config heartbeat) steps (written (new_endpoint Client))

abbrev answers_external : Step
answers_external = Does (AnswerStart (codes "EXTERNAL") [] (codes "en_US"))

abbrev external_octets : List ℕ
external_octets = hex (codes "0100000000001b000a000b000000000845585445524e414c0000000005656e5f5553ce")

-- tune-ok with ten channels, frames of 8192 octets and so many seconds, and open
abbrev settles : List ℕ → List ℕ
settles heartbeat =
    hex (codes "0100000000000c000a001f000a00002000") ++ heartbeat ++ hex (codes "ce01000000000008000a0028012f0000ce")

mechanism_chosen : client_lines 10 (answers_external ∷ Feeds start_octets ∷ Does Admit ∷ answers_external
    ∷ answers_external ∷ Feeds tune_60 ∷ Feeds open_ok_octets ∷ Does Beat ∷ []) ≡
    refuses NotAwaited
    ∷ came (Finished (Some AnswerAsked)) []
    ∷ refuses NotAwaited
    ∷ puts external_octets
    ∷ refuses NotAwaited
    ∷ came (Finished (Some Quiet)) (settles (0 ∷ 10 ∷ []))
    ∷ came (Finished (Some (Negotiated (record { channel_max = 10; frame_max = 8192; heartbeat = 10 })))) []
    ∷ puts heartbeat_octets
    ∷ []
unfolding method_at header_at plain_method plain_header frames.octets reading.method_at reading.args_at reading.field_at
    with_id header_reading.header_at header_reading.properties_at header_reading.optional_at table_at elements many
    named after_tag tagged value_at
mechanism_chosen = refl

-- the server turns it away while it awaits tune
client_turned_away : client_lines 10 (Feeds start_octets ∷ answers_external
    ∷ Feeds (hex (codes "01000000000019000a003201930e4143434553535f5245465553454400000000ce")) ∷ []) ≡
    came (Finished (Some AnswerAsked)) []
    ∷ puts external_octets
    ∷ came (Finished (Some (ConnectionClosed (Some (record { code = 403; text = codes "ACCESS_REFUSED" })))))
    close_ok_octets ∷ []
unfolding method_at header_at plain_method plain_header frames.octets reading.method_at reading.args_at reading.field_at
    with_id header_reading.header_at header_reading.properties_at header_reading.optional_at table_at elements many
    named after_tag tagged value_at
client_turned_away = refl

-- of two heartbeats the smaller, and none where either wants none
none_against_60 : client_lines 0 (Feeds start_octets ∷ answers_external ∷ Feeds tune_60 ∷ []) ≡
    came (Finished (Some AnswerAsked)) [] ∷ puts external_octets ∷ came (Finished (Some Quiet))
    (settles (0 ∷ 0 ∷ [])) ∷ []
unfolding method_at header_at plain_method plain_header frames.octets reading.method_at reading.args_at reading.field_at
    with_id header_reading.header_at header_reading.properties_at header_reading.optional_at table_at elements many
    named after_tag tagged value_at
none_against_60 = refl

ten_against_none : client_lines 10 (Feeds start_octets ∷ answers_external ∷ Feeds tune_octets ∷ []) ≡
    came (Finished (Some AnswerAsked)) [] ∷ puts external_octets ∷ came (Finished (Some Quiet))
    (settles (0 ∷ 0 ∷ [])) ∷ []
unfolding method_at header_at plain_method plain_header frames.octets reading.method_at reading.args_at reading.field_at
    with_id header_reading.header_at header_reading.properties_at header_reading.optional_at table_at elements many
    named after_tag tagged value_at
ten_against_none = refl

-- An answer to start has to fit a frame of 4096 octets: a response of 4064 does, with a mechanism and a locale of five.
abbrev frame_lengths : AskVerdict → Option (List ℕ)
frame_lengths (Puts put) = Some (map frames.frame_length put)
frame_lengths (Refused refusal) = None

longest_answer : frame_lengths (control_in Client (client_config 0) (Handshake HoldsStart)
    (AnswerStart (codes "PLAIN") (replicate 4064 0) (codes "en_US"))) ≡ Some (4096 ∷ [])
unfolding plain_method
longest_answer = refl

too_long_answer : control_in Client (client_config 0) (Handshake HoldsStart)
    (AnswerStart (codes "PLAIN") (replicate 4065 0) (codes "en_US")) ≡ Refused TooLarge
unfolding plain_method
too_long_answer = refl

-- What each end heard of a whole handshake.

server_heard_login : heard Server example_server kinds.ConnectionStartOk s4 ≡ Some (start_ok example_client)
unfolding method_at header_at plain_method plain_header reading.method_at reading.args_at reading.field_at with_id
    header_reading.header_at header_reading.properties_at header_reading.optional_at table_at elements many
    named after_tag tagged value_at
server_heard_login = refl

server_heard_limits : heard Server example_server kinds.ConnectionTuneOk s4 ≡ Some (tune_ok settled_example)
unfolding method_at header_at plain_method plain_header reading.method_at reading.args_at reading.field_at with_id
    header_reading.header_at header_reading.properties_at header_reading.optional_at table_at elements many
    named after_tag tagged value_at
server_heard_limits = refl

server_heard_host : heard Server example_server kinds.ConnectionOpen s4 ≡ Some (connection_open example_client)
unfolding method_at header_at plain_method plain_header reading.method_at reading.args_at reading.field_at with_id
    header_reading.header_at header_reading.properties_at header_reading.optional_at table_at elements many
    named after_tag tagged value_at
server_heard_host = refl

client_heard_server : heard Client example_client kinds.ConnectionStart c3 ≡ Some (start example_server)
unfolding method_at header_at plain_method plain_header reading.method_at reading.args_at reading.field_at with_id
    header_reading.header_at header_reading.properties_at header_reading.optional_at table_at elements many
    named after_tag tagged value_at
client_heard_server = refl

client_heard_limits : heard Client example_client kinds.ConnectionTune c3 ≡ Some (tune example_server)
unfolding method_at header_at plain_method plain_header reading.method_at reading.args_at reading.field_at with_id
    header_reading.header_at header_reading.properties_at header_reading.optional_at table_at elements many
    named after_tag tagged value_at
client_heard_limits = refl

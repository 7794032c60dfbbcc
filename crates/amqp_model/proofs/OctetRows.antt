-- What one end makes of octets that are fed to it, computed.
use Rattle.std.proofs.Common.{◌≡◌, false, ℕ, List, [], ◌∷◌, codes, Some, None, refl}
use Rattle.amqp_value.specs.Values.{no_pairs}
use Rattle.amqp_model.specs.Wire.Notes.{Client, Server}
use Rattle.amqp_model.specs.Wire.Methods.{plain_method}
use Rattle.amqp_model.specs.End.Channels.{Free, Phase, Handshake, Running, Closed, Failed, AwaitsStartOk}
use Rattle.amqp_model.specs.History.Negotiation.{Config, OfServer, PROTOCOL_HEADER, start}
use Rattle.amqp_model.specs.End.Closes.{FrameError, method_frame, connection_close, frame_of}
use Rattle.amqp_model.specs.End.Events.{Quiet, Peer, Fatal, WrongProtocolHeader, AlreadyClosed, AlreadyFailed}
use Rattle.amqp_model.specs.Output.Outputs.{output_octets}
use Rattle.amqp_model.specs.Stream.Endpoint.{Endpoint, Feeding, Outcome, Unfinished, Finished, Found, output_of}
use Rattle.amqp_model.specs.Stream.Endpoint.{new_endpoint, after_feed}

abbrev server_config : Config Server
server_config =
    record {
      frame_max = 131072;
      channel_max = 2047;
      max_body = 16777216;
      heartbeat = 0;
      gated = false;
      hello = OfServer no_pairs (codes "PLAIN") (codes "en_US");
    }

abbrev fed_to : Endpoint → List ℕ → Feeding
fed_to endpoint piece = after_feed Server server_config endpoint piece

-- what came of a piece, how many of its octets were taken, the phase then, and the octets that are not whole yet
data Row : Type 0 where
  row_of : Outcome → (taken : ℕ) → Phase → (unfinished : List ℕ) → Row

abbrev seen : Feeding → Row
seen feeding = row_of feeding.outcome feeding.taken feeding.endpoint.end.phase feeding.endpoint.unfinished

-- The protocol header.

-- a server that has read it
abbrev greeted : Feeding
greeted = fed_to (new_endpoint Server) (65 ∷ 77 ∷ 81 ∷ 80 ∷ 0 ∷ 0 ∷ 9 ∷ 1 ∷ [])

header : seen greeted ≡ row_of (Finished (Some Quiet)) 8 (Handshake AwaitsStartOk) []
header = refl

header-output : greeted.endpoint.output ≡ record {
  ahead = [];
  begun_on = 0;
  last = 0;
  row = method_frame 0 (start server_config) ∷ [];
}
header-output = refl

-- octets after it are not looked at yet
header-first : fed_to (new_endpoint Server) (65 ∷ 77 ∷ 81 ∷ 80 ∷ 0 ∷ 0 ∷ 9 ∷ 1 ∷ 4 ∷ []) ≡ greeted
header-first = refl

-- in two pieces
abbrev first_half : Feeding
first_half = fed_to (new_endpoint Server) (65 ∷ 77 ∷ 81 ∷ [])

-- what it leaves
abbrev half_read : Endpoint
half_read = record { end = (new_endpoint Server).end; unfinished = 65 ∷ 77 ∷ 81 ∷ []; output = output_of [] }

header-begun : seen first_half ≡ row_of Unfinished 3 (new_endpoint Server).end.phase (65 ∷ 77 ∷ 81 ∷ [])
header-begun = refl

header-half : first_half.endpoint ≡ half_read
header-half = refl

header-cut : (fed_to half_read (80 ∷ 0 ∷ 0 ∷ 9 ∷ 1 ∷ [])).endpoint ≡ greeted.endpoint
header-cut = λ i. record { end = end i; unfinished = unfinished i; output = output i }
  where
    rest : Feeding
    rest = fed_to half_read (80 ∷ 0 ∷ 0 ∷ 9 ∷ 1 ∷ [])

    end : rest.endpoint.end ≡ greeted.endpoint.end
    end = refl

    unfinished : rest.endpoint.unfinished ≡ greeted.endpoint.unfinished
    unfinished = refl

    output : rest.endpoint.output ≡ greeted.endpoint.output
    output = refl

-- another protocol's header
abbrev mistaken : Feeding
mistaken = fed_to (new_endpoint Server) (65 ∷ 77 ∷ 81 ∷ 80 ∷ 0 ∷ 0 ∷ 8 ∷ [])

wrong-header : seen mistaken ≡ row_of (Found WrongProtocolHeader) 7 Failed []
wrong-header = refl

wrong-header-output : output_octets mistaken.endpoint.output ≡ PROTOCOL_HEADER
wrong-header-output = refl

-- a failed end takes nothing
failed-after : fed_to mistaken.endpoint (65 ∷ []) ≡ record {
  endpoint = mistaken.endpoint;
  taken = 0;
  outcome = Found AlreadyFailed;
}
failed-after = refl

-- a client has it to write
client-output : output_octets (new_endpoint Client).output ≡ PROTOCOL_HEADER
client-output = refl

-- Frames after the protocol header, of which none may have more than 4096 octets.

-- 4097 octets
abbrev passed : Feeding
passed = fed_to greeted.endpoint (1 ∷ 0 ∷ 0 ∷ 0 ∷ 0 ∷ 15 ∷ 249 ∷ 0 ∷ [])

above-limit : seen passed ≡ row_of (Found (Peer FrameError)) 7 Failed []
above-limit = refl

above-limit-output : passed.endpoint.output ≡ record {
  ahead = [];
  begun_on = 0;
  last = 0;
  row = method_frame 0 (start server_config) ∷ frame_of (connection_close FrameError) ∷ [];
}
unfolding plain_method
above-limit-output = refl

-- 4096 octets
at-limit : seen (fed_to greeted.endpoint (1 ∷ 0 ∷ 0 ∷ 0 ∷ 0 ∷ 15 ∷ 248 ∷ []))
    ≡ row_of Unfinished 7 (Handshake AwaitsStartOk) (1 ∷ 0 ∷ 0 ∷ 0 ∷ 0 ∷ 15 ∷ 248 ∷ [])
at-limit = refl

-- a type that there isn't
no-type : seen (fed_to greeted.endpoint (4 ∷ 0 ∷ [])) ≡ row_of (Found Fatal) 1 Failed []
no-type = refl

-- A heartbeat at an end that is Running.
abbrev running : Endpoint
running =
    record {
      end = record {
        phase = Running;
        agreed = Some (record { channel_max = 2047; frame_max = 131072; heartbeat = 0 });
        channels = λ number. Free;
      };
      unfinished = [];
      output = output_of [];
    }

heartbeat : fed_to running (8 ∷ 0 ∷ 0 ∷ 0 ∷ 0 ∷ 0 ∷ 0 ∷ 206 ∷ []) ≡ record {
  endpoint = running;
  taken = 8;
  outcome = Finished (Some Quiet);
}
heartbeat = refl

-- in two pieces
heartbeat-cut : fed_to (fed_to running (8 ∷ 0 ∷ 0 ∷ [])).endpoint (0 ∷ 0 ∷ 0 ∷ 0 ∷ 206 ∷ [])
    ≡ record { endpoint = running; taken = 5; outcome = Finished (Some Quiet) }
heartbeat-cut = refl

-- with another octet at its end
wrong-end : seen (fed_to running (8 ∷ 0 ∷ 0 ∷ 0 ∷ 0 ∷ 0 ∷ 0 ∷ 205 ∷ []))
    ≡ row_of (Found Fatal) 8 Failed []
wrong-end = refl

-- with a payload, which the standard doesn't allow
full-heartbeat : seen (fed_to running (8 ∷ 0 ∷ 0 ∷ 0 ∷ 0 ∷ 0 ∷ 1 ∷ 7 ∷ 206 ∷ []))
    ≡ row_of (Found (Peer FrameError)) 9 Failed []
full-heartbeat = refl

-- a closed end takes nothing, also no empty piece
abbrev closed : Endpoint
closed =
    record {
      end = record { phase = Closed; agreed = None; channels = λ number. Free };
      unfinished = [];
      output = output_of [];
    }

closed-empty : fed_to closed [] ≡ record { endpoint = closed; taken = 0; outcome = Found AlreadyClosed }
closed-empty = refl

-- The handshake of a connection: AMQP 0-9-1 specification, sections 2.2.4, 4.2.2 and 4.2.7, and `amqp0-9-1.xml`,
-- class connection. The order is protocol header, start, start-ok, tune, tune-ok, open, open-ok. An end that is gated
-- leaves what it answers to start, or to start-ok and open, to its application: that is this profile's.
use Rattle.std.specs.Prelude.{Bool, cond, not, ◌&&◌, ℕ, nat_lt, nat_le, ◌==◌, min, List, [], ◌∷◌}
use Rattle.std.specs.Prelude.{Option, Some, None}
use Rattle.amqp_method.specs.declared.kinds.Kind.TheVariants as kinds
use Rattle.amqp_value.specs.Values.{Pairs}
use Rattle.amqp_model.specs.Wire.Notes.{Role, Client, Server}
use Rattle.amqp_method.specs.Arguments.{octet, short, long, short_string, long_string, table}
use Rattle.amqp_model.specs.Wire.Methods.{Method, number_at}
use Rattle.amqp_model.specs.End.Channels.{Agreed}

-- what an end says of itself: the client's properties, mechanism, response, locale and virtual host, or the server's
-- properties, mechanisms and locales
pub data Hello : Role → Type 0 where
  OfClient : (properties : Pairs) (mechanism response locale virtual_host : List ℕ) → Hello Client
  OfServer : (properties : Pairs) (mechanisms locales : List ℕ) → Hello Server

-- how an end is set up: the greatest frame and the greatest channel number that it takes, the greatest body; the
-- heartbeat that it wants, in seconds, of which 0 is none; and whether it waits for its application in the handshake
pub record Config (role : Role) : Type 0 where
  pub frame_max : ℕ
  pub channel_max : ℕ
  pub max_body : ℕ
  pub heartbeat : ℕ
  pub gated : Bool
  pub hello : Hello role

-- "AMQP", then 0, 0, 9, 1
abbrev pub PROTOCOL_HEADER : List ℕ
PROTOCOL_HEADER = 65 ∷ 77 ∷ 81 ∷ 80 ∷ 0 ∷ 0 ∷ 9 ∷ 1 ∷ []

-- frames up to this size are taken before tune-ok, and no smaller one may be agreed
abbrev pub FRAME_MIN : ℕ
FRAME_MIN = 4096

-- the greatest frame that the end takes
abbrev pub frame_limit : Option Agreed → ℕ
frame_limit None = FRAME_MIN
frame_limit (Some agreed) = agreed.frame_max

abbrev start_by : Hello Server → Method
start_by (OfServer properties mechanisms locales) =
    record {
      kind = kinds.ConnectionStart;
      args = octet 0 ∷ octet 9 ∷ table properties ∷ long_string mechanisms ∷ long_string locales ∷ [];
    }

-- version 0, 9, and the server's hello
abbrev pub start : Config Server → Method
start config = start_by config.hello

abbrev start_ok_by : Hello Client → Method
start_ok_by (OfClient properties mechanism response locale virtual_host) =
    record {
      kind = kinds.ConnectionStartOk;
      args = table properties ∷ short_string mechanism ∷ long_string response ∷ short_string locale ∷ [];
    }

abbrev pub start_ok : Config Client → Method
start_ok config = start_ok_by config.hello

-- the client's properties, with a mechanism, a response and a locale that its application chose
abbrev start_ok_with : Hello Client → (mechanism response locale : List ℕ) → Method
start_ok_with (OfClient properties own_mechanism own_response own_locale virtual_host) mechanism response locale =
    start_ok_by (OfClient properties mechanism response locale virtual_host)

abbrev pub start_ok_choosing : Config Client → (mechanism response locale : List ℕ) → Method
start_ok_choosing config mechanism response locale = start_ok_with config.hello mechanism response locale

-- the server's own limits, and the heartbeat that it wants
abbrev pub tune : Config Server → Method
tune config =
    record {
      kind = kinds.ConnectionTune;
      args = short config.channel_max ∷ long config.frame_max ∷ short config.heartbeat ∷ [];
    }

-- the smaller of two limits, where the other end's 0 means none
abbrev pub smaller : (own others : ℕ) → ℕ
smaller own others = cond (others == 0) own (min own others)

-- what the client settles on a tune: of the two heartbeats the smaller, so that there is none where either wants none
abbrev pub settled : Config Client → Method → Agreed
settled config method =
    record {
      channel_max = smaller config.channel_max (number_at 0 method);
      frame_max = smaller config.frame_max (number_at 1 method);
      heartbeat = min config.heartbeat (number_at 2 method);
    }

-- a tune with a frame size that is given, and too small
abbrev pub tunes_too_small : Method → Bool
tunes_too_small method = not (number_at 1 method == 0) && nat_lt (number_at 1 method) FRAME_MIN

abbrev pub tune_ok : Agreed → Method
tune_ok agreed =
    record {
      kind = kinds.ConnectionTuneOk;
      args = short agreed.channel_max ∷ long agreed.frame_max ∷ short agreed.heartbeat ∷ [];
    }

-- what a tune-ok says
abbrev pub agreed_in : Method → Agreed
agreed_in method =
    record { channel_max = number_at 0 method; frame_max = number_at 1 method; heartbeat = number_at 2 method }

-- the server takes a tune-ok within its own limits, with any heartbeat
abbrev pub in_range : Config Server → Agreed → Bool
in_range config agreed =
    nat_lt 0 agreed.channel_max && nat_le agreed.channel_max config.channel_max && nat_le FRAME_MIN agreed.frame_max
    && nat_le agreed.frame_max config.frame_max

abbrev open_by : Hello Client → Method
open_by (OfClient properties mechanism response locale virtual_host) =
    record { kind = kinds.ConnectionOpen; args = short_string virtual_host ∷ [] }

abbrev pub connection_open : Config Client → Method
connection_open config = open_by config.hello

abbrev pub connection_open_ok : Method
connection_open_ok = record { kind = kinds.ConnectionOpenOk; args = [] }

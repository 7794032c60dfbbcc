-- How long the frame of a greeting is, of its table and its strings.
use Rattle.std.proofs.Common.{◌≡◌, false, ℕ, ◌+◌, List, length, sym, subst, arith, length-append}
use Rattle.amqp_value.specs.Plain.{plain_table}
use Rattle.amqp_value.specs.Values.{Pairs}
use Rattle.amqp_model.specs.Wire.Methods.{plain_method}
use Rattle.amqp_model.specs.History.Negotiation.{Hello, OfServer, Config}
use Rattle.amqp_model.specs.Wire.Notes.{Role, Server}
use Rattle.amqp_core.specs.Connection.HandshakeMethods.{greeting_length, start_ok_octets}

-- a configuration of a hello: a greeting needs no more
abbrev pub config_of : {role : Role} → Hello role → Config role
config_of hello = record { frame_max = 0; channel_max = 0; max_body = 0; heartbeat = 0; gated = false; hello = hello }

abbrev start_octets : (properties : Pairs) (mechanisms locales : List ℕ) → ℕ
start_octets properties mechanisms locales = 22 + (length (plain_table properties) + (length mechanisms + length locales))

start_length : (properties : Pairs) (mechanisms locales : List ℕ)
    → greeting_length Server (config_of (OfServer properties mechanisms locales)) ≡ start_octets properties mechanisms locales
unfolding plain_method
start_length properties mechanisms locales = simp length-append (omega arith)

pub start_ok-length : (properties : Pairs) (mechanism response locale : List ℕ)
    → start_ok_octets properties mechanism response locale
    ≡ 18 + (length (plain_table properties) + (length mechanism + length locale + length response))
unfolding plain_method
start_ok-length properties mechanism response locale = simp length-append (omega arith)

pub start-length : (config : Config Server) (properties : Pairs) (mechanisms locales : List ℕ)
    → config.hello ≡ OfServer properties mechanisms locales → greeting_length Server config ≡ start_octets properties mechanisms locales
start-length config properties mechanisms locales is =
    let P : Hello Server → Type 0 = λ hello. greeting_length Server (config_of hello) ≡ start_octets properties mechanisms locales in
    subst P (sym is) (start_length properties mechanisms locales)

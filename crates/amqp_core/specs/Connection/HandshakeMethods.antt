-- The methods that an end makes of what it is set up with, each of the fields alone that have a part in it.
use Rattle.std.specs.Prelude.{◌≡◌, ℕ, List, [], ◌∷◌}
use Rattle.amqp_frame.specs.Frame.{frame_length}
use Rattle.amqp_method.specs.Arguments.{long_string, short_string, table}
use Rattle.amqp_method.specs.declared.kinds.Kind.TheVariants as kinds
use Rattle.amqp_value.specs.Lengths.{capped}
use Rattle.amqp_value.specs.Tables.{table_view}
use Rattle.amqp_value.specs.Values.{Pairs}
use Rattle.amqp_model.specs.End.Closes.{method_frame}
use Rattle.amqp_model.specs.End.Fitting.{greeting}
use Rattle.amqp_model.specs.Wire.Methods.{Method}
use Rattle.amqp_model.specs.History.Negotiation as negotiation
use Rattle.amqp_model.specs.History.Negotiation.{Config}
use Rattle.amqp_model.specs.Wire.Notes.{Role, Client, Server}
use Rattle.amqp_core.specs.Config.Settings.{client_hello_view, hello_view, role_in, server_hello_view}
use Rattle.amqp_core.specs.declared.settings.ClientHello.{ClientHello}
use Rattle.amqp_core.specs.declared.settings.Hello.{Hello}
use Rattle.amqp_core.specs.declared.settings.ServerHello.{ServerHello}

-- the start of a server with this hello
abbrev pub IsStart : ServerHello → Method → Type 0
IsStart hello method =
    (config : Config Server) → config.hello ≡ server_hello_view hello → method ≡ negotiation.start config

-- the start-ok that says this
abbrev pub start_ok_saying : (properties : Pairs) (mechanism response locale : List ℕ) → Method
start_ok_saying properties mechanism response locale =
    record {
      kind = kinds.ConnectionStartOk;
      args = table properties ∷ short_string mechanism ∷ long_string response ∷ short_string locale ∷ [];
    }

-- the answer of a client with this hello to start, with what its application chose
abbrev pub start_ok_with : ClientHello → (mechanism response locale : List ℕ) → Method
start_ok_with hello mechanism response locale = start_ok_saying (table_view hello.properties) mechanism response locale

-- the open of a client with this hello
abbrev pub IsOpen : ClientHello → Method → Type 0
IsOpen hello method =
    (config : Config Client) → config.hello ≡ client_hello_view hello → method ≡ negotiation.connection_open config

-- the tune of a server with these limits and this heartbeat
abbrev pub IsTune : (channel_max frame_max heartbeat : ℕ) → Method → Type 0
IsTune channel_max frame_max heartbeat method =
    (config : Config Server) → config.channel_max ≡ channel_max → config.frame_max ≡ frame_max
    → config.heartbeat ≡ heartbeat
    → method ≡ negotiation.tune config

-- how long the frame of the method is that says what an end is: the client's start-ok, the server's start
abbrev pub greeting_length : (role : Role) → Config role → ℕ
greeting_length role config = frame_length (method_frame 0 (greeting role config))

-- how long it is for this hello, as a number of 64 bits
abbrev pub IsStartLength : ServerHello → ℕ → Type 0
IsStartLength hello octets =
    (config : Config Server) → config.hello ≡ server_hello_view hello → octets ≡ capped (greeting_length Server config)

-- the same for a hello of either role
abbrev pub IsGreetingLength : Hello → ℕ → Type 0
IsGreetingLength hello octets =
    (config : Config (role_in hello)) → config.hello ≡ hello_view hello
    → octets ≡ capped (greeting_length (role_in hello) config)

-- how long the frame of a start-ok is
abbrev pub start_ok_octets : (properties : Pairs) (mechanism response locale : List ℕ) → ℕ
start_ok_octets properties mechanism response locale =
    frame_length (method_frame 0 (start_ok_saying properties mechanism response locale))

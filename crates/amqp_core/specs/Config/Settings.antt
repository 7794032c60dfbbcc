-- What an end is set up with, in the words of the model.
use Rattle.std.specs.Prelude.{ℕ, false}
use Rattle.amqp_value.specs.Tables.{table_view}
use Rattle.amqp_model.specs.History.Negotiation as model
use Rattle.amqp_model.specs.Wire.Notes.{Role}
use Rattle.amqp_channel.specs.Roles.{role_of}
use Rattle.amqp_channel.specs.declared.side.Side.{Side}
use Rattle.amqp_channel.specs.declared.side.Side.TheVariants as side
use Rattle.amqp_core.specs.declared.settings.ClientHello.{ClientHello}
use Rattle.amqp_core.specs.declared.settings.ServerHello.{ServerHello}
use Rattle.amqp_core.specs.declared.settings.Hello.{Hello}
use Rattle.amqp_core.specs.declared.settings.Hello.TheVariants as code
use Rattle.amqp_core.specs.declared.settings.Settings.{Settings}

abbrev pub client_hello_view : ClientHello → model.Hello Role.Client
client_hello_view hello =
    model.OfClient (table_view hello.properties) hello.mechanism hello.response.items hello.locale hello.virtual_host

abbrev pub server_hello_view : ServerHello → model.Hello Role.Server
server_hello_view hello = model.OfServer (table_view hello.properties) hello.mechanisms.items hello.locales.items

-- whose hello it is
abbrev pub side_in : Hello → Side
side_in (code.Client hello) = side.Client
side_in (code.Server hello) = side.Server

abbrev pub role_in : Hello → Role
role_in hello = role_of (side_in hello)

abbrev pub hello_view : (hello : Hello) → model.Hello (role_in hello)
hello_view (code.Client hello) = client_hello_view hello
hello_view (code.Server hello) = server_hello_view hello

-- a configuration with these limits and this hello: nothing else has a part in what is at fault
abbrev pub limited : (frame_max channel_max : ℕ) (hello : Hello) → model.Config (role_in hello)
limited frame_max channel_max hello =
    record {
      frame_max = frame_max;
      channel_max = channel_max;
      max_body = 0;
      heartbeat = 0;
      gated = false;
      hello = hello_view hello;
    }

-- the role that an end of these settings plays
abbrev pub role_for : Settings → Role
role_for settings = role_in settings.hello

abbrev pub config_view : (settings : Settings) → model.Config (role_for settings)
config_view settings =
    record {
      frame_max = settings.frame_max;
      channel_max = settings.channel_max;
      max_body = settings.max_body;
      heartbeat = settings.heartbeat;
      gated = settings.gated;
      hello = hello_view settings.hello;
    }

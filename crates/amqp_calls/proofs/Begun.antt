-- Ends that are opened: from the settings that they are made of to what C gave.
use Rattle.std.proofs.Common.{◌≡◌, false, ap, ◌∙◌}
use Rattle.amqp_model.specs.End.Fitting.{config_fault}
use Rattle.amqp_model.specs.History.Negotiation as model
use Rattle.amqp_model.specs.Wire.Notes.{Role}
use Rattle.amqp_core.specs.End.Beginning.{IsFaultIn, IsNewEnd}
use Rattle.amqp_core.specs.Faults.Numbers.{config_fault_view}
use Rattle.amqp_core.specs.Config.Settings.{client_hello_view, server_hello_view}
use Rattle.amqp_core.specs.declared.end.End.{End}
use Rattle.amqp_core.specs.declared.faults.ConfigFault.{ConfigFault}
use Rattle.amqp_core.specs.declared.roles.Role.{Ghosts}
use Rattle.amqp_core.specs.declared.settings.ClientHello.{ClientHello}
use Rattle.amqp_core.specs.declared.settings.ServerHello.{ServerHello}
use Rattle.amqp_core.specs.declared.settings.Hello.TheVariants as said
use Rattle.amqp_core.specs.declared.settings.Settings.{Settings}
use Rattle.amqp_calls.specs.EndOpening.{BeginsAs, client_said, client_set_up, server_said, server_set_up}
use Rattle.amqp_calls.specs.declared.ends.opening.ClientSettings.{ClientSettings}
use Rattle.amqp_calls.specs.declared.ends.opening.ServerSettings.{ServerSettings}

-- what a client is set up with, once its hello is made
abbrev client_settings : ClientSettings → ClientHello → Settings
client_settings given hello =
    record {
      frame_max = given.frame_max;
      channel_max = given.channel_max;
      max_body = given.max_body;
      heartbeat = given.heartbeat;
      gated = given.gated;
      hello = said.Client hello;
      lends = false;
    }

abbrev server_settings : ServerSettings → ServerHello → Settings
server_settings given hello =
    record {
      frame_max = given.frame_max;
      channel_max = given.channel_max;
      max_body = given.max_body;
      heartbeat = given.heartbeat;
      gated = given.gated;
      hello = said.Server hello;
      lends = false;
    }

abbrev client_config : ClientSettings → model.Hello Role.Client → model.Config Role.Client
client_config given hello =
    record {
      frame_max = given.frame_max;
      channel_max = given.channel_max;
      max_body = given.max_body;
      heartbeat = given.heartbeat;
      gated = given.gated;
      hello = hello;
    }

abbrev server_config : ServerSettings → model.Hello Role.Server → model.Config Role.Server
server_config given hello =
    record {
      frame_max = given.frame_max;
      channel_max = given.channel_max;
      max_body = given.max_body;
      heartbeat = given.heartbeat;
      gated = given.gated;
      hello = hello;
    }

abbrev SetUp : Type 0
SetUp = (role : Role) × model.Config role

abbrev as_client : ClientSettings → model.Hello Role.Client → SetUp
as_client given hello = (Role.Client, client_config given hello)

abbrev as_server : ServerSettings → model.Hello Role.Server → SetUp
as_server given hello = (Role.Server, server_config given hello)

pub client_begins : {R H : Type 0} {G : Ghosts R H} (given : ClientSettings) (hello : ClientHello) (end : End R H G)
    → client_hello_view hello ≡ client_said given → IsNewEnd (client_settings given hello) end → BeginsAs (client_set_up given) end
client_begins given hello end is begins =
    record {
      settings = client_settings given hello;
      set_up_is = ap (λ (h : model.Hello Role.Client). as_client given h) is;
      begins = begins;
    }

pub server_begins : {R H : Type 0} {G : Ghosts R H} (given : ServerSettings) (hello : ServerHello) (end : End R H G)
    → server_hello_view hello ≡ server_said given → IsNewEnd (server_settings given hello) end → BeginsAs (server_set_up given) end
server_begins given hello end is begins =
    record {
      settings = server_settings given hello;
      set_up_is = ap (λ (h : model.Hello Role.Server). as_server given h) is;
      begins = begins;
    }

pub client_fault : (given : ClientSettings) (hello : ClientHello) (fault : ConfigFault) → client_hello_view hello ≡ client_said given
    → IsFaultIn (client_settings given hello) fault → config_fault_view fault ≡ config_fault Role.Client (client_set_up given).1
client_fault given hello fault is applies = applies ∙ ap (λ (h : model.Hello Role.Client). config_fault Role.Client (client_config given h)) is

pub server_fault : (given : ServerSettings) (hello : ServerHello) (fault : ConfigFault) → server_hello_view hello ≡ server_said given
    → IsFaultIn (server_settings given hello) fault → config_fault_view fault ≡ config_fault Role.Server (server_set_up given).1
server_fault given hello fault is applies = applies ∙ ap (λ (h : model.Hello Role.Server). config_fault Role.Server (server_config given h)) is

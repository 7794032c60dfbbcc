-- Hellos and configurations of either role, each with the role that it is of.
use Rattle.std.specs.Prelude.{false}
use Rattle.amqp_model.specs.History.Negotiation as model
use Rattle.amqp_model.specs.Wire.Notes.{Role}
use Rattle.amqp_core.specs.Config.Settings.{role_in, hello_view, role_for, config_view}
use Rattle.amqp_core.specs.declared.config.Config.{Config}
use Rattle.amqp_core.specs.declared.settings.Hello.{Hello}
use Rattle.amqp_core.specs.declared.settings.Settings.{Settings}

-- what a hello says, and the role that says it
abbrev pub said_in : Hello → (role : Role) × model.Hello role
said_in hello = (role_in hello, hello_view hello)

-- the role that an end of these settings plays, and its configuration
abbrev pub set_up_as : Settings → (role : Role) × model.Config role
set_up_as settings = (role_for settings, config_view settings)

-- the settings that a configuration comes to, where this turns its hello into one of either role
abbrev pub settings_of : {R H : Type 0} → (H → Hello) → Config R H → Settings
settings_of hello_of config =
    record {
      frame_max = config.frame_max;
      channel_max = config.channel_max;
      max_body = config.max_body;
      heartbeat = config.heartbeat;
      gated = config.gated;
      hello = hello_of config.hello;
      lends = false;
    }

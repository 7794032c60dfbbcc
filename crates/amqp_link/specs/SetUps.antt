-- What the two ends of a connection are set up with.
use Rattle.amqp_model.specs.History.Negotiation as model
use Rattle.amqp_model.specs.Wire.Notes.{Role}
use Rattle.amqp_core.specs.Config.Configs.{set_up_as, settings_of}
use Rattle.amqp_core.specs.declared.config.Config.{Config}
use Rattle.amqp_core.specs.declared.settings.ClientHello.{ClientHello}
use Rattle.amqp_core.specs.declared.settings.ServerHello.{ServerHello}
use Rattle.amqp_core.specs.declared.settings.Hello.TheVariants as hellos

abbrev pub client_set_up : {R : Type 0} → Config R ClientHello → (role : Role) × model.Config role
client_set_up config = set_up_as (settings_of hellos.Client config)

abbrev pub server_set_up : {R : Type 0} → Config R ServerHello → (role : Role) × model.Config role
server_set_up config = set_up_as (settings_of hellos.Server config)

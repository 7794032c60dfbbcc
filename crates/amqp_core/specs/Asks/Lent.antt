-- A content whose frames are lent: they are put, and written at once.
use Rattle.std.specs.Prelude.{length}
use Rattle.amqp_model.specs.End.Asks.{Ask}
use Rattle.amqp_model.specs.Output.Outputs.{output_octets}
use Rattle.amqp_model.specs.Stream.Endpoint.{Endpoint, after_ask, after_wrote}
use Rattle.amqp_core.specs.Config.Settings.{config_view, role_for}
use Rattle.amqp_core.specs.declared.settings.Settings.{Settings}

-- what an ask makes of an end
abbrev pub asked_by : Settings → Ask → Endpoint → Endpoint
asked_by settings ask endpoint = after_ask (role_for settings) (config_view settings) endpoint ask

-- all that waits is written
abbrev pub all_wrote : Endpoint → Endpoint
all_wrote endpoint = after_wrote (length (output_octets endpoint.output)) endpoint

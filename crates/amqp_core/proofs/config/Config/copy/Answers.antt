use Rattle.amqp_core.specs.Config.Configs.{settings_of}
use Rattle.amqp_core.proofs.SettingsLemmas.{set_up_alike}
use Rattle.amqp_core.proofs.config.Config.copy.Goals as goal

pub returns : goal.returns
returns g c = set_up_alike (settings_of g.R.Role.hello_of c.args.self.now) (g.R.Role.hello_of c.in_ok-hello.hello) c.in_ok-hello.ensures

use Rattle.std.proofs.Common.{refl}
use Rattle.std.proofs.lemmas.Result.{IfOk-weaker}
use Rattle.amqp_method.specs.MethodView.{method_view}
use Rattle.amqp_core.proofs.GreetingLemmas.{greets-client, greets-server}
use Rattle.amqp_core.proofs.SettingsLemmas.{boxed_as, kept_as}
use Rattle.amqp_core.proofs.settings.Settings.greeting.Goals as goal

pub returns-in-Client : goal.returns-in-Client
returns-in-Client c = IfOk-weaker c.own_start_ok.result _ _
    (λ m said. greets-client c.args.self.now c.deref.result.now (method_view m) (boxed_as (kept_as c.in-Client.is c.self.view_is refl) c.deref.ensures) said)
    c.own_start_ok.ensures

pub returns-in-Server : goal.returns-in-Server
returns-in-Server c = IfOk-weaker c.start.result _ _ (λ m said. greets-server c.args.self.now _ (method_view m) (kept_as c.in-Server.is c.self.view_is refl) said) c.start.ensures

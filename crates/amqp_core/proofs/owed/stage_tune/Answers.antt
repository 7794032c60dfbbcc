use Rattle.std.proofs.Common.{refl}
use Rattle.std.proofs.lemmas.Result.{on_ok_weaker}
use Rattle.amqp_core.proofs.OwedLemmas.{tunes-server, staged_as}
use Rattle.amqp_core.proofs.SettingsLemmas.{kept_as}
use Rattle.amqp_core.proofs.owed.stage_tune.Goals as goal

pub returns-in_ok-method-in-Server-clause-ok : goal.returns-in_ok-method-in-Server-clause-ok
returns-in_ok-method-in-Server-clause-ok c =
    let owed = tunes-server c.args.settings.now _ _ (kept_as c.in-Server.is c.settings.view_is refl) c.in_ok-method-in-Server.ensures in
    on_ok_weaker c.stage_method.result (staged_as _ _ _ _ owed) c.stage_method.ensures.ok

use Rattle.std.proofs.Common.{refl}
use Rattle.std.proofs.lemmas.Result.{on_ok_weaker}
use Rattle.amqp_core.proofs.OwedLemmas.{answers_start-client, staged_as}
use Rattle.amqp_core.proofs.SettingsLemmas.{kept_as}
use Rattle.amqp_core.proofs.owed.stage_start_ok.Goals as goal

pub returns-in_ok-method-in-Client-clause-ok : goal.returns-in_ok-method-in-Client-clause-ok
returns-in_ok-method-in-Client-clause-ok c =
    let owed = answers_start-client c.args.settings.now _ _ (kept_as c.in-Client.is c.settings.view_is refl) c.in_ok-method-in-Client.ensures in
    on_ok_weaker c.stage_method.result (staged_as _ _ _ _ owed) c.stage_method.ensures.ok

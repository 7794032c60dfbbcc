use Rattle.std.proofs.Common.{refl}
use Rattle.std.proofs.lemmas.Result.{on_ok_weaker}
use Rattle.amqp_channel.specs.Events.EventView.{agreed_view}
use Rattle.amqp_core.proofs.OwedLemmas.{answers_tune-client, staged_both}
use Rattle.amqp_core.proofs.SettingsLemmas.{boxed_as, kept_as}
use Rattle.amqp_core.proofs.owed.stage_tune_ok.Goals as goal

pub returns-in_ok-stage_method-in-Client-clause-ok : goal.returns-in_ok-stage_method-in-Client-clause-ok
returns-in_ok-stage_method-in-Client-clause-ok c =
    let settled = c.in_ok-settled-in-Client.ensures in
    let owed = answers_tune-client c.args.settings.now _ (agreed_view c.args.agreed) _ _ (boxed_as (kept_as c.in-Client.is c.settings.view_is refl) c.deref.ensures) settled c.in_ok-opening-in-Client.ensures in
    on_ok_weaker c.stage_method-in-Client.result (staged_both _ _ _ _ _ _ owed c.in_ok-stage_method-in-Client.ensures.ok) c.stage_method-in-Client.ensures.ok

use Rattle.std.proofs.Common.{IfErr, ◌≡◌, sym, subst, refl}
use Rattle.std.proofs.lemmas.Result.{on_ok_weaker}
use Rattle.amqp_model.specs.End.Asks.{AskVerdict}
use Rattle.amqp_model.specs.End.Channels.{Handshake, HoldsStart}
use Rattle.amqp_core.specs.Asks.Controlled.{refusal_by}
use Rattle.amqp_core.specs.Faults.Numbers.{refusal_view}
use Rattle.amqp_core.proofs.DecisionLemmas.{answer_fits, answers_in_by, refused_by, server_answers_none}
use Rattle.amqp_core.proofs.SettingsLemmas.{boxed_as, kept_as}
use Rattle.amqp_core.proofs.settings.Settings.allow_answer.Goals as goal

pub returns-in-Client-clause-allowed : goal.returns-in-Client-clause-allowed
returns-in-Client-clause-allowed c =
    on_ok_weaker c.allow_answer.result
    (λ short. answer_fits c.args.self.now _ c.args.mechanism.now c.args.response.now c.args.locale.now (boxed_as (kept_as c.in-Client.is c.self.view_is refl) c.deref.ensures) short) c.allow_answer.ensures.short

pub returns-in-Client-clause-refused : goal.returns-in-Client-clause-refused
returns-in-Client-clause-refused c =
    subst (λ (v : AskVerdict). IfErr c.allow_answer.result (λ fault. refusal_view fault ≡ refusal_by v))
    (sym (answers_in_by c.args.self.now _ c.args.mechanism.now c.args.response.now c.args.locale.now (boxed_as (kept_as c.in-Client.is c.self.view_is refl) c.deref.ensures))) c.allow_answer.ensures.refused

pub returns-in-Server-clause-refused : goal.returns-in-Server-clause-refused
returns-in-Server-clause-refused c =
    refused_by _ _
    (server_answers_none c.args.self.now _ (Handshake HoldsStart) c.args.mechanism.now c.args.response.now c.args.locale.now (kept_as c.in-Server.is c.self.view_is refl))

use Rattle.std.proofs.Common.{IfErr, ◌≡◌, sym, subst, refl}
use Rattle.amqp_method.specs.MethodView.{method_view}
use Rattle.amqp_model.specs.End.Asks.{AskVerdict}
use Rattle.amqp_model.specs.End.Channels.{Handshake, HoldsStart}
use Rattle.amqp_core.specs.Asks.Controlled.{refusal_by}
use Rattle.amqp_core.specs.Faults.Numbers.{refusal_view}
use Rattle.amqp_core.proofs.DecisionLemmas.{answers_in_by, answers_start, both_ok, refused_by, server_answers_none}
use Rattle.amqp_core.proofs.SettingsLemmas.{boxed_as, kept_as}
use Rattle.amqp_core.proofs.settings.Settings.answer.Goals as goal

pub returns-in-Client-clause-decides : goal.returns-in-Client-clause-decides
returns-in-Client-clause-decides c =
    both_ok c.answer.result _ _ _
    (λ m said short.
    answers_start c.args.self.now _ c.args.mechanism.now c.args.response.now c.args.locale.now (method_view m) (boxed_as (kept_as c.in-Client.is c.self.view_is refl) c.deref.ensures) short said)
    c.answer.ensures.ok c.answer.ensures.short

pub returns-in-Client-clause-refused : goal.returns-in-Client-clause-refused
returns-in-Client-clause-refused c =
    subst (λ (v : AskVerdict). IfErr c.answer.result (λ fault. refusal_view fault ≡ refusal_by v))
    (sym (answers_in_by c.args.self.now _ c.args.mechanism.now c.args.response.now c.args.locale.now (boxed_as (kept_as c.in-Client.is c.self.view_is refl) c.deref.ensures))) c.answer.ensures.refused

pub returns-in-Server-clause-refused : goal.returns-in-Server-clause-refused
returns-in-Server-clause-refused c =
    refused_by _ _
    (server_answers_none c.args.self.now _ (Handshake HoldsStart) c.args.mechanism.now c.args.response.now c.args.locale.now (kept_as c.in-Server.is c.self.view_is refl))

-- The lists stay, and so does all of the end but what it heard.
use Rattle.std.proofs.Common.{◌≡◌, ◌+◌, ◌≤◌, length, vec_len, vec_capacity, ap, sym, ◌∙◌, subst}
use Rattle.amqp_model.specs.History.Histories.{History}
use Rattle.amqp_model.specs.Output.Outputs.{output_octets}
use Rattle.amqp_model.specs.Stream.Endpoint.{Endpoint}
use Rattle.amqp_core.specs.End.View.{config_at, role_played, settings_at}
use Rattle.amqp_core.specs.Config.Settings.{role_for}
use Rattle.amqp_core.specs.Traced.Fields.{kept_of}
use Rattle.amqp_core.specs.Traced.Tracing.{IsTraceOf, Kept}
use Rattle.amqp_core.specs.declared.settings.Settings.{Settings}
use Rattle.amqp_core.proofs.TracedLemmas.{traces-kept}
use Rattle.amqp_core.proofs.traced.Traced.forget_heard.Goals as goal

pub returns-clause-same : goal.returns-clause-same
returns-clause-same g c =
    let old = kept_of c.args.self.now.end c.args.self.now.ledger in
    ap (λ (e : Endpoint). record old { endpoint = e }) c.forget_heard.ensures.same

pub invariant_of-self : goal.invariant_of-self
invariant_of-self g c =
    let end = c.args.self.now.end in
    let ledger = c.args.self.now.ledger in
    let old = kept_of end ledger in
    let new = c.forget_heard.new.self in
    let same : kept_of new ledger ≡ old = ap (λ (e : Endpoint). record old { endpoint = e }) c.forget_heard.ensures.same in
    record {
      plays = c.args.self.now.plays ∙ sym (ap (λ (s : Settings). role_for s) c.forget_heard.ensures.settings);
      room = subst (λ (e : Endpoint). vec_len ledger.written + length (output_octets e.output) ≤ vec_capacity ledger.written)
          (sym c.forget_heard.ensures.same) c.args.self.now.room;
      traces = traces-kept (settings_at end) (settings_at new) (kept_of new ledger) c.forget_heard.ensures.settings
          (subst (λ (k : Kept). ∥ ((history : History) × IsTraceOf (role_played end) (config_at end) k history) ∥₁) (sym same)
          c.args.self.now.traces);
    }

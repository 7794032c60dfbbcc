-- What holds of an endpoint holds of the end.
use Rattle.std.proofs.Common.{[], sym, ap, ◌∙◌, subst, rules}
use Rattle.std.proofs.Math.Logic.{∥∥₁_map}
use Rattle.amqp_model.specs.Stream.Endpoint.{Endpoint, new_endpoint}
use Rattle.amqp_model.specs.Laws.OctetLaws.{EndpointStandsFor}
use Rattle.amqp_core.specs.End.EndpointView.{role_at}
use Rattle.amqp_core.specs.Config.Settings.{config_view, role_for}
use Rattle.amqp_core.specs.declared.settings.Settings.{Settings}
use Rattle.amqp_core.proofs.KeptLemmas.{sound_kept}
use Rattle.amqp_core.proofs.end.End.new.Goals as goal

pub invariant_of-result : goal.invariant_of-result
invariant_of-result g c = record {
  kept = sound_kept c.in_ok-inner.inner c.in_ok-inner.ensures.sound;
  plays = ap (λ (s : Settings). role_for s) c.in_ok-inner.ensures.settings ∙ c.in_ok-settings.ensures.role;
  gathers = ap (λ (s : Settings). s.lends) (c.in_ok-inner.ensures.settings ∙ c.in_ok-settings.ensures.settings);
}

pub returns-clause-new : goal.returns-clause-new
returns-clause-new g c =
    let inner = c.in_ok-inner.inner in
    let role = role_at inner in
    let config = config_view inner.connection.settings in
    let endpoint = c.in_ok-inner.ensures.view
    ∙ ap (λ (s : Settings). new_endpoint (role_for s)) (sym c.in_ok-inner.ensures.settings) in
    record {
      endpoint = endpoint;
      settings_are = search rules;
      faultless = search rules;
      history = record {
        stands = subst (λ (e : Endpoint). EndpointStandsFor role config e [] [] []) (sym endpoint)
            (c.octets_follow.ensures.new role config);
        writes = c.in_ok-inner.ensures.sound.writes;
        reads_back = ∥∥₁_map c.in_ok-inner.ensures.sound.writes (c.owed_read_back.ensures.all role config);
      };
      counters = search rules;
      heard = search rules;
    }

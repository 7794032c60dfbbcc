-- What holds of the end holds of its endpoint.
use Rattle.std.proofs.Common.{rules}
use Rattle.amqp_core.specs.End.View.{config_at, endpoint_of, role_played}
use Rattle.amqp_core.specs.End.EndpointView.{endpoint_view}
use Rattle.amqp_core.proofs.KeptLemmas.{kept_sound}
use Rattle.amqp_core.proofs.OutputLemmas.{wrote_goes_on}
use Rattle.amqp_core.proofs.end.End.wrote.Goals as goal

pub wrote-requires-clause-sound : goal.wrote-requires-clause-sound
wrote-requires-clause-sound g c = kept_sound c.args.self.now.inner c.args.self.now.kept

pub returns : goal.returns
returns g c =
    let old = c.args.self.now in
    let role = role_played old in
    let config = config_at old in
    record {
      written = c.wrote.ensures.written;
      history = wrote_goes_on role config c.args.octets (endpoint_of old) (endpoint_view c.wrote.new.self)
          c.wrote.ensures.written c.requires
          (λ history fed written. c.octets_follow.ensures.wrote role config (endpoint_of old) history fed written
          c.args.octets)
          (λ limit opening history fed written. c.octets_follow.ensures.wrote_failed role config limit opening history
          fed written (endpoint_of old) c.args.octets)
          c.write_keeps_arranged.ensures.leaves c.output_follows.ensures.write;
      counters = search rules;
      heard = search rules;
      settings = c.wrote.ensures.settings;
    }

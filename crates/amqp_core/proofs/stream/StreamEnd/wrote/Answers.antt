-- What holds of the end holds of its endpoint.
use Rattle.std.proofs.Common.{rules}
use Rattle.amqp_core.specs.End.EndpointView.{endpoint_view}
use Rattle.amqp_core.specs.Stream.View.{config_at, endpoint_of, role_played}
use Rattle.amqp_core.proofs.KeptLemmas.{kept_sound}
use Rattle.amqp_core.proofs.StreamHistoryLemmas.{stream_wrote_goes_on}
use Rattle.amqp_core.proofs.stream.StreamEnd.wrote.Goals as goal

pub wrote-requires-clause-sound : goal.wrote-requires-clause-sound
wrote-requires-clause-sound g c = kept_sound c.args.self.now.inner c.args.self.now.kept

pub returns : goal.returns
returns g c =
    let old = c.args.self.now in
    let role = role_played old in
    let config = config_at old in
    record {
      written = c.wrote.ensures.written;
      history = stream_wrote_goes_on role config c.args.octets (endpoint_of old) (endpoint_view c.wrote.new.self)
          c.wrote.ensures.written c.requires
          (λ endpoint history fed written. c.octets_follow.ensures.wrote role config endpoint history fed written
          c.args.octets)
          c.alike_endpoints_stay_alike.ensures.written;
      counters = search rules;
      heard = search rules;
      settings = c.wrote.ensures.settings;
    }

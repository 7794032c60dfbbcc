-- How many octets an end keeps for its peer, and how many at most.
use Rattle.std.specs.Prelude.{◌≤◌, ◌+◌, ℕ}
use Rattle.amqp_model.specs.End.Amounts.{KeepsOctets}
use Rattle.amqp_model.specs.End.Channels as model
use Rattle.amqp_model.specs.History.Negotiation.{frame_limit}
use Rattle.amqp_model.specs.Laws.AmountLaws.{most_contents}
use Rattle.amqp_model.specs.Stream.Endpoint as endpoint
use Rattle.amqp_channel.specs.Channels.ChannelsView.{channels_gathered}
use Rattle.amqp_core.specs.End.View as ends
use Rattle.amqp_core.specs.End.EndpointView.{endpoint_view}
use Rattle.amqp_core.specs.End.Queries.{OfEachHistory}
use Rattle.amqp_core.specs.Connection.Stages.{agreed_at, phase_at}
use Rattle.amqp_core.specs.declared.connection.Connection.{Connection}
use Rattle.amqp_core.specs.declared.end.End.{End}
use Rattle.amqp_core.specs.declared.endpoint.Endpoint.{Endpoint}
use Rattle.amqp_core.specs.declared.roles.Role.{Ghosts}
use Rattle.amqp_core.specs.declared.stream.StreamEnd.{StreamEnd}

-- the connection, of whose contents only what is gathered counts
abbrev gathered_end : Connection → model.End
gathered_end connection =
    record {
      phase = phase_at connection.stage;
      agreed = agreed_at connection.stage;
      channels = channels_gathered connection.channels;
    }

-- an endpoint that lends keeps no octet of a content that it takes: what it keeps is the frame that isn't whole, and
-- what it gathered of a content before it turned, up to that content's next frame
abbrev pub kept_by : Endpoint → endpoint.Endpoint
kept_by end =
    record {
      end = gathered_end end.connection;
      unfinished = (endpoint_view end).unfinished;
      output = (endpoint_view end).output;
    }

abbrev pub KeepsLent : {R H : Type 0} {G : Ghosts R H} → StreamEnd R H G → (count : ℕ) → Type 0
KeepsLent end count = KeepsOctets (kept_by end.inner) count

-- at most a body and a frame for each channel that was agreed, and one frame more
abbrev pub KeptIsWithin : {R H : Type 0} {G : Ghosts R H} → End R H G → (count : ℕ) → Type 0
KeptIsWithin end count =
    OfEachHistory end (λ history fed.
    count ≤ most_contents (ends.config_at end) (ends.endpoint_of end).end
    + frame_limit (ends.endpoint_of end).end.agreed)

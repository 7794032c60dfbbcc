-- What is known of an end between two calls, as a fact that can be known in one way only.
use Rattle.std.specs.Coded.{Unit-prop, le_prop}
use Rattle.std.specs.Prelude.{◌≡◌, true, length, Option, Some, None}
use Rattle.amqp_model.specs.End.Channels.{Agreed}
use Rattle.amqp_model.specs.End.Fitting.{ConfigWrites, IfAgreedFits, SettledFits}
use Rattle.amqp_model.specs.History.Negotiation.{frame_limit}
use Rattle.amqp_model.specs.Stream.Pieces.{AreBegun, reads_frames}
use Rattle.amqp_core.specs.End.Bounded.{IsBounded}
use Rattle.amqp_core.specs.Connection.View.{connection_end}
use Rattle.amqp_core.specs.End.EndpointView.{FieldsFit, role_at}
use Rattle.amqp_core.specs.Config.Settings.{config_view}
use Rattle.amqp_core.specs.declared.endpoint.Endpoint.{Endpoint}

pub record IsKept (end : Endpoint) : Type 0 where
  pub writes : ∥ ConfigWrites (config_view end.connection.settings) ∥₁
  pub staged : length end.outbox.staged ≡ 0
  pub fields : FieldsFit (role_at end) (connection_end end.connection) end.heard end.splitter
  -- the pending octets are those of one frame that is begun
  pub begun :
      reads_frames (role_at end) (connection_end end.connection).phase ≡ true
      → AreBegun (frame_limit (connection_end end.connection).agreed) end.splitter.pending
  pub bounded : IsBounded (role_at end) (config_view end.connection.settings) (connection_end end.connection)

-- what was agreed fits its limits in one way only

settled_prop : (agreed : Agreed) → IsProp (SettledFits agreed)
settled_prop agreed one other =
    λ i. record {
      channel_least = le_prop one.channel_least other.channel_least i;
      channel_most = le_prop one.channel_most other.channel_most i;
      frame_least = le_prop one.frame_least other.frame_least i;
      frame_most = le_prop one.frame_most other.frame_most i;
    }

pub agreed_prop : (agreed : Option Agreed) → IsProp (IfAgreedFits agreed)
agreed_prop None = Unit-prop
agreed_prop (Some agreed) = settled_prop agreed

-- What an end keeps between two calls, in the words of the model.
use Rattle.std.specs.Prelude.{◌≡◌, ◌<◌, Bool, true, false, ℕ, List, [], ◌++◌, take, None}
use Rattle.amqp_model.specs.End.Channels as model
use Rattle.amqp_model.specs.Stream.Endpoint as endpoint
use Rattle.amqp_model.specs.Stream.Endpoint.{awaits_opening}
use Rattle.amqp_model.specs.End.EndVerdict.{takes_octets}
use Rattle.amqp_model.specs.End.Fitting.{ConfigWrites, IfAgreedFits}
use Rattle.amqp_model.specs.History.Negotiation.{PROTOCOL_HEADER, frame_limit}
use Rattle.amqp_model.specs.Wire.Notes.{Role}
use Rattle.amqp_model.specs.Stream.Pieces.{HoldsUnfinished}
use Rattle.amqp_frame.specs.Stream.{Stream}
use Rattle.amqp_core.specs.End.Bounded.{IsBounded}
use Rattle.amqp_core.specs.Connection.View.{connection_end}
use Rattle.amqp_core.specs.Config.Settings.{config_view, role_for}
use Rattle.amqp_core.specs.declared.endpoint.Endpoint.{Endpoint}

-- so many octets of the protocol header were heard, and these octets are pending in the splitter: of one of the two
-- there are none
abbrev pub unfinished_of : (heard : ℕ) (pending : List ℕ) → List ℕ
unfinished_of heard pending = take heard PROTOCOL_HEADER ++ pending

abbrev pub endpoint_view : Endpoint → endpoint.Endpoint
endpoint_view end =
    record {
      end = connection_end end.connection;
      unfinished = unfinished_of end.heard end.splitter.pending;
      output = end.outbox.output;
    }

-- the role that an end plays
abbrev pub role_at : Endpoint → Role
role_at end = role_for end.connection.settings

-- a splitter between two frames or within one, for an end that reads the frames
pub record IsReady (limit : ℕ) (stream : Stream) : Type 0 where
  pub running : stream.fault ≡ None
  pub limit_is : stream.limit ≡ limit

-- the protocol header was read, or is none that this end reads
abbrev pub is_opened : model.Phase → Bool
is_opened (model.Handshake model.AwaitsProtocolHeader) = false
is_opened phase = true

-- what stands in the fields, of an end in such a phase
pub record FieldsFit (role : Role) (end : model.End) (heard : ℕ) (stream : Stream) : Type 0 where
  pub agreed : IfAgreedFits end.agreed
  -- while the protocol header is awaited no octet of a frame is pending, and later none of the header
  pub opening : awaits_opening role end.phase ≡ true → stream.pending ≡ []
  pub opened : awaits_opening role end.phase ≡ false → heard ≡ 0
  pub awaited : awaits_opening role end.phase ≡ false → is_opened end.phase ≡ true
  pub within : heard < 8
  -- an end that takes no octets keeps none
  pub over : takes_octets end.phase ≡ false → stream.pending ≡ []
  pub ready : takes_octets end.phase ≡ true → IsReady (frame_limit end.agreed) stream

-- what holds of an end between two calls
pub record EndpointIsSound (end : Endpoint) : Type 0 where
  pub writes : ∥ ConfigWrites (config_view end.connection.settings) ∥₁
  pub staged : end.outbox.staged ≡ []
  pub fields : FieldsFit (role_at end) (connection_end end.connection) end.heard end.splitter
  pub holds : HoldsUnfinished (role_at end) (endpoint_view end)
  pub bounded : IsBounded (role_at end) (config_view end.connection.settings) (connection_end end.connection)

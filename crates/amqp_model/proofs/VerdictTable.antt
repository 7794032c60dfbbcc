-- What an end does with a frame of each kind, in each of its states: tables written apart from it, against
-- which the definition computes.
--
-- The methods are in the order of `every_kind`, without arguments: those of the class connection on channel 0, the
-- others on channel 1. The frames after them are `other_frames`.
use Rattle.std.proofs.Common.{◌≡◌, true, false, cond, ℕ, List, [], ◌∷◌, ◌++◌, map, Option, Some, None}
use Rattle.std.proofs.Common.{◌==◌, refl}
use Rattle.amqp_method.specs.declared.kinds.Kind.TheVariants as kinds
use Rattle.amqp_value.specs.Values.{no_pairs}
use Rattle.amqp_model.specs.Wire.Notes.{Role, Client, Server}
use Rattle.amqp_model.specs.Wire.Methods.{MethodKind, Method, Properties, class_of}
use Rattle.amqp_model.specs.Wire.Gathering.{Gathering, Nothing, HeaderDue, BodyDue}
use Rattle.amqp_model.specs.Wire.Readings.{Reading, Calls, UnknownMethod, MalformedMethod, HeaderOf, MalformedHeader}
use Rattle.amqp_model.specs.Wire.Readings.{BodyOf, Beat}
use Rattle.amqp_model.specs.End.Channels.{Channel, Free, Opening, Open, Phase, Handshake, Running, AwaitsStart}
use Rattle.amqp_model.specs.End.Channels.{AwaitsStartOk, AwaitsTune, AwaitsTuneOk, AwaitsOpen, AwaitsOpenOk, HoldsStart}
use Rattle.amqp_model.specs.End.Channels.{HoldsLogin, HoldsOpen}
use Rattle.amqp_model.specs.History.Negotiation.{Config, OfClient, OfServer}
use Rattle.amqp_model.specs.End.Closes.{number_of}
use Rattle.amqp_model.specs.End.Events.{Event, Peer, FrameVerdict, Proceeds, RefusesContent, Faults}
use Rattle.amqp_model.specs.End.FrameVerdict.{verdict_on}

-- an event, apart from what it carries
data EventName : Type 0 where
  answer_asked login_asked open_asked negotiated opened told flow flow_ok channel_closed channel_closed_by_us
      connection_closed connection_closed_by_us discarded blocked unblocked quiet : EventName

-- an event or none, with the methods owed; a content refused; the connection closed with a code; another fault
data Outcome : Type 0 where
  does : Option EventName → List MethodKind → Outcome
  closes : ℕ → Outcome
  refuses fatal : Outcome

abbrev name_of : Event → EventName
name_of Event.AnswerAsked = answer_asked
name_of Event.LoginAsked = login_asked
name_of Event.OpenAsked = open_asked
name_of (Event.Negotiated agreed) = negotiated
name_of (Event.Opened channel) = opened
name_of (Event.Told channel message) = told
name_of (Event.Flow channel active) = flow
name_of (Event.FlowOk channel active) = flow_ok
name_of (Event.ChannelClosed channel None) = channel_closed_by_us
name_of (Event.ChannelClosed channel (Some reason)) = channel_closed
name_of (Event.ConnectionClosed None) = connection_closed_by_us
name_of (Event.ConnectionClosed (Some reason)) = connection_closed
name_of (Event.Discarded channel) = discarded
name_of (Event.Blocked reason) = blocked
name_of Event.Unblocked = unblocked
name_of Event.Quiet = quiet

abbrev named : Option Event → Option EventName
named (Some event) = Some (name_of event)
named None = None

abbrev outcome : FrameVerdict → Outcome
outcome (Proceeds event owed) = does (named event) (map (λ owed. owed.method.kind) owed)
outcome RefusesContent = refuses
outcome (Faults (Peer code)) = closes (number_of code)
outcome (Faults fault) = fatal

abbrev tells : EventName → Outcome
tells event = does (Some event) []

abbrev gives : EventName → MethodKind → Outcome
gives event owed = does (Some event) (owed ∷ [])

abbrev settles : Outcome
settles = does (Some quiet) (kinds.ConnectionTuneOk ∷ kinds.ConnectionOpen ∷ [])

abbrev is_silent : Outcome
is_silent = does None []

abbrev every_kind : List MethodKind
every_kind =
    kinds.ConnectionStart ∷ kinds.ConnectionStartOk ∷ kinds.ConnectionSecure ∷ kinds.ConnectionSecureOk
    ∷ kinds.ConnectionTune ∷ kinds.ConnectionTuneOk ∷ kinds.ConnectionOpen ∷ kinds.ConnectionOpenOk
    ∷ kinds.ConnectionClose ∷ kinds.ConnectionCloseOk ∷ kinds.ConnectionBlocked ∷ kinds.ConnectionUnblocked
    ∷ kinds.ChannelOpen ∷ kinds.ChannelOpenOk ∷ kinds.ChannelFlow ∷ kinds.ChannelFlowOk
    ∷ kinds.ChannelClose ∷ kinds.ChannelCloseOk
    ∷ kinds.ExchangeDeclare ∷ kinds.ExchangeDeclareOk ∷ kinds.ExchangeDelete ∷ kinds.ExchangeDeleteOk
    ∷ kinds.ExchangeBind ∷ kinds.ExchangeBindOk ∷ kinds.ExchangeUnbind ∷ kinds.ExchangeUnbindOk
    ∷ kinds.QueueDeclare ∷ kinds.QueueDeclareOk ∷ kinds.QueueBind ∷ kinds.QueueBindOk ∷ kinds.QueuePurge
    ∷ kinds.QueuePurgeOk ∷ kinds.QueueDelete ∷ kinds.QueueDeleteOk ∷ kinds.QueueUnbind ∷ kinds.QueueUnbindOk
    ∷ kinds.BasicQos ∷ kinds.BasicQosOk ∷ kinds.BasicConsume ∷ kinds.BasicConsumeOk ∷ kinds.BasicCancel
    ∷ kinds.BasicCancelOk ∷ kinds.BasicPublish ∷ kinds.BasicReturn ∷ kinds.BasicDeliver ∷ kinds.BasicGet
    ∷ kinds.BasicGetOk ∷ kinds.BasicGetEmpty ∷ kinds.BasicAck ∷ kinds.BasicReject ∷ kinds.BasicRecoverAsync
    ∷ kinds.BasicRecover ∷ kinds.BasicRecoverOk ∷ kinds.BasicNack
    ∷ kinds.TxSelect ∷ kinds.TxSelectOk ∷ kinds.TxCommit ∷ kinds.TxCommitOk
    ∷ kinds.TxRollback ∷ kinds.TxRollbackOk ∷ kinds.ConfirmSelect ∷ kinds.ConfirmSelectOk ∷ []

abbrev no_properties : Properties
no_properties = []

abbrev bare : MethodKind → Method
bare kind = record { kind = kind; args = [] }

-- a frame, on its channel
data OnChannel : Type 0 where
  On : ℕ → Reading → OnChannel

abbrev method_on : MethodKind → OnChannel
method_on kind = On (cond (class_of kind == 10) 0 1) (Calls (bare kind))

-- content headers of 5 octets, of 9, and one that does not parse; body frames of 3 octets and of 6; heartbeats on
-- channel 0, on channel 1, and with a payload; an unknown method, and one that does not parse
abbrev other_frames : List OnChannel
other_frames =
    On 1 (HeaderOf 5 no_properties) ∷ On 1 (HeaderOf 9 no_properties) ∷ On 1 MalformedHeader
    ∷ On 1 (BodyOf (1 ∷ 2 ∷ 3 ∷ [])) ∷ On 1 (BodyOf (1 ∷ 2 ∷ 3 ∷ 4 ∷ 5 ∷ 6 ∷ []))
    ∷ On 0 (Beat true) ∷ On 1 (Beat true) ∷ On 0 (Beat false) ∷ On 1 UnknownMethod ∷ On 1 MalformedMethod
    ∷ []

-- ends that take no body above 8 octets
abbrev client_config : Config Client
client_config =
    record {
      frame_max = 8192;
      channel_max = 10;
      max_body = 8;
      heartbeat = 0;
      gated = false;
      hello = OfClient no_pairs [] [] [] [];
    }

abbrev server_config : Config Server
server_config =
    record {
      frame_max = 8192;
      channel_max = 10;
      max_body = 8;
      heartbeat = 0;
      gated = false;
      hello = OfServer no_pairs [] [];
    }

abbrev an_open : Gathering → Channel
an_open kept = Open (record { content = kept; paused = false; awaits = false; requests = [] })

-- channel 0 is never opened
abbrev above_zero : ℕ → Channel → Channel
above_zero number channel = cond (number == 0) Free channel

abbrev takes : {role : Role} → Config role → Phase → Channel → OnChannel → Outcome
takes config phase channel (On number reading) =
    outcome (verdict_on
    (record {
      config = config;
      phase = phase;
      agreed = Some (record { channel_max = 10; frame_max = 8192; heartbeat = 0 });
      number = number;
      channel =
          above_zero number channel;
    }) reading)

abbrev takes_all : {role : Role} → Config role → Phase → Channel → List Outcome
takes_all config phase channel = map (takes config phase channel) (map method_on every_kind ++ other_frames)

-- a client that awaits start
client_await_start : takes_all client_config (Handshake AwaitsStart) (Free) ≡
    gives quiet kinds.ConnectionStartOk ∷ closes 503 ∷ closes 540 ∷ closes 503 ∷ closes 503 ∷ closes 503
    ∷ closes 503 ∷ closes 503 ∷ gives connection_closed kinds.ConnectionCloseOk ∷ closes 503
    ∷ closes 503 ∷ closes 503
    ∷ closes 503 ∷ closes 503 ∷ closes 503 ∷ closes 503 ∷ closes 503 ∷ closes 503
    ∷ closes 503 ∷ closes 503 ∷ closes 503 ∷ closes 503 ∷ closes 503 ∷ closes 503
    ∷ closes 503 ∷ closes 503
    ∷ closes 503 ∷ closes 503 ∷ closes 503 ∷ closes 503 ∷ closes 503 ∷ closes 503 ∷ closes 503
    ∷ closes 503 ∷ closes 503 ∷ closes 503
    ∷ closes 503 ∷ closes 503 ∷ closes 503 ∷ closes 503 ∷ closes 503 ∷ closes 503 ∷ closes 503
    ∷ closes 503 ∷ closes 503 ∷ closes 503 ∷ closes 503 ∷ closes 503 ∷ closes 503 ∷ closes 503
    ∷ closes 503 ∷ closes 503 ∷ closes 503 ∷ closes 503
    ∷ closes 503 ∷ closes 503 ∷ closes 503 ∷ closes 503 ∷ closes 503 ∷ closes 503
    ∷ closes 503 ∷ closes 503
    ∷ closes 503 ∷ closes 503 ∷ closes 503 ∷ closes 503 ∷ closes 503 ∷ tells quiet ∷ closes 501
    ∷ closes 501 ∷ closes 540 ∷ closes 502 ∷ []
client_await_start = refl

-- a client that awaits tune
client_await_tune : takes_all client_config (Handshake AwaitsTune) (Free) ≡
    closes 503 ∷ closes 503 ∷ closes 540 ∷ closes 503 ∷ settles ∷ closes 503 ∷ closes 503 ∷ closes 503
    ∷ gives connection_closed kinds.ConnectionCloseOk ∷ closes 503 ∷ closes 503 ∷ closes 503
    ∷ closes 503 ∷ closes 503 ∷ closes 503 ∷ closes 503 ∷ closes 503 ∷ closes 503
    ∷ closes 503 ∷ closes 503 ∷ closes 503 ∷ closes 503 ∷ closes 503 ∷ closes 503
    ∷ closes 503 ∷ closes 503
    ∷ closes 503 ∷ closes 503 ∷ closes 503 ∷ closes 503 ∷ closes 503 ∷ closes 503 ∷ closes 503
    ∷ closes 503 ∷ closes 503 ∷ closes 503
    ∷ closes 503 ∷ closes 503 ∷ closes 503 ∷ closes 503 ∷ closes 503 ∷ closes 503 ∷ closes 503
    ∷ closes 503 ∷ closes 503 ∷ closes 503 ∷ closes 503 ∷ closes 503 ∷ closes 503 ∷ closes 503
    ∷ closes 503 ∷ closes 503 ∷ closes 503 ∷ closes 503
    ∷ closes 503 ∷ closes 503 ∷ closes 503 ∷ closes 503 ∷ closes 503 ∷ closes 503
    ∷ closes 503 ∷ closes 503
    ∷ closes 503 ∷ closes 503 ∷ closes 503 ∷ closes 503 ∷ closes 503 ∷ tells quiet ∷ closes 501
    ∷ closes 501 ∷ closes 540 ∷ closes 502 ∷ []
client_await_tune = refl

-- a client that awaits open-ok
client_await_open_ok : takes_all client_config (Handshake AwaitsOpenOk) (Free) ≡
    closes 503 ∷ closes 503 ∷ closes 540 ∷ closes 503 ∷ closes 503 ∷ closes 503 ∷ closes 503
    ∷ tells negotiated ∷ gives connection_closed kinds.ConnectionCloseOk ∷ closes 503
    ∷ closes 503 ∷ closes 503
    ∷ closes 503 ∷ closes 503 ∷ closes 503 ∷ closes 503 ∷ closes 503 ∷ closes 503
    ∷ closes 503 ∷ closes 503 ∷ closes 503 ∷ closes 503 ∷ closes 503 ∷ closes 503
    ∷ closes 503 ∷ closes 503
    ∷ closes 503 ∷ closes 503 ∷ closes 503 ∷ closes 503 ∷ closes 503 ∷ closes 503 ∷ closes 503
    ∷ closes 503 ∷ closes 503 ∷ closes 503
    ∷ closes 503 ∷ closes 503 ∷ closes 503 ∷ closes 503 ∷ closes 503 ∷ closes 503 ∷ closes 503
    ∷ closes 503 ∷ closes 503 ∷ closes 503 ∷ closes 503 ∷ closes 503 ∷ closes 503 ∷ closes 503
    ∷ closes 503 ∷ closes 503 ∷ closes 503 ∷ closes 503
    ∷ closes 503 ∷ closes 503 ∷ closes 503 ∷ closes 503 ∷ closes 503 ∷ closes 503
    ∷ closes 503 ∷ closes 503
    ∷ closes 503 ∷ closes 503 ∷ closes 503 ∷ closes 503 ∷ closes 503 ∷ tells quiet ∷ closes 501
    ∷ closes 501 ∷ closes 540 ∷ closes 502 ∷ []
client_await_open_ok = refl

-- a client whose application is to answer start
client_hold_start : takes_all client_config (Handshake HoldsStart) (Free) ≡
    closes 503 ∷ closes 503 ∷ closes 540 ∷ closes 503 ∷ closes 503 ∷ closes 503 ∷ closes 503 ∷ closes 503
    ∷ gives connection_closed kinds.ConnectionCloseOk ∷ closes 503 ∷ closes 503 ∷ closes 503
    ∷ closes 503 ∷ closes 503 ∷ closes 503 ∷ closes 503 ∷ closes 503 ∷ closes 503
    ∷ closes 503 ∷ closes 503 ∷ closes 503 ∷ closes 503 ∷ closes 503 ∷ closes 503
    ∷ closes 503 ∷ closes 503
    ∷ closes 503 ∷ closes 503 ∷ closes 503 ∷ closes 503 ∷ closes 503 ∷ closes 503 ∷ closes 503
    ∷ closes 503 ∷ closes 503 ∷ closes 503
    ∷ closes 503 ∷ closes 503 ∷ closes 503 ∷ closes 503 ∷ closes 503 ∷ closes 503 ∷ closes 503
    ∷ closes 503 ∷ closes 503 ∷ closes 503 ∷ closes 503 ∷ closes 503 ∷ closes 503 ∷ closes 503
    ∷ closes 503 ∷ closes 503 ∷ closes 503 ∷ closes 503
    ∷ closes 503 ∷ closes 503 ∷ closes 503 ∷ closes 503 ∷ closes 503 ∷ closes 503
    ∷ closes 503 ∷ closes 503
    ∷ closes 503 ∷ closes 503 ∷ closes 503 ∷ closes 503 ∷ closes 503 ∷ tells quiet ∷ closes 501
    ∷ closes 501 ∷ closes 540 ∷ closes 502 ∷ []
client_hold_start = refl

-- a client that has the channel Free
client_free : takes_all client_config (Running) (Free) ≡
    closes 503 ∷ closes 503 ∷ closes 540 ∷ closes 503 ∷ closes 503 ∷ closes 503 ∷ closes 503 ∷ closes 503
    ∷ gives connection_closed kinds.ConnectionCloseOk ∷ closes 503 ∷ tells blocked ∷ tells unblocked
    ∷ closes 503 ∷ closes 504 ∷ closes 504 ∷ closes 504 ∷ closes 504 ∷ closes 504
    ∷ closes 503 ∷ closes 504 ∷ closes 503 ∷ closes 504 ∷ closes 503 ∷ closes 504
    ∷ closes 503 ∷ closes 504
    ∷ closes 503 ∷ closes 504 ∷ closes 503 ∷ closes 504 ∷ closes 503 ∷ closes 504 ∷ closes 503
    ∷ closes 504 ∷ closes 503 ∷ closes 504
    ∷ closes 503 ∷ closes 504 ∷ closes 503 ∷ closes 504 ∷ closes 504 ∷ closes 504 ∷ closes 503
    ∷ closes 504 ∷ closes 504 ∷ closes 503 ∷ closes 504 ∷ closes 504 ∷ closes 504 ∷ closes 503
    ∷ closes 503 ∷ closes 503 ∷ closes 504 ∷ closes 504
    ∷ closes 503 ∷ closes 504 ∷ closes 503 ∷ closes 504 ∷ closes 503 ∷ closes 504
    ∷ closes 503 ∷ closes 504
    ∷ closes 504 ∷ closes 504 ∷ closes 504 ∷ closes 504 ∷ closes 504 ∷ tells quiet ∷ closes 501
    ∷ closes 501 ∷ closes 540 ∷ closes 502 ∷ []
client_free = refl

-- a client that has the channel Opening
client_opening : takes_all client_config (Running) (Opening) ≡
    closes 503 ∷ closes 503 ∷ closes 540 ∷ closes 503 ∷ closes 503 ∷ closes 503 ∷ closes 503 ∷ closes 503
    ∷ gives connection_closed kinds.ConnectionCloseOk ∷ closes 503 ∷ tells blocked ∷ tells unblocked
    ∷ closes 503 ∷ tells opened ∷ closes 504 ∷ closes 504
    ∷ gives channel_closed kinds.ChannelCloseOk ∷ closes 504
    ∷ closes 503 ∷ closes 504 ∷ closes 503 ∷ closes 504 ∷ closes 503 ∷ closes 504
    ∷ closes 503 ∷ closes 504
    ∷ closes 503 ∷ closes 504 ∷ closes 503 ∷ closes 504 ∷ closes 503 ∷ closes 504 ∷ closes 503
    ∷ closes 504 ∷ closes 503 ∷ closes 504
    ∷ closes 503 ∷ closes 504 ∷ closes 503 ∷ closes 504 ∷ closes 504 ∷ closes 504 ∷ closes 503
    ∷ closes 504 ∷ closes 504 ∷ closes 503 ∷ closes 504 ∷ closes 504 ∷ closes 504 ∷ closes 503
    ∷ closes 503 ∷ closes 503 ∷ closes 504 ∷ closes 504
    ∷ closes 503 ∷ closes 504 ∷ closes 503 ∷ closes 504 ∷ closes 503 ∷ closes 504
    ∷ closes 503 ∷ closes 504
    ∷ closes 504 ∷ closes 504 ∷ closes 504 ∷ closes 504 ∷ closes 504 ∷ tells quiet ∷ closes 501
    ∷ closes 501 ∷ closes 540 ∷ closes 502 ∷ []
client_opening = refl

-- a client that has the channel Open, with no request
client_open : takes_all client_config (Running) (an_open Nothing) ≡
    closes 503 ∷ closes 503 ∷ closes 540 ∷ closes 503 ∷ closes 503 ∷ closes 503 ∷ closes 503 ∷ closes 503
    ∷ gives connection_closed kinds.ConnectionCloseOk ∷ closes 503 ∷ tells blocked ∷ tells unblocked
    ∷ closes 503 ∷ closes 503 ∷ gives flow kinds.ChannelFlowOk ∷ closes 503
    ∷ gives channel_closed kinds.ChannelCloseOk ∷ closes 503
    ∷ closes 503 ∷ closes 503 ∷ closes 503 ∷ closes 503 ∷ closes 503 ∷ closes 503
    ∷ closes 503 ∷ closes 503
    ∷ closes 503 ∷ closes 503 ∷ closes 503 ∷ closes 503 ∷ closes 503 ∷ closes 503 ∷ closes 503
    ∷ closes 503 ∷ closes 503 ∷ closes 503
    ∷ closes 503 ∷ closes 503 ∷ closes 503 ∷ closes 503 ∷ tells told ∷ closes 503 ∷ closes 503
    ∷ is_silent ∷ is_silent ∷ closes 503 ∷ closes 503 ∷ closes 503 ∷ tells told ∷ closes 503
    ∷ closes 503 ∷ closes 503 ∷ closes 503 ∷ tells told
    ∷ closes 503 ∷ closes 503 ∷ closes 503 ∷ closes 503 ∷ closes 503 ∷ closes 503
    ∷ closes 503 ∷ closes 503
    ∷ closes 505 ∷ closes 505 ∷ closes 505 ∷ closes 505 ∷ closes 505 ∷ tells quiet ∷ closes 501
    ∷ closes 501 ∷ closes 540 ∷ closes 502 ∷ []
client_open = refl

-- a client that awaits a content header
client_header_due : takes_all client_config (Running) (an_open (HeaderDue (bare kinds.BasicDeliver))) ≡
    closes 503 ∷ closes 503 ∷ closes 540 ∷ closes 503 ∷ closes 503 ∷ closes 503 ∷ closes 503 ∷ closes 503
    ∷ gives connection_closed kinds.ConnectionCloseOk ∷ closes 503 ∷ tells blocked ∷ tells unblocked
    ∷ closes 503 ∷ closes 505 ∷ closes 505 ∷ closes 505
    ∷ gives channel_closed kinds.ChannelCloseOk ∷ closes 505
    ∷ closes 503 ∷ closes 505 ∷ closes 503 ∷ closes 505 ∷ closes 503 ∷ closes 505
    ∷ closes 503 ∷ closes 505
    ∷ closes 503 ∷ closes 505 ∷ closes 503 ∷ closes 505 ∷ closes 503 ∷ closes 505 ∷ closes 503
    ∷ closes 505 ∷ closes 503 ∷ closes 505
    ∷ closes 503 ∷ closes 505 ∷ closes 503 ∷ closes 505 ∷ closes 505 ∷ closes 505 ∷ closes 503
    ∷ closes 505 ∷ closes 505 ∷ closes 503 ∷ closes 505 ∷ closes 505 ∷ closes 505 ∷ closes 503
    ∷ closes 503 ∷ closes 503 ∷ closes 505 ∷ closes 505
    ∷ closes 503 ∷ closes 505 ∷ closes 503 ∷ closes 505 ∷ closes 503 ∷ closes 505
    ∷ closes 503 ∷ closes 505
    ∷ is_silent ∷ refuses ∷ closes 502 ∷ closes 505 ∷ closes 505 ∷ tells quiet ∷ closes 501 ∷ closes 501
    ∷ closes 540 ∷ closes 502 ∷ []
client_header_due = refl

-- a client that awaits five octets of a body
client_body_due : takes_all client_config (Running) (an_open (BodyDue (bare kinds.BasicDeliver) 5 no_properties [])) ≡
    closes 503 ∷ closes 503 ∷ closes 540 ∷ closes 503 ∷ closes 503 ∷ closes 503 ∷ closes 503 ∷ closes 503
    ∷ gives connection_closed kinds.ConnectionCloseOk ∷ closes 503 ∷ tells blocked ∷ tells unblocked
    ∷ closes 503 ∷ closes 505 ∷ closes 505 ∷ closes 505
    ∷ gives channel_closed kinds.ChannelCloseOk ∷ closes 505
    ∷ closes 503 ∷ closes 505 ∷ closes 503 ∷ closes 505 ∷ closes 503 ∷ closes 505
    ∷ closes 503 ∷ closes 505
    ∷ closes 503 ∷ closes 505 ∷ closes 503 ∷ closes 505 ∷ closes 503 ∷ closes 505 ∷ closes 503
    ∷ closes 505 ∷ closes 503 ∷ closes 505
    ∷ closes 503 ∷ closes 505 ∷ closes 503 ∷ closes 505 ∷ closes 505 ∷ closes 505 ∷ closes 503
    ∷ closes 505 ∷ closes 505 ∷ closes 503 ∷ closes 505 ∷ closes 505 ∷ closes 505 ∷ closes 503
    ∷ closes 503 ∷ closes 503 ∷ closes 505 ∷ closes 505
    ∷ closes 503 ∷ closes 505 ∷ closes 503 ∷ closes 505 ∷ closes 503 ∷ closes 505
    ∷ closes 503 ∷ closes 505
    ∷ closes 505 ∷ closes 505 ∷ closes 505 ∷ is_silent ∷ closes 501 ∷ tells quiet ∷ closes 501
    ∷ closes 501 ∷ closes 540 ∷ closes 502 ∷ []
client_body_due = refl

-- a client that has put channel.close
client_channel_closing : takes_all client_config (Running) (Channel.Closing) ≡
    closes 503 ∷ closes 503 ∷ closes 540 ∷ closes 503 ∷ closes 503 ∷ closes 503 ∷ closes 503 ∷ closes 503
    ∷ gives connection_closed kinds.ConnectionCloseOk ∷ closes 503 ∷ tells blocked ∷ tells unblocked
    ∷ tells discarded ∷ tells discarded ∷ tells discarded ∷ tells discarded ∷ gives quiet kinds.ChannelCloseOk
    ∷ tells channel_closed_by_us
    ∷ tells discarded ∷ tells discarded ∷ tells discarded ∷ tells discarded ∷ tells discarded
    ∷ tells discarded ∷ tells discarded ∷ tells discarded
    ∷ tells discarded ∷ tells discarded ∷ tells discarded ∷ tells discarded ∷ tells discarded
    ∷ tells discarded ∷ tells discarded ∷ tells discarded ∷ tells discarded ∷ tells discarded
    ∷ tells discarded ∷ tells discarded ∷ tells discarded ∷ tells discarded ∷ tells discarded
    ∷ tells discarded ∷ tells discarded ∷ tells discarded ∷ tells discarded ∷ tells discarded
    ∷ tells discarded ∷ tells discarded ∷ tells discarded ∷ tells discarded ∷ tells discarded
    ∷ tells discarded ∷ tells discarded ∷ tells discarded
    ∷ tells discarded ∷ tells discarded ∷ tells discarded ∷ tells discarded
    ∷ tells discarded ∷ tells discarded
    ∷ tells discarded ∷ tells discarded
    ∷ tells discarded ∷ tells discarded ∷ tells discarded ∷ tells discarded ∷ tells discarded ∷ tells quiet
    ∷ closes 501 ∷ closes 501 ∷ tells discarded ∷ tells discarded ∷ []
client_channel_closing = refl

-- a client that has put connection.close
client_connection_closing : takes_all client_config (Phase.Closing) (an_open Nothing) ≡
    tells discarded ∷ tells discarded ∷ tells discarded ∷ tells discarded ∷ tells discarded ∷ tells discarded
    ∷ tells discarded ∷ tells discarded ∷ gives quiet kinds.ConnectionCloseOk ∷ tells connection_closed_by_us
    ∷ tells discarded ∷ tells discarded
    ∷ tells discarded ∷ tells discarded ∷ tells discarded ∷ tells discarded
    ∷ tells discarded ∷ tells discarded
    ∷ tells discarded ∷ tells discarded ∷ tells discarded ∷ tells discarded ∷ tells discarded
    ∷ tells discarded ∷ tells discarded ∷ tells discarded
    ∷ tells discarded ∷ tells discarded ∷ tells discarded ∷ tells discarded ∷ tells discarded
    ∷ tells discarded ∷ tells discarded ∷ tells discarded ∷ tells discarded ∷ tells discarded
    ∷ tells discarded ∷ tells discarded ∷ tells discarded ∷ tells discarded ∷ tells discarded
    ∷ tells discarded ∷ tells discarded ∷ tells discarded ∷ tells discarded ∷ tells discarded
    ∷ tells discarded ∷ tells discarded ∷ tells discarded ∷ tells discarded ∷ tells discarded
    ∷ tells discarded ∷ tells discarded ∷ tells discarded
    ∷ tells discarded ∷ tells discarded ∷ tells discarded ∷ tells discarded
    ∷ tells discarded ∷ tells discarded
    ∷ tells discarded ∷ tells discarded
    ∷ tells discarded ∷ tells discarded ∷ tells discarded ∷ tells discarded ∷ tells discarded
    ∷ tells discarded ∷ tells discarded ∷ tells discarded ∷ tells discarded ∷ tells discarded ∷ []
client_connection_closing = refl

-- a server that awaits start-ok
server_await_start_ok : takes_all server_config (Handshake AwaitsStartOk) (Free) ≡
    closes 503 ∷ gives quiet kinds.ConnectionTune ∷ closes 503 ∷ closes 503 ∷ closes 503 ∷ closes 503
    ∷ closes 503 ∷ closes 503 ∷ gives connection_closed kinds.ConnectionCloseOk ∷ closes 503
    ∷ closes 503 ∷ closes 503
    ∷ closes 503 ∷ closes 503 ∷ closes 503 ∷ closes 503 ∷ closes 503 ∷ closes 503
    ∷ closes 503 ∷ closes 503 ∷ closes 503 ∷ closes 503 ∷ closes 503 ∷ closes 503
    ∷ closes 503 ∷ closes 503
    ∷ closes 503 ∷ closes 503 ∷ closes 503 ∷ closes 503 ∷ closes 503 ∷ closes 503 ∷ closes 503
    ∷ closes 503 ∷ closes 503 ∷ closes 503
    ∷ closes 503 ∷ closes 503 ∷ closes 503 ∷ closes 503 ∷ closes 503 ∷ closes 503 ∷ closes 503
    ∷ closes 503 ∷ closes 503 ∷ closes 503 ∷ closes 503 ∷ closes 503 ∷ closes 503 ∷ closes 503
    ∷ closes 503 ∷ closes 503 ∷ closes 503 ∷ closes 503
    ∷ closes 503 ∷ closes 503 ∷ closes 503 ∷ closes 503 ∷ closes 503 ∷ closes 503
    ∷ closes 503 ∷ closes 503
    ∷ closes 503 ∷ closes 503 ∷ closes 503 ∷ closes 503 ∷ closes 503 ∷ tells quiet ∷ closes 501
    ∷ closes 501 ∷ closes 540 ∷ closes 502 ∷ []
server_await_start_ok = refl

-- a server that awaits tune-ok
server_await_tune_ok : takes_all server_config (Handshake AwaitsTuneOk) (Free) ≡
    closes 503 ∷ closes 503 ∷ closes 503 ∷ closes 503 ∷ closes 503 ∷ fatal ∷ closes 503 ∷ closes 503
    ∷ gives connection_closed kinds.ConnectionCloseOk ∷ closes 503 ∷ closes 503 ∷ closes 503
    ∷ closes 503 ∷ closes 503 ∷ closes 503 ∷ closes 503 ∷ closes 503 ∷ closes 503
    ∷ closes 503 ∷ closes 503 ∷ closes 503 ∷ closes 503 ∷ closes 503 ∷ closes 503
    ∷ closes 503 ∷ closes 503
    ∷ closes 503 ∷ closes 503 ∷ closes 503 ∷ closes 503 ∷ closes 503 ∷ closes 503 ∷ closes 503
    ∷ closes 503 ∷ closes 503 ∷ closes 503
    ∷ closes 503 ∷ closes 503 ∷ closes 503 ∷ closes 503 ∷ closes 503 ∷ closes 503 ∷ closes 503
    ∷ closes 503 ∷ closes 503 ∷ closes 503 ∷ closes 503 ∷ closes 503 ∷ closes 503 ∷ closes 503
    ∷ closes 503 ∷ closes 503 ∷ closes 503 ∷ closes 503
    ∷ closes 503 ∷ closes 503 ∷ closes 503 ∷ closes 503 ∷ closes 503 ∷ closes 503
    ∷ closes 503 ∷ closes 503
    ∷ closes 503 ∷ closes 503 ∷ closes 503 ∷ closes 503 ∷ closes 503 ∷ tells quiet ∷ closes 501
    ∷ closes 501 ∷ closes 540 ∷ closes 502 ∷ []
server_await_tune_ok = refl

-- a server that awaits open
server_await_open : takes_all server_config (Handshake AwaitsOpen) (Free) ≡
    closes 503 ∷ closes 503 ∷ closes 503 ∷ closes 503 ∷ closes 503 ∷ closes 503
    ∷ gives negotiated kinds.ConnectionOpenOk ∷ closes 503 ∷ gives connection_closed kinds.ConnectionCloseOk
    ∷ closes 503 ∷ closes 503 ∷ closes 503
    ∷ closes 503 ∷ closes 503 ∷ closes 503 ∷ closes 503 ∷ closes 503 ∷ closes 503
    ∷ closes 503 ∷ closes 503 ∷ closes 503 ∷ closes 503 ∷ closes 503 ∷ closes 503
    ∷ closes 503 ∷ closes 503
    ∷ closes 503 ∷ closes 503 ∷ closes 503 ∷ closes 503 ∷ closes 503 ∷ closes 503 ∷ closes 503
    ∷ closes 503 ∷ closes 503 ∷ closes 503
    ∷ closes 503 ∷ closes 503 ∷ closes 503 ∷ closes 503 ∷ closes 503 ∷ closes 503 ∷ closes 503
    ∷ closes 503 ∷ closes 503 ∷ closes 503 ∷ closes 503 ∷ closes 503 ∷ closes 503 ∷ closes 503
    ∷ closes 503 ∷ closes 503 ∷ closes 503 ∷ closes 503
    ∷ closes 503 ∷ closes 503 ∷ closes 503 ∷ closes 503 ∷ closes 503 ∷ closes 503
    ∷ closes 503 ∷ closes 503
    ∷ closes 503 ∷ closes 503 ∷ closes 503 ∷ closes 503 ∷ closes 503 ∷ tells quiet ∷ closes 501
    ∷ closes 501 ∷ closes 540 ∷ closes 502 ∷ []
server_await_open = refl

-- a server whose application is to admit a login, and an open
server_hold_login : takes_all server_config (Handshake HoldsLogin) (Free) ≡
    closes 503 ∷ closes 503 ∷ closes 503 ∷ closes 503 ∷ closes 503 ∷ closes 503 ∷ closes 503 ∷ closes 503
    ∷ gives connection_closed kinds.ConnectionCloseOk ∷ closes 503 ∷ closes 503 ∷ closes 503
    ∷ closes 503 ∷ closes 503 ∷ closes 503 ∷ closes 503 ∷ closes 503 ∷ closes 503
    ∷ closes 503 ∷ closes 503 ∷ closes 503 ∷ closes 503 ∷ closes 503 ∷ closes 503
    ∷ closes 503 ∷ closes 503
    ∷ closes 503 ∷ closes 503 ∷ closes 503 ∷ closes 503 ∷ closes 503 ∷ closes 503 ∷ closes 503
    ∷ closes 503 ∷ closes 503 ∷ closes 503
    ∷ closes 503 ∷ closes 503 ∷ closes 503 ∷ closes 503 ∷ closes 503 ∷ closes 503 ∷ closes 503
    ∷ closes 503 ∷ closes 503 ∷ closes 503 ∷ closes 503 ∷ closes 503 ∷ closes 503 ∷ closes 503
    ∷ closes 503 ∷ closes 503 ∷ closes 503 ∷ closes 503
    ∷ closes 503 ∷ closes 503 ∷ closes 503 ∷ closes 503 ∷ closes 503 ∷ closes 503
    ∷ closes 503 ∷ closes 503
    ∷ closes 503 ∷ closes 503 ∷ closes 503 ∷ closes 503 ∷ closes 503 ∷ tells quiet ∷ closes 501
    ∷ closes 501 ∷ closes 540 ∷ closes 502 ∷ []
server_hold_login = refl

server_hold_open : takes_all server_config (Handshake HoldsOpen) (Free) ≡
    closes 503 ∷ closes 503 ∷ closes 503 ∷ closes 503 ∷ closes 503 ∷ closes 503 ∷ closes 503 ∷ closes 503
    ∷ gives connection_closed kinds.ConnectionCloseOk ∷ closes 503 ∷ closes 503 ∷ closes 503
    ∷ closes 503 ∷ closes 503 ∷ closes 503 ∷ closes 503 ∷ closes 503 ∷ closes 503
    ∷ closes 503 ∷ closes 503 ∷ closes 503 ∷ closes 503 ∷ closes 503 ∷ closes 503
    ∷ closes 503 ∷ closes 503
    ∷ closes 503 ∷ closes 503 ∷ closes 503 ∷ closes 503 ∷ closes 503 ∷ closes 503 ∷ closes 503
    ∷ closes 503 ∷ closes 503 ∷ closes 503
    ∷ closes 503 ∷ closes 503 ∷ closes 503 ∷ closes 503 ∷ closes 503 ∷ closes 503 ∷ closes 503
    ∷ closes 503 ∷ closes 503 ∷ closes 503 ∷ closes 503 ∷ closes 503 ∷ closes 503 ∷ closes 503
    ∷ closes 503 ∷ closes 503 ∷ closes 503 ∷ closes 503
    ∷ closes 503 ∷ closes 503 ∷ closes 503 ∷ closes 503 ∷ closes 503 ∷ closes 503
    ∷ closes 503 ∷ closes 503
    ∷ closes 503 ∷ closes 503 ∷ closes 503 ∷ closes 503 ∷ closes 503 ∷ tells quiet ∷ closes 501
    ∷ closes 501 ∷ closes 540 ∷ closes 502 ∷ []
server_hold_open = refl

-- a server that has the channel Free
server_free : takes_all server_config (Running) (Free) ≡
    closes 503 ∷ closes 503 ∷ closes 503 ∷ closes 503 ∷ closes 503 ∷ closes 503 ∷ closes 503 ∷ closes 503
    ∷ gives connection_closed kinds.ConnectionCloseOk ∷ closes 503 ∷ closes 503 ∷ closes 503
    ∷ gives opened kinds.ChannelOpenOk ∷ closes 503 ∷ closes 504 ∷ closes 504 ∷ closes 504 ∷ closes 504
    ∷ closes 504 ∷ closes 503 ∷ closes 504 ∷ closes 503 ∷ closes 504 ∷ closes 503
    ∷ closes 504 ∷ closes 503
    ∷ closes 504 ∷ closes 503 ∷ closes 504 ∷ closes 503 ∷ closes 504 ∷ closes 503 ∷ closes 504
    ∷ closes 503 ∷ closes 504 ∷ closes 503
    ∷ closes 504 ∷ closes 503 ∷ closes 504 ∷ closes 503 ∷ closes 504 ∷ closes 504 ∷ closes 504
    ∷ closes 503 ∷ closes 503 ∷ closes 504 ∷ closes 503 ∷ closes 503 ∷ closes 504 ∷ closes 504
    ∷ closes 504 ∷ closes 504 ∷ closes 503 ∷ closes 504
    ∷ closes 504 ∷ closes 503 ∷ closes 504 ∷ closes 503 ∷ closes 504 ∷ closes 503
    ∷ closes 504 ∷ closes 503
    ∷ closes 504 ∷ closes 504 ∷ closes 504 ∷ closes 504 ∷ closes 504 ∷ tells quiet ∷ closes 501
    ∷ closes 501 ∷ closes 540 ∷ closes 502 ∷ []
server_free = refl

-- a server that has the channel Open, with no request
server_open : takes_all server_config (Running) (an_open Nothing) ≡
    closes 503 ∷ closes 503 ∷ closes 503 ∷ closes 503 ∷ closes 503 ∷ closes 503 ∷ closes 503 ∷ closes 503
    ∷ gives connection_closed kinds.ConnectionCloseOk ∷ closes 503 ∷ closes 503 ∷ closes 503
    ∷ closes 504 ∷ closes 503 ∷ gives flow kinds.ChannelFlowOk ∷ closes 503
    ∷ gives channel_closed kinds.ChannelCloseOk ∷ closes 503
    ∷ tells told ∷ closes 503 ∷ tells told ∷ closes 503 ∷ tells told ∷ closes 503
    ∷ tells told ∷ closes 503
    ∷ tells told ∷ closes 503 ∷ tells told ∷ closes 503 ∷ tells told ∷ closes 503 ∷ tells told
    ∷ closes 503 ∷ tells told ∷ closes 503
    ∷ tells told ∷ closes 503 ∷ tells told ∷ closes 503 ∷ tells told ∷ tells told ∷ is_silent
    ∷ closes 503 ∷ closes 503 ∷ tells told ∷ closes 503 ∷ closes 503 ∷ tells told ∷ tells told
    ∷ tells told ∷ tells told ∷ closes 503 ∷ tells told
    ∷ tells told ∷ closes 503 ∷ tells told ∷ closes 503 ∷ tells told ∷ closes 503
    ∷ tells told ∷ closes 503
    ∷ closes 505 ∷ closes 505 ∷ closes 505 ∷ closes 505 ∷ closes 505 ∷ tells quiet ∷ closes 501
    ∷ closes 501 ∷ closes 540 ∷ closes 502 ∷ []
server_open = refl

-- a server that awaits a content header
server_header_due : takes_all server_config (Running) (an_open (HeaderDue (bare kinds.BasicPublish))) ≡
    closes 503 ∷ closes 503 ∷ closes 503 ∷ closes 503 ∷ closes 503 ∷ closes 503 ∷ closes 503 ∷ closes 503
    ∷ gives connection_closed kinds.ConnectionCloseOk ∷ closes 503 ∷ closes 503 ∷ closes 503
    ∷ closes 505 ∷ closes 503 ∷ closes 505 ∷ closes 505
    ∷ gives channel_closed kinds.ChannelCloseOk ∷ closes 505
    ∷ closes 505 ∷ closes 503 ∷ closes 505 ∷ closes 503 ∷ closes 505 ∷ closes 503
    ∷ closes 505 ∷ closes 503
    ∷ closes 505 ∷ closes 503 ∷ closes 505 ∷ closes 503 ∷ closes 505 ∷ closes 503 ∷ closes 505
    ∷ closes 503 ∷ closes 505 ∷ closes 503
    ∷ closes 505 ∷ closes 503 ∷ closes 505 ∷ closes 503 ∷ closes 505 ∷ closes 505 ∷ closes 505
    ∷ closes 503 ∷ closes 503 ∷ closes 505 ∷ closes 503 ∷ closes 503 ∷ closes 505 ∷ closes 505
    ∷ closes 505 ∷ closes 505 ∷ closes 503 ∷ closes 505
    ∷ closes 505 ∷ closes 503 ∷ closes 505 ∷ closes 503 ∷ closes 505 ∷ closes 503
    ∷ closes 505 ∷ closes 503
    ∷ is_silent ∷ refuses ∷ closes 502 ∷ closes 505 ∷ closes 505 ∷ tells quiet ∷ closes 501 ∷ closes 501
    ∷ closes 540 ∷ closes 502 ∷ []
server_header_due = refl

-- a server that awaits five octets of a body
server_body_due : takes_all server_config (Running) (an_open (BodyDue (bare kinds.BasicPublish) 5 no_properties [])) ≡
    closes 503 ∷ closes 503 ∷ closes 503 ∷ closes 503 ∷ closes 503 ∷ closes 503 ∷ closes 503 ∷ closes 503
    ∷ gives connection_closed kinds.ConnectionCloseOk ∷ closes 503 ∷ closes 503 ∷ closes 503
    ∷ closes 505 ∷ closes 503 ∷ closes 505 ∷ closes 505
    ∷ gives channel_closed kinds.ChannelCloseOk ∷ closes 505
    ∷ closes 505 ∷ closes 503 ∷ closes 505 ∷ closes 503 ∷ closes 505 ∷ closes 503
    ∷ closes 505 ∷ closes 503
    ∷ closes 505 ∷ closes 503 ∷ closes 505 ∷ closes 503 ∷ closes 505 ∷ closes 503 ∷ closes 505
    ∷ closes 503 ∷ closes 505 ∷ closes 503
    ∷ closes 505 ∷ closes 503 ∷ closes 505 ∷ closes 503 ∷ closes 505 ∷ closes 505 ∷ closes 505
    ∷ closes 503 ∷ closes 503 ∷ closes 505 ∷ closes 503 ∷ closes 503 ∷ closes 505 ∷ closes 505
    ∷ closes 505 ∷ closes 505 ∷ closes 503 ∷ closes 505
    ∷ closes 505 ∷ closes 503 ∷ closes 505 ∷ closes 503 ∷ closes 505 ∷ closes 503
    ∷ closes 505 ∷ closes 503
    ∷ closes 505 ∷ closes 505 ∷ closes 505 ∷ is_silent ∷ closes 501 ∷ tells quiet ∷ closes 501
    ∷ closes 501 ∷ closes 540 ∷ closes 502 ∷ []
server_body_due = refl

-- a server that has put channel.close
server_channel_closing : takes_all server_config (Running) (Channel.Closing) ≡
    closes 503 ∷ closes 503 ∷ closes 503 ∷ closes 503 ∷ closes 503 ∷ closes 503 ∷ closes 503 ∷ closes 503
    ∷ gives connection_closed kinds.ConnectionCloseOk ∷ closes 503 ∷ closes 503 ∷ closes 503
    ∷ tells discarded ∷ tells discarded ∷ tells discarded ∷ tells discarded ∷ gives quiet kinds.ChannelCloseOk
    ∷ tells channel_closed_by_us
    ∷ tells discarded ∷ tells discarded ∷ tells discarded ∷ tells discarded ∷ tells discarded
    ∷ tells discarded ∷ tells discarded ∷ tells discarded
    ∷ tells discarded ∷ tells discarded ∷ tells discarded ∷ tells discarded ∷ tells discarded
    ∷ tells discarded ∷ tells discarded ∷ tells discarded ∷ tells discarded ∷ tells discarded
    ∷ tells discarded ∷ tells discarded ∷ tells discarded ∷ tells discarded ∷ tells discarded
    ∷ tells discarded ∷ tells discarded ∷ tells discarded ∷ tells discarded ∷ tells discarded
    ∷ tells discarded ∷ tells discarded ∷ tells discarded ∷ tells discarded ∷ tells discarded
    ∷ tells discarded ∷ tells discarded ∷ tells discarded
    ∷ tells discarded ∷ tells discarded ∷ tells discarded ∷ tells discarded
    ∷ tells discarded ∷ tells discarded
    ∷ tells discarded ∷ tells discarded
    ∷ tells discarded ∷ tells discarded ∷ tells discarded ∷ tells discarded ∷ tells discarded ∷ tells quiet
    ∷ closes 501 ∷ closes 501 ∷ tells discarded ∷ tells discarded ∷ []
server_channel_closing = refl

-- a server that has put connection.close
server_connection_closing : takes_all server_config (Phase.Closing) (an_open Nothing) ≡
    tells discarded ∷ tells discarded ∷ tells discarded ∷ tells discarded ∷ tells discarded ∷ tells discarded
    ∷ tells discarded ∷ tells discarded ∷ gives quiet kinds.ConnectionCloseOk ∷ tells connection_closed_by_us
    ∷ tells discarded ∷ tells discarded
    ∷ tells discarded ∷ tells discarded ∷ tells discarded ∷ tells discarded
    ∷ tells discarded ∷ tells discarded
    ∷ tells discarded ∷ tells discarded ∷ tells discarded ∷ tells discarded ∷ tells discarded
    ∷ tells discarded ∷ tells discarded ∷ tells discarded
    ∷ tells discarded ∷ tells discarded ∷ tells discarded ∷ tells discarded ∷ tells discarded
    ∷ tells discarded ∷ tells discarded ∷ tells discarded ∷ tells discarded ∷ tells discarded
    ∷ tells discarded ∷ tells discarded ∷ tells discarded ∷ tells discarded ∷ tells discarded
    ∷ tells discarded ∷ tells discarded ∷ tells discarded ∷ tells discarded ∷ tells discarded
    ∷ tells discarded ∷ tells discarded ∷ tells discarded ∷ tells discarded ∷ tells discarded
    ∷ tells discarded ∷ tells discarded ∷ tells discarded
    ∷ tells discarded ∷ tells discarded ∷ tells discarded ∷ tells discarded
    ∷ tells discarded ∷ tells discarded
    ∷ tells discarded ∷ tells discarded
    ∷ tells discarded ∷ tells discarded ∷ tells discarded ∷ tells discarded ∷ tells discarded
    ∷ tells discarded ∷ tells discarded ∷ tells discarded ∷ tells discarded ∷ tells discarded ∷ []
server_connection_closing = refl

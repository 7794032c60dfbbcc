-- What the table of methods says of a kind, and which kind two numbers name.
use Rattle.std.specs.Prelude.{◌≡◌, ℕ, ◌==◌, ◌&&◌, List, [], ◌∷◌, ◌++◌, Bool, true, false, Option, Some, None, if◌then◌else◌, slice_index_or}
use Rattle.amqp_method.specs.declared.kinds.Kind.{Kind}
use Rattle.amqp_method.specs.declared.kinds.Kind.TheVariants.{ConnectionStart, ConnectionStartOk, ConnectionSecure, ConnectionSecureOk, ConnectionTune, ConnectionTuneOk, ConnectionOpen, ConnectionOpenOk, ConnectionClose, ConnectionCloseOk, ConnectionBlocked, ConnectionUnblocked, ChannelOpen, ChannelOpenOk, ChannelFlow, ChannelFlowOk, ChannelClose, ChannelCloseOk, ExchangeDeclare, ExchangeDeclareOk, ExchangeDelete, ExchangeDeleteOk, ExchangeBind, ExchangeBindOk, ExchangeUnbind, ExchangeUnbindOk, QueueDeclare, QueueDeclareOk, QueueBind, QueueBindOk, QueueUnbind, QueueUnbindOk, QueuePurge, QueuePurgeOk, QueueDelete, QueueDeleteOk, BasicQos, BasicQosOk, BasicConsume, BasicConsumeOk, BasicCancel, BasicCancelOk, BasicPublish, BasicReturn, BasicDeliver, BasicGet, BasicGetOk, BasicGetEmpty, BasicAck, BasicReject, BasicRecoverAsync, BasicRecover, BasicRecoverOk, BasicNack, TxSelect, TxSelectOk, TxCommit, TxCommitOk, TxRollback, TxRollbackOk, ConfirmSelect, ConfirmSelectOk}
use Rattle.amqp_method.specs.declared.table.Sender.{Sender}
use Rattle.amqp_method.specs.declared.table.Sender.TheVariants.{Client, Server, Both}
use Rattle.amqp_method.specs.Methods.{FieldRow, row}

-- the kinds of each class
abbrev pub connection_kinds : List Kind
connection_kinds =
    ConnectionStart ∷ ConnectionStartOk ∷ ConnectionSecure ∷ ConnectionSecureOk ∷ ConnectionTune ∷ ConnectionTuneOk
    ∷ ConnectionOpen
    ∷ ConnectionOpenOk ∷ ConnectionClose ∷ ConnectionCloseOk ∷ ConnectionBlocked ∷ ConnectionUnblocked ∷ []

abbrev pub channel_kinds : List Kind
channel_kinds = ChannelOpen ∷ ChannelOpenOk ∷ ChannelFlow ∷ ChannelFlowOk ∷ ChannelClose ∷ ChannelCloseOk ∷ []

abbrev pub exchange_kinds : List Kind
exchange_kinds =
    ExchangeDeclare ∷ ExchangeDeclareOk ∷ ExchangeDelete ∷ ExchangeDeleteOk ∷ ExchangeBind ∷ ExchangeBindOk
    ∷ ExchangeUnbind
    ∷ ExchangeUnbindOk ∷ []

abbrev pub queue_kinds : List Kind
queue_kinds =
    QueueDeclare ∷ QueueDeclareOk ∷ QueueBind ∷ QueueBindOk ∷ QueueUnbind ∷ QueueUnbindOk ∷ QueuePurge ∷ QueuePurgeOk
    ∷ QueueDelete
    ∷ QueueDeleteOk ∷ []

abbrev pub basic_kinds : List Kind
basic_kinds =
    BasicQos ∷ BasicQosOk ∷ BasicConsume ∷ BasicConsumeOk ∷ BasicCancel ∷ BasicCancelOk ∷ BasicPublish ∷ BasicReturn
    ∷ BasicDeliver
    ∷ BasicGet ∷ BasicGetOk ∷ BasicGetEmpty ∷ BasicAck ∷ BasicReject ∷ BasicRecoverAsync ∷ BasicRecover
    ∷ BasicRecoverOk ∷ BasicNack ∷ []

abbrev pub tx_kinds : List Kind
tx_kinds = TxSelect ∷ TxSelectOk ∷ TxCommit ∷ TxCommitOk ∷ TxRollback ∷ TxRollbackOk ∷ []

abbrev pub confirm_kinds : List Kind
confirm_kinds = ConfirmSelect ∷ ConfirmSelectOk ∷ []

-- every kind
abbrev pub kinds : List Kind
kinds = connection_kinds ++ channel_kinds ++ exchange_kinds ++ queue_kinds ++ basic_kinds ++ tx_kinds ++ confirm_kinds

-- the kind at a place in that list, counted from 0
unfoldable pub kind_numbered : ℕ → Kind
kind_numbered number = slice_index_or kinds number ConnectionStart

-- the numbers that name a kind
pub record HasIds (class id : ℕ) (kind : Kind) : Type 0 where
  pub class_is : (row kind).class ≡ class
  pub id_is : (row kind).id ≡ id

-- the kind of a class that has the method number
unfoldable pub with_id : ℕ → List Kind → Option Kind
with_id id [] = None
with_id id (kind ∷ others) = if id == (row kind).id then Some kind else with_id id others

-- the kind that two numbers name, if they name one
abbrev pub kind_with : ℕ → ℕ → Option Kind
kind_with class id =
    if class == 10 then with_id id connection_kinds
    else (if class == 20 then with_id id channel_kinds
    else (if class == 40 then with_id id exchange_kinds
    else (if class == 50 then with_id id queue_kinds
    else (if class == 60 then with_id id basic_kinds
    else (if class == 90 then with_id id tx_kinds
    else (if class == 85 then with_id id confirm_kinds
    else None))))))

-- the class id and the method id
abbrev pub class_of : Kind → ℕ
class_of kind = (row kind).class

abbrev pub id_of : Kind → ℕ
id_of kind = (row kind).id

-- the same method
abbrev pub same_kind : Kind → Kind → Bool
same_kind kind other = (class_of kind == class_of other) && (id_of kind == id_of other)

-- whether the client, or the server, sends it
abbrev pub permits : Sender → Bool → Bool
permits Client client = client
permits Server true = false
permits Server false = true
permits Both client = true

abbrev pub sends : Bool → Kind → Bool
sends client kind = permits (row kind).sender client

-- a content header and a content body follow
abbrev pub has_content : Kind → Bool
has_content kind = (row kind).content

abbrev pub fields_of : Kind → List FieldRow
fields_of kind = (row kind).fields

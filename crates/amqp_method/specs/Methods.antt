-- The methods, one row each: `amqp0-9-1.xml`, in its order and its words. After those of the standard in each class
-- stand the methods that RabbitMQ added: connection.blocked and unblocked, exchange.bind and unbind, basic.nack and the
-- class confirm. The third and fourth bits of exchange.declare, which the standard reserves, bear the names that
-- RabbitMQ gave them; and basic.ack, basic.cancel and basic.cancel-ok are sent by both sides, as it has them.
use Rattle.std.specs.Prelude.{ℕ, List, [], ◌∷◌, Bool, true, false, Option, Some, None, codes}
use Rattle.amqp_method.specs.declared.fields.FieldKind.{FieldKind}
use Rattle.amqp_method.specs.declared.fields.FieldKind.TheVariants.{Bit, Octet, Short, Long, LongLong, ShortStr, LongStr, Table}
use Rattle.amqp_method.specs.declared.kinds.Kind.{Kind}
use Rattle.amqp_method.specs.declared.kinds.Kind.TheVariants.{ConnectionStart, ConnectionStartOk, ConnectionSecure, ConnectionSecureOk, ConnectionTune, ConnectionTuneOk, ConnectionOpen, ConnectionOpenOk, ConnectionClose, ConnectionCloseOk, ConnectionBlocked, ConnectionUnblocked, ChannelOpen, ChannelOpenOk, ChannelFlow, ChannelFlowOk, ChannelClose, ChannelCloseOk, ExchangeDeclare, ExchangeDeclareOk, ExchangeDelete, ExchangeDeleteOk, ExchangeBind, ExchangeBindOk, ExchangeUnbind, ExchangeUnbindOk, QueueDeclare, QueueDeclareOk, QueueBind, QueueBindOk, QueueUnbind, QueueUnbindOk, QueuePurge, QueuePurgeOk, QueueDelete, QueueDeleteOk, BasicQos, BasicQosOk, BasicConsume, BasicConsumeOk, BasicCancel, BasicCancelOk, BasicPublish, BasicReturn, BasicDeliver, BasicGet, BasicGetOk, BasicGetEmpty, BasicAck, BasicReject, BasicRecoverAsync, BasicRecover, BasicRecoverOk, BasicNack, TxSelect, TxSelectOk, TxCommit, TxCommitOk, TxRollback, TxRollbackOk, ConfirmSelect, ConfirmSelectOk}
use Rattle.amqp_method.specs.declared.table.Sender.{Sender}
use Rattle.amqp_method.specs.declared.table.Sender.TheVariants.{Client, Server, Both}

-- an argument of a method, or a reserved field in its place
pub record FieldRow : Type 0 where
  pub name : List ℕ
  pub kind : FieldKind
  pub reserved : Bool

abbrev field : FieldKind → List ℕ → FieldRow
field kind name = record { name = name; kind = kind; reserved = false }

abbrev reserved_field : FieldKind → List ℕ → FieldRow
reserved_field kind name = record { name = name; kind = kind; reserved = true }

-- what a client's method asks for: a reply in any case, a reply unless the bit no-wait at this place is 1, or none
pub data Wanted : Type 0 where
  Always Never : Wanted
  UnlessNoWait : (place : ℕ) → Wanted

pub record Row : Type 0 where
  -- the class and the method in it, by number
  pub class : ℕ
  pub id : ℕ
  -- and by name
  pub name : List ℕ
  pub sender : Sender
  -- a content header and a content body follow
  pub content : Bool
  -- the request that the method replies to, if it is a reply
  pub answers : Option Kind
  -- the reply that a method of a client asks for; the classes connection and channel have answers of their own
  pub wanted : Wanted
  pub fields : List FieldRow

-- by number, name, sender, whether content follows, the request that it answers, the reply that it asks for, and the
-- fields
abbrev method : ℕ → ℕ → List ℕ → Sender → Bool → Option Kind → Wanted → List FieldRow → Row
method class id name sender content answers wanted fields =
    record { class = class; id = id; name = name; sender = sender; content = content; answers = answers; wanted = wanted; fields = fields }

abbrev pub row : Kind → Row
row ConnectionStart =
    method 10 10 (codes "connection.start") Server false None Never
    (field Octet (codes "version-major") ∷ field Octet (codes "version-minor") ∷ field Table (codes "server-properties")
    ∷ field LongStr (codes "mechanisms") ∷ field LongStr (codes "locales") ∷ [])
row ConnectionStartOk =
    method 10 11 (codes "connection.start-ok") Client false (Some ConnectionStart) Never
    (field Table (codes "client-properties") ∷ field ShortStr (codes "mechanism") ∷ field LongStr (codes "response")
    ∷ field ShortStr (codes "locale") ∷ [])
row ConnectionSecure =
    method 10 20 (codes "connection.secure") Server false None Never (field LongStr (codes "challenge") ∷ [])
row ConnectionSecureOk =
    method 10 21 (codes "connection.secure-ok") Client false (Some ConnectionSecure) Never
    (field LongStr (codes "response") ∷ [])
row ConnectionTune =
    method 10 30 (codes "connection.tune") Server false None Never
    (field Short (codes "channel-max") ∷ field Long (codes "frame-max") ∷ field Short (codes "heartbeat") ∷ [])
row ConnectionTuneOk =
    method 10 31 (codes "connection.tune-ok") Client false (Some ConnectionTune) Never
    (field Short (codes "channel-max") ∷ field Long (codes "frame-max") ∷ field Short (codes "heartbeat") ∷ [])
row ConnectionOpen =
    method 10 40 (codes "connection.open") Client false None Never
    (field ShortStr (codes "virtual-host") ∷ reserved_field ShortStr (codes "reserved-1")
    ∷ reserved_field Bit (codes "reserved-2") ∷ [])
row ConnectionOpenOk =
    method 10 41 (codes "connection.open-ok") Server false (Some ConnectionOpen) Never
    (reserved_field ShortStr (codes "reserved-1") ∷ [])
row ConnectionClose =
    method 10 50 (codes "connection.close") Both false None Never
    (field Short (codes "reply-code") ∷ field ShortStr (codes "reply-text") ∷ field Short (codes "class-id")
    ∷ field Short (codes "method-id") ∷ [])
row ConnectionCloseOk =
    method 10 51 (codes "connection.close-ok") Both false (Some ConnectionClose) Never []
row ConnectionBlocked =
    method 10 60 (codes "connection.blocked") Server false None Never (field ShortStr (codes "reason") ∷ [])
row ConnectionUnblocked =
    method 10 61 (codes "connection.unblocked") Server false None Never []
row ChannelOpen =
    method 20 10 (codes "channel.open") Client false None Never (reserved_field ShortStr (codes "reserved-1") ∷ [])
row ChannelOpenOk =
    method 20 11 (codes "channel.open-ok") Server false (Some ChannelOpen) Never
    (reserved_field LongStr (codes "reserved-1") ∷ [])
row ChannelFlow =
    method 20 20 (codes "channel.flow") Both false None Never (field Bit (codes "active") ∷ [])
row ChannelFlowOk =
    method 20 21 (codes "channel.flow-ok") Both false (Some ChannelFlow) Never (field Bit (codes "active") ∷ [])
row ChannelClose =
    method 20 40 (codes "channel.close") Both false None Never
    (field Short (codes "reply-code") ∷ field ShortStr (codes "reply-text") ∷ field Short (codes "class-id")
    ∷ field Short (codes "method-id") ∷ [])
row ChannelCloseOk =
    method 20 41 (codes "channel.close-ok") Both false (Some ChannelClose) Never []
row ExchangeDeclare =
    method 40 10 (codes "exchange.declare") Client false None (UnlessNoWait 6)
    (reserved_field Short (codes "reserved-1") ∷ field ShortStr (codes "exchange") ∷ field ShortStr (codes "type")
    ∷ field Bit (codes "passive") ∷ field Bit (codes "durable") ∷ field Bit (codes "auto-delete")
    ∷ field Bit (codes "internal")
    ∷ field Bit (codes "no-wait") ∷ field Table (codes "arguments") ∷ [])
row ExchangeDeclareOk =
    method 40 11 (codes "exchange.declare-ok") Server false (Some ExchangeDeclare) Never []
row ExchangeDelete =
    method 40 20 (codes "exchange.delete") Client false None (UnlessNoWait 2)
    (reserved_field Short (codes "reserved-1") ∷ field ShortStr (codes "exchange") ∷ field Bit (codes "if-unused")
    ∷ field Bit (codes "no-wait") ∷ [])
row ExchangeDeleteOk =
    method 40 21 (codes "exchange.delete-ok") Server false (Some ExchangeDelete) Never []
row ExchangeBind =
    method 40 30 (codes "exchange.bind") Client false None (UnlessNoWait 3)
    (reserved_field Short (codes "reserved-1") ∷ field ShortStr (codes "destination") ∷ field ShortStr (codes "source")
    ∷ field ShortStr (codes "routing-key") ∷ field Bit (codes "no-wait") ∷ field Table (codes "arguments") ∷ [])
row ExchangeBindOk =
    method 40 31 (codes "exchange.bind-ok") Server false (Some ExchangeBind) Never []
row ExchangeUnbind =
    method 40 40 (codes "exchange.unbind") Client false None (UnlessNoWait 3)
    (reserved_field Short (codes "reserved-1") ∷ field ShortStr (codes "destination") ∷ field ShortStr (codes "source")
    ∷ field ShortStr (codes "routing-key") ∷ field Bit (codes "no-wait") ∷ field Table (codes "arguments") ∷ [])
row ExchangeUnbindOk =
    method 40 51 (codes "exchange.unbind-ok") Server false (Some ExchangeUnbind) Never []
row QueueDeclare =
    method 50 10 (codes "queue.declare") Client false None (UnlessNoWait 5)
    (reserved_field Short (codes "reserved-1") ∷ field ShortStr (codes "queue") ∷ field Bit (codes "passive")
    ∷ field Bit (codes "durable") ∷ field Bit (codes "exclusive") ∷ field Bit (codes "auto-delete")
    ∷ field Bit (codes "no-wait") ∷ field Table (codes "arguments") ∷ [])
row QueueDeclareOk =
    method 50 11 (codes "queue.declare-ok") Server false (Some QueueDeclare) Never
    (field ShortStr (codes "queue") ∷ field Long (codes "message-count") ∷ field Long (codes "consumer-count") ∷ [])
row QueueBind =
    method 50 20 (codes "queue.bind") Client false None (UnlessNoWait 3)
    (reserved_field Short (codes "reserved-1") ∷ field ShortStr (codes "queue") ∷ field ShortStr (codes "exchange")
    ∷ field ShortStr (codes "routing-key") ∷ field Bit (codes "no-wait") ∷ field Table (codes "arguments") ∷ [])
row QueueBindOk =
    method 50 21 (codes "queue.bind-ok") Server false (Some QueueBind) Never []
row QueueUnbind =
    method 50 50 (codes "queue.unbind") Client false None Always
    (reserved_field Short (codes "reserved-1") ∷ field ShortStr (codes "queue") ∷ field ShortStr (codes "exchange")
    ∷ field ShortStr (codes "routing-key") ∷ field Table (codes "arguments") ∷ [])
row QueueUnbindOk =
    method 50 51 (codes "queue.unbind-ok") Server false (Some QueueUnbind) Never []
row QueuePurge =
    method 50 30 (codes "queue.purge") Client false None (UnlessNoWait 1)
    (reserved_field Short (codes "reserved-1") ∷ field ShortStr (codes "queue") ∷ field Bit (codes "no-wait") ∷ [])
row QueuePurgeOk =
    method 50 31 (codes "queue.purge-ok") Server false (Some QueuePurge) Never (field Long (codes "message-count") ∷ [])
row QueueDelete =
    method 50 40 (codes "queue.delete") Client false None (UnlessNoWait 3)
    (reserved_field Short (codes "reserved-1") ∷ field ShortStr (codes "queue") ∷ field Bit (codes "if-unused")
    ∷ field Bit (codes "if-empty") ∷ field Bit (codes "no-wait") ∷ [])
row QueueDeleteOk =
    method 50 41 (codes "queue.delete-ok") Server false (Some QueueDelete) Never
    (field Long (codes "message-count") ∷ [])
row BasicQos =
    method 60 10 (codes "basic.qos") Client false None Always
    (field Long (codes "prefetch-size") ∷ field Short (codes "prefetch-count") ∷ field Bit (codes "global") ∷ [])
row BasicQosOk =
    method 60 11 (codes "basic.qos-ok") Server false (Some BasicQos) Never []
row BasicConsume =
    method 60 20 (codes "basic.consume") Client false None (UnlessNoWait 5)
    (reserved_field Short (codes "reserved-1") ∷ field ShortStr (codes "queue") ∷ field ShortStr (codes "consumer-tag")
    ∷ field Bit (codes "no-local") ∷ field Bit (codes "no-ack") ∷ field Bit (codes "exclusive")
    ∷ field Bit (codes "no-wait")
    ∷ field Table (codes "arguments") ∷ [])
row BasicConsumeOk =
    method 60 21 (codes "basic.consume-ok") Server false (Some BasicConsume) Never
    (field ShortStr (codes "consumer-tag") ∷ [])
row BasicCancel =
    method 60 30 (codes "basic.cancel") Both false None (UnlessNoWait 1)
    (field ShortStr (codes "consumer-tag") ∷ field Bit (codes "no-wait") ∷ [])
row BasicCancelOk =
    method 60 31 (codes "basic.cancel-ok") Both false (Some BasicCancel) Never
    (field ShortStr (codes "consumer-tag") ∷ [])
row BasicPublish =
    method 60 40 (codes "basic.publish") Client true None Never
    (reserved_field Short (codes "reserved-1") ∷ field ShortStr (codes "exchange")
    ∷ field ShortStr (codes "routing-key")
    ∷ field Bit (codes "mandatory") ∷ field Bit (codes "immediate") ∷ [])
row BasicReturn =
    method 60 50 (codes "basic.return") Server true None Never
    (field Short (codes "reply-code") ∷ field ShortStr (codes "reply-text") ∷ field ShortStr (codes "exchange")
    ∷ field ShortStr (codes "routing-key") ∷ [])
row BasicDeliver =
    method 60 60 (codes "basic.deliver") Server true None Never
    (field ShortStr (codes "consumer-tag") ∷ field LongLong (codes "delivery-tag") ∷ field Bit (codes "redelivered")
    ∷ field ShortStr (codes "exchange") ∷ field ShortStr (codes "routing-key") ∷ [])
row BasicGet =
    method 60 70 (codes "basic.get") Client false None Always
    (reserved_field Short (codes "reserved-1") ∷ field ShortStr (codes "queue") ∷ field Bit (codes "no-ack") ∷ [])
row BasicGetOk =
    method 60 71 (codes "basic.get-ok") Server true (Some BasicGet) Never
    (field LongLong (codes "delivery-tag") ∷ field Bit (codes "redelivered") ∷ field ShortStr (codes "exchange")
    ∷ field ShortStr (codes "routing-key") ∷ field Long (codes "message-count") ∷ [])
row BasicGetEmpty =
    method 60 72 (codes "basic.get-empty") Server false (Some BasicGet) Never
    (reserved_field ShortStr (codes "reserved-1") ∷ [])
row BasicAck =
    method 60 80 (codes "basic.ack") Both false None Never
    (field LongLong (codes "delivery-tag") ∷ field Bit (codes "multiple") ∷ [])
row BasicReject =
    method 60 90 (codes "basic.reject") Client false None Never
    (field LongLong (codes "delivery-tag") ∷ field Bit (codes "requeue") ∷ [])
row BasicRecoverAsync =
    method 60 100 (codes "basic.recover-async") Client false None Never (field Bit (codes "requeue") ∷ [])
row BasicRecover =
    method 60 110 (codes "basic.recover") Client false None Always (field Bit (codes "requeue") ∷ [])
row BasicRecoverOk =
    method 60 111 (codes "basic.recover-ok") Server false (Some BasicRecover) Never []
row BasicNack =
    method 60 120 (codes "basic.nack") Both false None Never
    (field LongLong (codes "delivery-tag") ∷ field Bit (codes "multiple") ∷ field Bit (codes "requeue") ∷ [])
row TxSelect =
    method 90 10 (codes "tx.select") Client false None Always []
row TxSelectOk =
    method 90 11 (codes "tx.select-ok") Server false (Some TxSelect) Never []
row TxCommit =
    method 90 20 (codes "tx.commit") Client false None Always []
row TxCommitOk =
    method 90 21 (codes "tx.commit-ok") Server false (Some TxCommit) Never []
row TxRollback =
    method 90 30 (codes "tx.rollback") Client false None Always []
row TxRollbackOk =
    method 90 31 (codes "tx.rollback-ok") Server false (Some TxRollback) Never []
row ConfirmSelect =
    method 85 10 (codes "confirm.select") Client false None (UnlessNoWait 0) (field Bit (codes "no-wait") ∷ [])
row ConfirmSelectOk =
    method 85 11 (codes "confirm.select-ok") Server false (Some ConfirmSelect) Never []

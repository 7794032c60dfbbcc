-- Which methods an end's output keeps for the last, by their kinds.
use Rattle.std.proofs.Common.{◌≡◌, Bool, ◌||◌, List, refl}
use Rattle.amqp_method.specs.Arguments.{Argument}
use Rattle.amqp_method.specs.declared.kinds.Kind.TheVariants as kinds
use Rattle.amqp_model.specs.Output.Arrangement.{names_leaving}
use Rattle.amqp_model.specs.Wire.Methods.{MethodKind, same_kind, plain_method}

-- connection.close and connection.close-ok
abbrev pub is_departure : MethodKind → Bool
is_departure kind = same_kind kind kinds.ConnectionClose || same_kind kind kinds.ConnectionCloseOk

pub names-departure : (kind : MethodKind) (args : List Argument)
    → names_leaving (plain_method (record { kind = kind; args = args })) ≡ is_departure kind
unfolding plain_method
names-departure kinds.ConnectionStart args = refl
names-departure kinds.ConnectionStartOk args = refl
names-departure kinds.ConnectionSecure args = refl
names-departure kinds.ConnectionSecureOk args = refl
names-departure kinds.ConnectionTune args = refl
names-departure kinds.ConnectionTuneOk args = refl
names-departure kinds.ConnectionOpen args = refl
names-departure kinds.ConnectionOpenOk args = refl
names-departure kinds.ConnectionClose args = refl
names-departure kinds.ConnectionCloseOk args = refl
names-departure kinds.ConnectionBlocked args = refl
names-departure kinds.ConnectionUnblocked args = refl
names-departure kinds.ChannelOpen args = refl
names-departure kinds.ChannelOpenOk args = refl
names-departure kinds.ChannelFlow args = refl
names-departure kinds.ChannelFlowOk args = refl
names-departure kinds.ChannelClose args = refl
names-departure kinds.ChannelCloseOk args = refl
names-departure kinds.ExchangeDeclare args = refl
names-departure kinds.ExchangeDeclareOk args = refl
names-departure kinds.ExchangeDelete args = refl
names-departure kinds.ExchangeDeleteOk args = refl
names-departure kinds.ExchangeBind args = refl
names-departure kinds.ExchangeBindOk args = refl
names-departure kinds.ExchangeUnbind args = refl
names-departure kinds.ExchangeUnbindOk args = refl
names-departure kinds.QueueDeclare args = refl
names-departure kinds.QueueDeclareOk args = refl
names-departure kinds.QueueBind args = refl
names-departure kinds.QueueBindOk args = refl
names-departure kinds.QueuePurge args = refl
names-departure kinds.QueuePurgeOk args = refl
names-departure kinds.QueueDelete args = refl
names-departure kinds.QueueDeleteOk args = refl
names-departure kinds.QueueUnbind args = refl
names-departure kinds.QueueUnbindOk args = refl
names-departure kinds.BasicQos args = refl
names-departure kinds.BasicQosOk args = refl
names-departure kinds.BasicConsume args = refl
names-departure kinds.BasicConsumeOk args = refl
names-departure kinds.BasicCancel args = refl
names-departure kinds.BasicCancelOk args = refl
names-departure kinds.BasicPublish args = refl
names-departure kinds.BasicReturn args = refl
names-departure kinds.BasicDeliver args = refl
names-departure kinds.BasicGet args = refl
names-departure kinds.BasicGetOk args = refl
names-departure kinds.BasicGetEmpty args = refl
names-departure kinds.BasicAck args = refl
names-departure kinds.BasicReject args = refl
names-departure kinds.BasicRecoverAsync args = refl
names-departure kinds.BasicRecover args = refl
names-departure kinds.BasicRecoverOk args = refl
names-departure kinds.BasicNack args = refl
names-departure kinds.TxSelect args = refl
names-departure kinds.TxSelectOk args = refl
names-departure kinds.TxCommit args = refl
names-departure kinds.TxCommitOk args = refl
names-departure kinds.TxRollback args = refl
names-departure kinds.TxRollbackOk args = refl
names-departure kinds.ConfirmSelect args = refl
names-departure kinds.ConfirmSelectOk args = refl

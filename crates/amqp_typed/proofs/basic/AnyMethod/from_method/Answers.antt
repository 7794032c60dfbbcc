use Rattle.std.proofs.Common.{sym, ◌∙◌}
use Rattle.amqp_typed.proofs.basic.AnyMethod.from_method.Goals as goal

pub of_method-requires : goal.of_method-requires
of_method-requires c = sym c.kind.ensures ∙ c.in-BasicQos.is

pub returns-in-BasicQos : goal.returns-in-BasicQos
returns-in-BasicQos c = c.of_method.ensures

pub of_method-requires-in-BasicQosOk : goal.of_method-requires-in-BasicQosOk
of_method-requires-in-BasicQosOk c = sym c.kind.ensures ∙ c.in-BasicQosOk.is

pub returns-in-BasicQosOk : goal.returns-in-BasicQosOk
returns-in-BasicQosOk c = c.of_method-in-BasicQosOk.ensures

pub of_method-requires-in-BasicConsume : goal.of_method-requires-in-BasicConsume
of_method-requires-in-BasicConsume c = sym c.kind.ensures ∙ c.in-BasicConsume.is

pub returns-in-BasicConsume : goal.returns-in-BasicConsume
returns-in-BasicConsume c = c.of_method-in-BasicConsume.ensures

pub of_method-requires-in-BasicConsumeOk : goal.of_method-requires-in-BasicConsumeOk
of_method-requires-in-BasicConsumeOk c = sym c.kind.ensures ∙ c.in-BasicConsumeOk.is

pub returns-in-BasicConsumeOk : goal.returns-in-BasicConsumeOk
returns-in-BasicConsumeOk c = c.of_method-in-BasicConsumeOk.ensures

pub of_method-requires-in-BasicCancel : goal.of_method-requires-in-BasicCancel
of_method-requires-in-BasicCancel c = sym c.kind.ensures ∙ c.in-BasicCancel.is

pub returns-in-BasicCancel : goal.returns-in-BasicCancel
returns-in-BasicCancel c = c.of_method-in-BasicCancel.ensures

pub of_method-requires-in-BasicCancelOk : goal.of_method-requires-in-BasicCancelOk
of_method-requires-in-BasicCancelOk c = sym c.kind.ensures ∙ c.in-BasicCancelOk.is

pub returns-in-BasicCancelOk : goal.returns-in-BasicCancelOk
returns-in-BasicCancelOk c = c.of_method-in-BasicCancelOk.ensures

pub of_method-requires-in-BasicPublish : goal.of_method-requires-in-BasicPublish
of_method-requires-in-BasicPublish c = sym c.kind.ensures ∙ c.in-BasicPublish.is

pub returns-in-BasicPublish : goal.returns-in-BasicPublish
returns-in-BasicPublish c = c.of_method-in-BasicPublish.ensures

pub of_method-requires-in-BasicReturn : goal.of_method-requires-in-BasicReturn
of_method-requires-in-BasicReturn c = sym c.kind.ensures ∙ c.in-BasicReturn.is

pub returns-in-BasicReturn : goal.returns-in-BasicReturn
returns-in-BasicReturn c = c.of_method-in-BasicReturn.ensures

pub of_method-requires-in-BasicDeliver : goal.of_method-requires-in-BasicDeliver
of_method-requires-in-BasicDeliver c = sym c.kind.ensures ∙ c.in-BasicDeliver.is

pub returns-in-BasicDeliver : goal.returns-in-BasicDeliver
returns-in-BasicDeliver c = c.of_method-in-BasicDeliver.ensures

pub of_method-requires-in-BasicGet : goal.of_method-requires-in-BasicGet
of_method-requires-in-BasicGet c = sym c.kind.ensures ∙ c.in-BasicGet.is

pub returns-in-BasicGet : goal.returns-in-BasicGet
returns-in-BasicGet c = c.of_method-in-BasicGet.ensures

pub of_method-requires-in-BasicGetOk : goal.of_method-requires-in-BasicGetOk
of_method-requires-in-BasicGetOk c = sym c.kind.ensures ∙ c.in-BasicGetOk.is

pub returns-in-BasicGetOk : goal.returns-in-BasicGetOk
returns-in-BasicGetOk c = c.of_method-in-BasicGetOk.ensures

pub of_method-requires-in-BasicGetEmpty : goal.of_method-requires-in-BasicGetEmpty
of_method-requires-in-BasicGetEmpty c = sym c.kind.ensures ∙ c.in-BasicGetEmpty.is

pub returns-in-BasicGetEmpty : goal.returns-in-BasicGetEmpty
returns-in-BasicGetEmpty c = c.of_method-in-BasicGetEmpty.ensures

pub of_method-requires-in-BasicAck : goal.of_method-requires-in-BasicAck
of_method-requires-in-BasicAck c = sym c.kind.ensures ∙ c.in-BasicAck.is

pub returns-in-BasicAck : goal.returns-in-BasicAck
returns-in-BasicAck c = c.of_method-in-BasicAck.ensures

pub of_method-requires-in-BasicReject : goal.of_method-requires-in-BasicReject
of_method-requires-in-BasicReject c = sym c.kind.ensures ∙ c.in-BasicReject.is

pub returns-in-BasicReject : goal.returns-in-BasicReject
returns-in-BasicReject c = c.of_method-in-BasicReject.ensures

pub of_method-requires-in-BasicRecoverAsync : goal.of_method-requires-in-BasicRecoverAsync
of_method-requires-in-BasicRecoverAsync c = sym c.kind.ensures ∙ c.in-BasicRecoverAsync.is

pub returns-in-BasicRecoverAsync : goal.returns-in-BasicRecoverAsync
returns-in-BasicRecoverAsync c = c.of_method-in-BasicRecoverAsync.ensures

pub of_method-requires-in-BasicRecover : goal.of_method-requires-in-BasicRecover
of_method-requires-in-BasicRecover c = sym c.kind.ensures ∙ c.in-BasicRecover.is

pub returns-in-BasicRecover : goal.returns-in-BasicRecover
returns-in-BasicRecover c = c.of_method-in-BasicRecover.ensures

pub of_method-requires-in-BasicRecoverOk : goal.of_method-requires-in-BasicRecoverOk
of_method-requires-in-BasicRecoverOk c = sym c.kind.ensures ∙ c.in-BasicRecoverOk.is

pub returns-in-BasicRecoverOk : goal.returns-in-BasicRecoverOk
returns-in-BasicRecoverOk c = c.of_method-in-BasicRecoverOk.ensures

pub of_method-requires-in-BasicNack : goal.of_method-requires-in-BasicNack
of_method-requires-in-BasicNack c = sym c.kind.ensures ∙ c.in-BasicNack.is

pub returns-in-BasicNack : goal.returns-in-BasicNack
returns-in-BasicNack c = c.of_method-in-BasicNack.ensures

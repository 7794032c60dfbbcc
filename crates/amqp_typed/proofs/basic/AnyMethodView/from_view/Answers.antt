use Rattle.std.proofs.Common.{sym, ◌∙◌}
use Rattle.amqp_typed.proofs.basic.AnyMethodView.from_view.Goals as goal

pub of_view-requires : goal.of_view-requires
of_view-requires c = (c.kind_in.ensures.fit, sym c.kind_in.ensures.kind ∙ c.in-BasicQos.is)

pub returns-in-BasicQos : goal.returns-in-BasicQos
returns-in-BasicQos c = c.of_view.ensures

pub of_view-requires-in-BasicQosOk : goal.of_view-requires-in-BasicQosOk
of_view-requires-in-BasicQosOk c = (c.kind_in.ensures.fit, sym c.kind_in.ensures.kind ∙ c.in-BasicQosOk.is)

pub returns-in-BasicQosOk : goal.returns-in-BasicQosOk
returns-in-BasicQosOk c = c.of_view-in-BasicQosOk.ensures

pub of_view-requires-in-BasicConsume : goal.of_view-requires-in-BasicConsume
of_view-requires-in-BasicConsume c = (c.kind_in.ensures.fit, sym c.kind_in.ensures.kind ∙ c.in-BasicConsume.is)

pub returns-in-BasicConsume : goal.returns-in-BasicConsume
returns-in-BasicConsume c = c.of_view-in-BasicConsume.ensures

pub of_view-requires-in-BasicConsumeOk : goal.of_view-requires-in-BasicConsumeOk
of_view-requires-in-BasicConsumeOk c = (c.kind_in.ensures.fit, sym c.kind_in.ensures.kind ∙ c.in-BasicConsumeOk.is)

pub returns-in-BasicConsumeOk : goal.returns-in-BasicConsumeOk
returns-in-BasicConsumeOk c = c.of_view-in-BasicConsumeOk.ensures

pub of_view-requires-in-BasicCancel : goal.of_view-requires-in-BasicCancel
of_view-requires-in-BasicCancel c = (c.kind_in.ensures.fit, sym c.kind_in.ensures.kind ∙ c.in-BasicCancel.is)

pub returns-in-BasicCancel : goal.returns-in-BasicCancel
returns-in-BasicCancel c = c.of_view-in-BasicCancel.ensures

pub of_view-requires-in-BasicCancelOk : goal.of_view-requires-in-BasicCancelOk
of_view-requires-in-BasicCancelOk c = (c.kind_in.ensures.fit, sym c.kind_in.ensures.kind ∙ c.in-BasicCancelOk.is)

pub returns-in-BasicCancelOk : goal.returns-in-BasicCancelOk
returns-in-BasicCancelOk c = c.of_view-in-BasicCancelOk.ensures

pub of_view-requires-in-BasicPublish : goal.of_view-requires-in-BasicPublish
of_view-requires-in-BasicPublish c = (c.kind_in.ensures.fit, sym c.kind_in.ensures.kind ∙ c.in-BasicPublish.is)

pub returns-in-BasicPublish : goal.returns-in-BasicPublish
returns-in-BasicPublish c = c.of_view-in-BasicPublish.ensures

pub of_view-requires-in-BasicReturn : goal.of_view-requires-in-BasicReturn
of_view-requires-in-BasicReturn c = (c.kind_in.ensures.fit, sym c.kind_in.ensures.kind ∙ c.in-BasicReturn.is)

pub returns-in-BasicReturn : goal.returns-in-BasicReturn
returns-in-BasicReturn c = c.of_view-in-BasicReturn.ensures

pub of_view-requires-in-BasicDeliver : goal.of_view-requires-in-BasicDeliver
of_view-requires-in-BasicDeliver c = (c.kind_in.ensures.fit, sym c.kind_in.ensures.kind ∙ c.in-BasicDeliver.is)

pub returns-in-BasicDeliver : goal.returns-in-BasicDeliver
returns-in-BasicDeliver c = c.of_view-in-BasicDeliver.ensures

pub of_view-requires-in-BasicGet : goal.of_view-requires-in-BasicGet
of_view-requires-in-BasicGet c = (c.kind_in.ensures.fit, sym c.kind_in.ensures.kind ∙ c.in-BasicGet.is)

pub returns-in-BasicGet : goal.returns-in-BasicGet
returns-in-BasicGet c = c.of_view-in-BasicGet.ensures

pub of_view-requires-in-BasicGetOk : goal.of_view-requires-in-BasicGetOk
of_view-requires-in-BasicGetOk c = (c.kind_in.ensures.fit, sym c.kind_in.ensures.kind ∙ c.in-BasicGetOk.is)

pub returns-in-BasicGetOk : goal.returns-in-BasicGetOk
returns-in-BasicGetOk c = c.of_view-in-BasicGetOk.ensures

pub of_view-requires-in-BasicGetEmpty : goal.of_view-requires-in-BasicGetEmpty
of_view-requires-in-BasicGetEmpty c = (c.kind_in.ensures.fit, sym c.kind_in.ensures.kind ∙ c.in-BasicGetEmpty.is)

pub returns-in-BasicGetEmpty : goal.returns-in-BasicGetEmpty
returns-in-BasicGetEmpty c = c.of_view-in-BasicGetEmpty.ensures

pub of_view-requires-in-BasicAck : goal.of_view-requires-in-BasicAck
of_view-requires-in-BasicAck c = (c.kind_in.ensures.fit, sym c.kind_in.ensures.kind ∙ c.in-BasicAck.is)

pub returns-in-BasicAck : goal.returns-in-BasicAck
returns-in-BasicAck c = c.of_view-in-BasicAck.ensures

pub of_view-requires-in-BasicReject : goal.of_view-requires-in-BasicReject
of_view-requires-in-BasicReject c = (c.kind_in.ensures.fit, sym c.kind_in.ensures.kind ∙ c.in-BasicReject.is)

pub returns-in-BasicReject : goal.returns-in-BasicReject
returns-in-BasicReject c = c.of_view-in-BasicReject.ensures

pub of_view-requires-in-BasicRecoverAsync : goal.of_view-requires-in-BasicRecoverAsync
of_view-requires-in-BasicRecoverAsync c = (c.kind_in.ensures.fit, sym c.kind_in.ensures.kind ∙ c.in-BasicRecoverAsync.is)

pub returns-in-BasicRecoverAsync : goal.returns-in-BasicRecoverAsync
returns-in-BasicRecoverAsync c = c.of_view-in-BasicRecoverAsync.ensures

pub of_view-requires-in-BasicRecover : goal.of_view-requires-in-BasicRecover
of_view-requires-in-BasicRecover c = (c.kind_in.ensures.fit, sym c.kind_in.ensures.kind ∙ c.in-BasicRecover.is)

pub returns-in-BasicRecover : goal.returns-in-BasicRecover
returns-in-BasicRecover c = c.of_view-in-BasicRecover.ensures

pub of_view-requires-in-BasicRecoverOk : goal.of_view-requires-in-BasicRecoverOk
of_view-requires-in-BasicRecoverOk c = (c.kind_in.ensures.fit, sym c.kind_in.ensures.kind ∙ c.in-BasicRecoverOk.is)

pub returns-in-BasicRecoverOk : goal.returns-in-BasicRecoverOk
returns-in-BasicRecoverOk c = c.of_view-in-BasicRecoverOk.ensures

pub of_view-requires-in-BasicNack : goal.of_view-requires-in-BasicNack
of_view-requires-in-BasicNack c = (c.kind_in.ensures.fit, sym c.kind_in.ensures.kind ∙ c.in-BasicNack.is)

pub returns-in-BasicNack : goal.returns-in-BasicNack
returns-in-BasicNack c = c.of_view-in-BasicNack.ensures

-- What the structs of the class basic stand for: each the call of its method, with the fields as arguments in
-- the order of the table.
-- Written by `tools/typed_methods.py` from the table of methods in `docs/PROTOCOL.md`: change those and run it again.
use Rattle.std.specs.Prelude.{[], ◌∷◌}
use Rattle.amqp_value.specs.Lent.{table_ref_view}
use Rattle.amqp_value.specs.Tables.{table_view}
use Rattle.amqp_method.specs.Arguments.{Call, call, bit, short, long, long_long, short_string, table}
use Rattle.amqp_method.specs.declared.kinds.Kind.TheVariants.{BasicQos, BasicQosOk, BasicConsume, BasicConsumeOk, BasicCancel, BasicCancelOk, BasicPublish, BasicReturn, BasicDeliver, BasicGet, BasicGetOk, BasicGetEmpty, BasicAck, BasicReject, BasicRecoverAsync, BasicRecover, BasicRecoverOk, BasicNack}
use Rattle.amqp_typed.specs.declared.basic.Qos.{Qos}
use Rattle.amqp_typed.specs.declared.basic.Consume.{Consume}
use Rattle.amqp_typed.specs.declared.basic.ConsumeRef.{ConsumeRef}
use Rattle.amqp_typed.specs.declared.basic.ConsumeView.{ConsumeView}
use Rattle.amqp_typed.specs.declared.basic.ConsumeOk.{ConsumeOk}
use Rattle.amqp_typed.specs.declared.basic.ConsumeOkRef.{ConsumeOkRef}
use Rattle.amqp_typed.specs.declared.basic.ConsumeOkView.{ConsumeOkView}
use Rattle.amqp_typed.specs.declared.basic.Cancel.{Cancel}
use Rattle.amqp_typed.specs.declared.basic.CancelRef.{CancelRef}
use Rattle.amqp_typed.specs.declared.basic.CancelView.{CancelView}
use Rattle.amqp_typed.specs.declared.basic.CancelOk.{CancelOk}
use Rattle.amqp_typed.specs.declared.basic.CancelOkRef.{CancelOkRef}
use Rattle.amqp_typed.specs.declared.basic.CancelOkView.{CancelOkView}
use Rattle.amqp_typed.specs.declared.basic.Publish.{Publish}
use Rattle.amqp_typed.specs.declared.basic.PublishRef.{PublishRef}
use Rattle.amqp_typed.specs.declared.basic.PublishView.{PublishView}
use Rattle.amqp_typed.specs.declared.basic.Return.{Return}
use Rattle.amqp_typed.specs.declared.basic.ReturnRef.{ReturnRef}
use Rattle.amqp_typed.specs.declared.basic.ReturnView.{ReturnView}
use Rattle.amqp_typed.specs.declared.basic.Deliver.{Deliver}
use Rattle.amqp_typed.specs.declared.basic.DeliverRef.{DeliverRef}
use Rattle.amqp_typed.specs.declared.basic.DeliverView.{DeliverView}
use Rattle.amqp_typed.specs.declared.basic.Get.{Get}
use Rattle.amqp_typed.specs.declared.basic.GetRef.{GetRef}
use Rattle.amqp_typed.specs.declared.basic.GetView.{GetView}
use Rattle.amqp_typed.specs.declared.basic.GetOk.{GetOk}
use Rattle.amqp_typed.specs.declared.basic.GetOkRef.{GetOkRef}
use Rattle.amqp_typed.specs.declared.basic.GetOkView.{GetOkView}
use Rattle.amqp_typed.specs.declared.basic.Ack.{Ack}
use Rattle.amqp_typed.specs.declared.basic.Reject.{Reject}
use Rattle.amqp_typed.specs.declared.basic.RecoverAsync.{RecoverAsync}
use Rattle.amqp_typed.specs.declared.basic.Recover.{Recover}
use Rattle.amqp_typed.specs.declared.basic.Nack.{Nack}
use Rattle.amqp_typed.specs.declared.basic.AnyMethod.{AnyMethod}
use Rattle.amqp_typed.specs.declared.basic.AnyMethod.TheVariants as any
use Rattle.amqp_typed.specs.declared.basic.AnyMethodView.{AnyMethodView}
use Rattle.amqp_typed.specs.declared.basic.AnyMethodView.TheVariants as view

abbrev pub qos_call : Qos → Call
qos_call m = call BasicQos (long m.prefetch_size ∷ short m.prefetch_count ∷ bit m.global ∷ [])

abbrev pub consume_call : Consume → Call
consume_call m =
    call BasicConsume
    (short_string m.queue ∷ short_string m.consumer_tag ∷ bit m.no_local ∷ bit m.no_ack
    ∷ bit m.exclusive ∷ bit m.no_wait ∷ table (table_view m.arguments) ∷ [])

abbrev pub consume_ref_call : ConsumeRef → Call
consume_ref_call m =
    call BasicConsume
    (short_string m.queue.now ∷ short_string m.consumer_tag.now ∷ bit m.no_local ∷ bit m.no_ack
    ∷ bit m.exclusive ∷ bit m.no_wait ∷ table (table_view m.arguments.now) ∷ [])

abbrev pub consume_view_call : ConsumeView → Call
consume_view_call m =
    call BasicConsume
    (short_string m.queue.now ∷ short_string m.consumer_tag.now ∷ bit m.no_local ∷ bit m.no_ack
    ∷ bit m.exclusive ∷ bit m.no_wait ∷ table (table_ref_view m.arguments) ∷ [])

abbrev pub consume_ok_call : ConsumeOk → Call
consume_ok_call m = call BasicConsumeOk (short_string m.consumer_tag ∷ [])

abbrev pub consume_ok_ref_call : ConsumeOkRef → Call
consume_ok_ref_call m = call BasicConsumeOk (short_string m.consumer_tag.now ∷ [])

abbrev pub consume_ok_view_call : ConsumeOkView → Call
consume_ok_view_call m = call BasicConsumeOk (short_string m.consumer_tag.now ∷ [])

abbrev pub cancel_call : Cancel → Call
cancel_call m = call BasicCancel (short_string m.consumer_tag ∷ bit m.no_wait ∷ [])

abbrev pub cancel_ref_call : CancelRef → Call
cancel_ref_call m = call BasicCancel (short_string m.consumer_tag.now ∷ bit m.no_wait ∷ [])

abbrev pub cancel_view_call : CancelView → Call
cancel_view_call m = call BasicCancel (short_string m.consumer_tag.now ∷ bit m.no_wait ∷ [])

abbrev pub cancel_ok_call : CancelOk → Call
cancel_ok_call m = call BasicCancelOk (short_string m.consumer_tag ∷ [])

abbrev pub cancel_ok_ref_call : CancelOkRef → Call
cancel_ok_ref_call m = call BasicCancelOk (short_string m.consumer_tag.now ∷ [])

abbrev pub cancel_ok_view_call : CancelOkView → Call
cancel_ok_view_call m = call BasicCancelOk (short_string m.consumer_tag.now ∷ [])

abbrev pub publish_call : Publish → Call
publish_call m =
    call BasicPublish
    (short_string m.exchange ∷ short_string m.routing_key ∷ bit m.mandatory ∷ bit m.immediate ∷ [])

abbrev pub publish_ref_call : PublishRef → Call
publish_ref_call m =
    call BasicPublish
    (short_string m.exchange.now ∷ short_string m.routing_key.now ∷ bit m.mandatory
    ∷ bit m.immediate ∷ [])

abbrev pub publish_view_call : PublishView → Call
publish_view_call m =
    call BasicPublish
    (short_string m.exchange.now ∷ short_string m.routing_key.now ∷ bit m.mandatory
    ∷ bit m.immediate ∷ [])

abbrev pub return_call : Return → Call
return_call m =
    call BasicReturn
    (short m.reply_code ∷ short_string m.reply_text ∷ short_string m.exchange
    ∷ short_string m.routing_key ∷ [])

abbrev pub return_ref_call : ReturnRef → Call
return_ref_call m =
    call BasicReturn
    (short m.reply_code ∷ short_string m.reply_text.now ∷ short_string m.exchange.now
    ∷ short_string m.routing_key.now ∷ [])

abbrev pub return_view_call : ReturnView → Call
return_view_call m =
    call BasicReturn
    (short m.reply_code ∷ short_string m.reply_text.now ∷ short_string m.exchange.now
    ∷ short_string m.routing_key.now ∷ [])

abbrev pub deliver_call : Deliver → Call
deliver_call m =
    call BasicDeliver
    (short_string m.consumer_tag ∷ long_long m.delivery_tag ∷ bit m.redelivered
    ∷ short_string m.exchange ∷ short_string m.routing_key ∷ [])

abbrev pub deliver_ref_call : DeliverRef → Call
deliver_ref_call m =
    call BasicDeliver
    (short_string m.consumer_tag.now ∷ long_long m.delivery_tag ∷ bit m.redelivered
    ∷ short_string m.exchange.now ∷ short_string m.routing_key.now ∷ [])

abbrev pub deliver_view_call : DeliverView → Call
deliver_view_call m =
    call BasicDeliver
    (short_string m.consumer_tag.now ∷ long_long m.delivery_tag ∷ bit m.redelivered
    ∷ short_string m.exchange.now ∷ short_string m.routing_key.now ∷ [])

abbrev pub get_call : Get → Call
get_call m = call BasicGet (short_string m.queue ∷ bit m.no_ack ∷ [])

abbrev pub get_ref_call : GetRef → Call
get_ref_call m = call BasicGet (short_string m.queue.now ∷ bit m.no_ack ∷ [])

abbrev pub get_view_call : GetView → Call
get_view_call m = call BasicGet (short_string m.queue.now ∷ bit m.no_ack ∷ [])

abbrev pub get_ok_call : GetOk → Call
get_ok_call m =
    call BasicGetOk
    (long_long m.delivery_tag ∷ bit m.redelivered ∷ short_string m.exchange
    ∷ short_string m.routing_key ∷ long m.message_count ∷ [])

abbrev pub get_ok_ref_call : GetOkRef → Call
get_ok_ref_call m =
    call BasicGetOk
    (long_long m.delivery_tag ∷ bit m.redelivered ∷ short_string m.exchange.now
    ∷ short_string m.routing_key.now ∷ long m.message_count ∷ [])

abbrev pub get_ok_view_call : GetOkView → Call
get_ok_view_call m =
    call BasicGetOk
    (long_long m.delivery_tag ∷ bit m.redelivered ∷ short_string m.exchange.now
    ∷ short_string m.routing_key.now ∷ long m.message_count ∷ [])

abbrev pub ack_call : Ack → Call
ack_call m = call BasicAck (long_long m.delivery_tag ∷ bit m.multiple ∷ [])

abbrev pub reject_call : Reject → Call
reject_call m = call BasicReject (long_long m.delivery_tag ∷ bit m.requeue ∷ [])

abbrev pub recover_async_call : RecoverAsync → Call
recover_async_call m = call BasicRecoverAsync (bit m.requeue ∷ [])

abbrev pub recover_call : Recover → Call
recover_call m = call BasicRecover (bit m.requeue ∷ [])

abbrev pub nack_call : Nack → Call
nack_call m = call BasicNack (long_long m.delivery_tag ∷ bit m.multiple ∷ bit m.requeue ∷ [])

abbrev pub any_call : AnyMethod → Call
any_call (any.Qos m) = qos_call m
any_call (any.QosOk m) = call BasicQosOk []
any_call (any.Consume m) = consume_call m
any_call (any.ConsumeOk m) = consume_ok_call m
any_call (any.Cancel m) = cancel_call m
any_call (any.CancelOk m) = cancel_ok_call m
any_call (any.Publish m) = publish_call m
any_call (any.Return m) = return_call m
any_call (any.Deliver m) = deliver_call m
any_call (any.Get m) = get_call m
any_call (any.GetOk m) = get_ok_call m
any_call (any.GetEmpty m) = call BasicGetEmpty []
any_call (any.Ack m) = ack_call m
any_call (any.Reject m) = reject_call m
any_call (any.RecoverAsync m) = recover_async_call m
any_call (any.Recover m) = recover_call m
any_call (any.RecoverOk m) = call BasicRecoverOk []
any_call (any.Nack m) = nack_call m

abbrev pub any_view_call : AnyMethodView → Call
any_view_call (view.Qos m) = qos_call m
any_view_call (view.QosOk m) = call BasicQosOk []
any_view_call (view.Consume m) = consume_view_call m
any_view_call (view.ConsumeOk m) = consume_ok_view_call m
any_view_call (view.Cancel m) = cancel_view_call m
any_view_call (view.CancelOk m) = cancel_ok_view_call m
any_view_call (view.Publish m) = publish_view_call m
any_view_call (view.Return m) = return_view_call m
any_view_call (view.Deliver m) = deliver_view_call m
any_view_call (view.Get m) = get_view_call m
any_view_call (view.GetOk m) = get_ok_view_call m
any_view_call (view.GetEmpty m) = call BasicGetEmpty []
any_view_call (view.Ack m) = ack_call m
any_view_call (view.Reject m) = reject_call m
any_view_call (view.RecoverAsync m) = recover_async_call m
any_view_call (view.Recover m) = recover_call m
any_view_call (view.RecoverOk m) = call BasicRecoverOk []
any_view_call (view.Nack m) = nack_call m

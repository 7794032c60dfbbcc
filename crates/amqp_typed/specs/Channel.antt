-- What the structs of the class channel stand for: each the call of its method, with the fields as arguments in
-- the order of the table.
-- Written by `tools/typed_methods.py` from the table of methods in `docs/PROTOCOL.md`: change those and run it again.
use Rattle.std.specs.Prelude.{[], ◌∷◌}
use Rattle.amqp_method.specs.Arguments.{Call, call, bit, short, short_string}
use Rattle.amqp_method.specs.declared.kinds.Kind.TheVariants.{ChannelOpen, ChannelOpenOk, ChannelFlow, ChannelFlowOk, ChannelClose, ChannelCloseOk}
use Rattle.amqp_typed.specs.declared.channel.Flow.{Flow}
use Rattle.amqp_typed.specs.declared.channel.FlowOk.{FlowOk}
use Rattle.amqp_typed.specs.declared.channel.Close.{Close}
use Rattle.amqp_typed.specs.declared.channel.CloseRef.{CloseRef}
use Rattle.amqp_typed.specs.declared.channel.CloseView.{CloseView}
use Rattle.amqp_typed.specs.declared.channel.AnyMethod.{AnyMethod}
use Rattle.amqp_typed.specs.declared.channel.AnyMethod.TheVariants as any
use Rattle.amqp_typed.specs.declared.channel.AnyMethodView.{AnyMethodView}
use Rattle.amqp_typed.specs.declared.channel.AnyMethodView.TheVariants as view

abbrev pub flow_call : Flow → Call
flow_call m = call ChannelFlow (bit m.active ∷ [])

abbrev pub flow_ok_call : FlowOk → Call
flow_ok_call m = call ChannelFlowOk (bit m.active ∷ [])

abbrev pub close_call : Close → Call
close_call m =
    call ChannelClose
    (short m.reply_code ∷ short_string m.reply_text ∷ short m.class_id ∷ short m.method_id ∷ [])

abbrev pub close_ref_call : CloseRef → Call
close_ref_call m =
    call ChannelClose
    (short m.reply_code ∷ short_string m.reply_text.now ∷ short m.class_id ∷ short m.method_id ∷ [])

abbrev pub close_view_call : CloseView → Call
close_view_call m =
    call ChannelClose
    (short m.reply_code ∷ short_string m.reply_text.now ∷ short m.class_id ∷ short m.method_id ∷ [])

abbrev pub any_call : AnyMethod → Call
any_call (any.Open m) = call ChannelOpen []
any_call (any.OpenOk m) = call ChannelOpenOk []
any_call (any.Flow m) = flow_call m
any_call (any.FlowOk m) = flow_ok_call m
any_call (any.Close m) = close_call m
any_call (any.CloseOk m) = call ChannelCloseOk []

abbrev pub any_view_call : AnyMethodView → Call
any_view_call (view.Open m) = call ChannelOpen []
any_view_call (view.OpenOk m) = call ChannelOpenOk []
any_view_call (view.Flow m) = flow_call m
any_view_call (view.FlowOk m) = flow_ok_call m
any_view_call (view.Close m) = close_view_call m
any_view_call (view.CloseOk m) = call ChannelCloseOk []

-- What the structs of the class queue stand for: each the call of its method, with the fields as arguments in
-- the order of the table.
-- Written by `tools/typed_methods.py` from the table of methods in `docs/PROTOCOL.md`: change those and run it again.
use Rattle.std.specs.Prelude.{[], ◌∷◌}
use Rattle.amqp_value.specs.Lent.{table_ref_view}
use Rattle.amqp_value.specs.Tables.{table_view}
use Rattle.amqp_method.specs.Arguments.{Call, call, bit, long, short_string, table}
use Rattle.amqp_method.specs.declared.kinds.Kind.TheVariants.{QueueDeclare, QueueDeclareOk, QueueBind, QueueBindOk, QueueUnbind, QueueUnbindOk, QueuePurge, QueuePurgeOk, QueueDelete, QueueDeleteOk}
use Rattle.amqp_typed.specs.declared.queue.Declare.{Declare}
use Rattle.amqp_typed.specs.declared.queue.DeclareRef.{DeclareRef}
use Rattle.amqp_typed.specs.declared.queue.DeclareView.{DeclareView}
use Rattle.amqp_typed.specs.declared.queue.DeclareOk.{DeclareOk}
use Rattle.amqp_typed.specs.declared.queue.DeclareOkRef.{DeclareOkRef}
use Rattle.amqp_typed.specs.declared.queue.DeclareOkView.{DeclareOkView}
use Rattle.amqp_typed.specs.declared.queue.Bind.{Bind}
use Rattle.amqp_typed.specs.declared.queue.BindRef.{BindRef}
use Rattle.amqp_typed.specs.declared.queue.BindView.{BindView}
use Rattle.amqp_typed.specs.declared.queue.Unbind.{Unbind}
use Rattle.amqp_typed.specs.declared.queue.UnbindRef.{UnbindRef}
use Rattle.amqp_typed.specs.declared.queue.UnbindView.{UnbindView}
use Rattle.amqp_typed.specs.declared.queue.Purge.{Purge}
use Rattle.amqp_typed.specs.declared.queue.PurgeRef.{PurgeRef}
use Rattle.amqp_typed.specs.declared.queue.PurgeView.{PurgeView}
use Rattle.amqp_typed.specs.declared.queue.PurgeOk.{PurgeOk}
use Rattle.amqp_typed.specs.declared.queue.Delete.{Delete}
use Rattle.amqp_typed.specs.declared.queue.DeleteRef.{DeleteRef}
use Rattle.amqp_typed.specs.declared.queue.DeleteView.{DeleteView}
use Rattle.amqp_typed.specs.declared.queue.DeleteOk.{DeleteOk}
use Rattle.amqp_typed.specs.declared.queue.AnyMethod.{AnyMethod}
use Rattle.amqp_typed.specs.declared.queue.AnyMethod.TheVariants as any
use Rattle.amqp_typed.specs.declared.queue.AnyMethodView.{AnyMethodView}
use Rattle.amqp_typed.specs.declared.queue.AnyMethodView.TheVariants as view

abbrev pub declare_call : Declare → Call
declare_call m =
    call QueueDeclare
    (short_string m.queue ∷ bit m.passive ∷ bit m.durable ∷ bit m.exclusive ∷ bit m.auto_delete
    ∷ bit m.no_wait ∷ table (table_view m.arguments) ∷ [])

abbrev pub declare_ref_call : DeclareRef → Call
declare_ref_call m =
    call QueueDeclare
    (short_string m.queue.now ∷ bit m.passive ∷ bit m.durable ∷ bit m.exclusive ∷ bit m.auto_delete
    ∷ bit m.no_wait ∷ table (table_view m.arguments.now) ∷ [])

abbrev pub declare_view_call : DeclareView → Call
declare_view_call m =
    call QueueDeclare
    (short_string m.queue.now ∷ bit m.passive ∷ bit m.durable ∷ bit m.exclusive ∷ bit m.auto_delete
    ∷ bit m.no_wait ∷ table (table_ref_view m.arguments) ∷ [])

abbrev pub declare_ok_call : DeclareOk → Call
declare_ok_call m =
    call QueueDeclareOk
    (short_string m.queue ∷ long m.message_count ∷ long m.consumer_count ∷ [])

abbrev pub declare_ok_ref_call : DeclareOkRef → Call
declare_ok_ref_call m =
    call QueueDeclareOk
    (short_string m.queue.now ∷ long m.message_count ∷ long m.consumer_count ∷ [])

abbrev pub declare_ok_view_call : DeclareOkView → Call
declare_ok_view_call m =
    call QueueDeclareOk
    (short_string m.queue.now ∷ long m.message_count ∷ long m.consumer_count ∷ [])

abbrev pub bind_call : Bind → Call
bind_call m =
    call QueueBind
    (short_string m.queue ∷ short_string m.exchange ∷ short_string m.routing_key ∷ bit m.no_wait
    ∷ table (table_view m.arguments) ∷ [])

abbrev pub bind_ref_call : BindRef → Call
bind_ref_call m =
    call QueueBind
    (short_string m.queue.now ∷ short_string m.exchange.now ∷ short_string m.routing_key.now
    ∷ bit m.no_wait ∷ table (table_view m.arguments.now) ∷ [])

abbrev pub bind_view_call : BindView → Call
bind_view_call m =
    call QueueBind
    (short_string m.queue.now ∷ short_string m.exchange.now ∷ short_string m.routing_key.now
    ∷ bit m.no_wait ∷ table (table_ref_view m.arguments) ∷ [])

abbrev pub unbind_call : Unbind → Call
unbind_call m =
    call QueueUnbind
    (short_string m.queue ∷ short_string m.exchange ∷ short_string m.routing_key
    ∷ table (table_view m.arguments) ∷ [])

abbrev pub unbind_ref_call : UnbindRef → Call
unbind_ref_call m =
    call QueueUnbind
    (short_string m.queue.now ∷ short_string m.exchange.now ∷ short_string m.routing_key.now
    ∷ table (table_view m.arguments.now) ∷ [])

abbrev pub unbind_view_call : UnbindView → Call
unbind_view_call m =
    call QueueUnbind
    (short_string m.queue.now ∷ short_string m.exchange.now ∷ short_string m.routing_key.now
    ∷ table (table_ref_view m.arguments) ∷ [])

abbrev pub purge_call : Purge → Call
purge_call m = call QueuePurge (short_string m.queue ∷ bit m.no_wait ∷ [])

abbrev pub purge_ref_call : PurgeRef → Call
purge_ref_call m = call QueuePurge (short_string m.queue.now ∷ bit m.no_wait ∷ [])

abbrev pub purge_view_call : PurgeView → Call
purge_view_call m = call QueuePurge (short_string m.queue.now ∷ bit m.no_wait ∷ [])

abbrev pub purge_ok_call : PurgeOk → Call
purge_ok_call m = call QueuePurgeOk (long m.message_count ∷ [])

abbrev pub delete_call : Delete → Call
delete_call m =
    call QueueDelete
    (short_string m.queue ∷ bit m.if_unused ∷ bit m.if_empty ∷ bit m.no_wait ∷ [])

abbrev pub delete_ref_call : DeleteRef → Call
delete_ref_call m =
    call QueueDelete
    (short_string m.queue.now ∷ bit m.if_unused ∷ bit m.if_empty ∷ bit m.no_wait ∷ [])

abbrev pub delete_view_call : DeleteView → Call
delete_view_call m =
    call QueueDelete
    (short_string m.queue.now ∷ bit m.if_unused ∷ bit m.if_empty ∷ bit m.no_wait ∷ [])

abbrev pub delete_ok_call : DeleteOk → Call
delete_ok_call m = call QueueDeleteOk (long m.message_count ∷ [])

abbrev pub any_call : AnyMethod → Call
any_call (any.Declare m) = declare_call m
any_call (any.DeclareOk m) = declare_ok_call m
any_call (any.Bind m) = bind_call m
any_call (any.BindOk m) = call QueueBindOk []
any_call (any.Unbind m) = unbind_call m
any_call (any.UnbindOk m) = call QueueUnbindOk []
any_call (any.Purge m) = purge_call m
any_call (any.PurgeOk m) = purge_ok_call m
any_call (any.Delete m) = delete_call m
any_call (any.DeleteOk m) = delete_ok_call m

abbrev pub any_view_call : AnyMethodView → Call
any_view_call (view.Declare m) = declare_view_call m
any_view_call (view.DeclareOk m) = declare_ok_view_call m
any_view_call (view.Bind m) = bind_view_call m
any_view_call (view.BindOk m) = call QueueBindOk []
any_view_call (view.Unbind m) = unbind_view_call m
any_view_call (view.UnbindOk m) = call QueueUnbindOk []
any_view_call (view.Purge m) = purge_view_call m
any_view_call (view.PurgeOk m) = purge_ok_call m
any_view_call (view.Delete m) = delete_view_call m
any_view_call (view.DeleteOk m) = delete_ok_call m

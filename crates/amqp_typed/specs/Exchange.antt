-- What the structs of the class exchange stand for: each the call of its method, with the fields as arguments in
-- the order of the table.
-- Written by `tools/typed_methods.py` from the table of methods in `docs/PROTOCOL.md`: change those and run it again.
use Rattle.std.specs.Prelude.{[], ◌∷◌}
use Rattle.amqp_value.specs.Lent.{table_ref_view}
use Rattle.amqp_value.specs.Tables.{table_view}
use Rattle.amqp_method.specs.Arguments.{Call, call, bit, short_string, table}
use Rattle.amqp_method.specs.declared.kinds.Kind.TheVariants.{ExchangeDeclare, ExchangeDeclareOk, ExchangeDelete, ExchangeDeleteOk, ExchangeBind, ExchangeBindOk, ExchangeUnbind, ExchangeUnbindOk}
use Rattle.amqp_typed.specs.declared.exchange.Declare.{Declare}
use Rattle.amqp_typed.specs.declared.exchange.DeclareRef.{DeclareRef}
use Rattle.amqp_typed.specs.declared.exchange.DeclareView.{DeclareView}
use Rattle.amqp_typed.specs.declared.exchange.Delete.{Delete}
use Rattle.amqp_typed.specs.declared.exchange.DeleteRef.{DeleteRef}
use Rattle.amqp_typed.specs.declared.exchange.DeleteView.{DeleteView}
use Rattle.amqp_typed.specs.declared.exchange.Bind.{Bind}
use Rattle.amqp_typed.specs.declared.exchange.BindRef.{BindRef}
use Rattle.amqp_typed.specs.declared.exchange.BindView.{BindView}
use Rattle.amqp_typed.specs.declared.exchange.Unbind.{Unbind}
use Rattle.amqp_typed.specs.declared.exchange.UnbindRef.{UnbindRef}
use Rattle.amqp_typed.specs.declared.exchange.UnbindView.{UnbindView}
use Rattle.amqp_typed.specs.declared.exchange.AnyMethod.{AnyMethod}
use Rattle.amqp_typed.specs.declared.exchange.AnyMethod.TheVariants as any
use Rattle.amqp_typed.specs.declared.exchange.AnyMethodView.{AnyMethodView}
use Rattle.amqp_typed.specs.declared.exchange.AnyMethodView.TheVariants as view

abbrev pub declare_call : Declare → Call
declare_call m =
    call ExchangeDeclare
    (short_string m.exchange ∷ short_string m.type_name ∷ bit m.passive ∷ bit m.durable
    ∷ bit m.auto_delete ∷ bit m.internal ∷ bit m.no_wait ∷ table (table_view m.arguments) ∷ [])

abbrev pub declare_ref_call : DeclareRef → Call
declare_ref_call m =
    call ExchangeDeclare
    (short_string m.exchange.now ∷ short_string m.type_name.now ∷ bit m.passive ∷ bit m.durable
    ∷ bit m.auto_delete ∷ bit m.internal ∷ bit m.no_wait ∷ table (table_view m.arguments.now) ∷ [])

abbrev pub declare_view_call : DeclareView → Call
declare_view_call m =
    call ExchangeDeclare
    (short_string m.exchange.now ∷ short_string m.type_name.now ∷ bit m.passive ∷ bit m.durable
    ∷ bit m.auto_delete ∷ bit m.internal ∷ bit m.no_wait ∷ table (table_ref_view m.arguments) ∷ [])

abbrev pub delete_call : Delete → Call
delete_call m = call ExchangeDelete (short_string m.exchange ∷ bit m.if_unused ∷ bit m.no_wait ∷ [])

abbrev pub delete_ref_call : DeleteRef → Call
delete_ref_call m =
    call ExchangeDelete
    (short_string m.exchange.now ∷ bit m.if_unused ∷ bit m.no_wait ∷ [])

abbrev pub delete_view_call : DeleteView → Call
delete_view_call m =
    call ExchangeDelete
    (short_string m.exchange.now ∷ bit m.if_unused ∷ bit m.no_wait ∷ [])

abbrev pub bind_call : Bind → Call
bind_call m =
    call ExchangeBind
    (short_string m.destination ∷ short_string m.source ∷ short_string m.routing_key ∷ bit m.no_wait
    ∷ table (table_view m.arguments) ∷ [])

abbrev pub bind_ref_call : BindRef → Call
bind_ref_call m =
    call ExchangeBind
    (short_string m.destination.now ∷ short_string m.source.now ∷ short_string m.routing_key.now
    ∷ bit m.no_wait ∷ table (table_view m.arguments.now) ∷ [])

abbrev pub bind_view_call : BindView → Call
bind_view_call m =
    call ExchangeBind
    (short_string m.destination.now ∷ short_string m.source.now ∷ short_string m.routing_key.now
    ∷ bit m.no_wait ∷ table (table_ref_view m.arguments) ∷ [])

abbrev pub unbind_call : Unbind → Call
unbind_call m =
    call ExchangeUnbind
    (short_string m.destination ∷ short_string m.source ∷ short_string m.routing_key ∷ bit m.no_wait
    ∷ table (table_view m.arguments) ∷ [])

abbrev pub unbind_ref_call : UnbindRef → Call
unbind_ref_call m =
    call ExchangeUnbind
    (short_string m.destination.now ∷ short_string m.source.now ∷ short_string m.routing_key.now
    ∷ bit m.no_wait ∷ table (table_view m.arguments.now) ∷ [])

abbrev pub unbind_view_call : UnbindView → Call
unbind_view_call m =
    call ExchangeUnbind
    (short_string m.destination.now ∷ short_string m.source.now ∷ short_string m.routing_key.now
    ∷ bit m.no_wait ∷ table (table_ref_view m.arguments) ∷ [])

abbrev pub any_call : AnyMethod → Call
any_call (any.Declare m) = declare_call m
any_call (any.DeclareOk m) = call ExchangeDeclareOk []
any_call (any.Delete m) = delete_call m
any_call (any.DeleteOk m) = call ExchangeDeleteOk []
any_call (any.Bind m) = bind_call m
any_call (any.BindOk m) = call ExchangeBindOk []
any_call (any.Unbind m) = unbind_call m
any_call (any.UnbindOk m) = call ExchangeUnbindOk []

abbrev pub any_view_call : AnyMethodView → Call
any_view_call (view.Declare m) = declare_view_call m
any_view_call (view.DeclareOk m) = call ExchangeDeclareOk []
any_view_call (view.Delete m) = delete_view_call m
any_view_call (view.DeleteOk m) = call ExchangeDeleteOk []
any_view_call (view.Bind m) = bind_view_call m
any_view_call (view.BindOk m) = call ExchangeBindOk []
any_view_call (view.Unbind m) = unbind_view_call m
any_view_call (view.UnbindOk m) = call ExchangeUnbindOk []

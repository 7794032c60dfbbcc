-- What the structs of the class connection stand for: each the call of its method, with the fields as arguments in
-- the order of the table.
-- Written by `tools/typed_methods.py` from the table of methods in `docs/PROTOCOL.md`: change those and run it again.
use Rattle.std.specs.Prelude.{[], ◌∷◌}
use Rattle.amqp_value.specs.Lent.{table_ref_view}
use Rattle.amqp_value.specs.Tables.{table_view}
use Rattle.amqp_method.specs.Arguments.{Call, call, octet, short, long, short_string, long_string, table}
use Rattle.amqp_method.specs.declared.kinds.Kind.TheVariants.{ConnectionStart, ConnectionStartOk, ConnectionSecure, ConnectionSecureOk, ConnectionTune, ConnectionTuneOk, ConnectionOpen, ConnectionOpenOk, ConnectionClose, ConnectionCloseOk, ConnectionBlocked, ConnectionUnblocked}
use Rattle.amqp_typed.specs.declared.connection.Start.{Start}
use Rattle.amqp_typed.specs.declared.connection.StartRef.{StartRef}
use Rattle.amqp_typed.specs.declared.connection.StartView.{StartView}
use Rattle.amqp_typed.specs.declared.connection.StartOk.{StartOk}
use Rattle.amqp_typed.specs.declared.connection.StartOkRef.{StartOkRef}
use Rattle.amqp_typed.specs.declared.connection.StartOkView.{StartOkView}
use Rattle.amqp_typed.specs.declared.connection.Secure.{Secure}
use Rattle.amqp_typed.specs.declared.connection.SecureRef.{SecureRef}
use Rattle.amqp_typed.specs.declared.connection.SecureView.{SecureView}
use Rattle.amqp_typed.specs.declared.connection.SecureOk.{SecureOk}
use Rattle.amqp_typed.specs.declared.connection.SecureOkRef.{SecureOkRef}
use Rattle.amqp_typed.specs.declared.connection.SecureOkView.{SecureOkView}
use Rattle.amqp_typed.specs.declared.connection.Tune.{Tune}
use Rattle.amqp_typed.specs.declared.connection.TuneOk.{TuneOk}
use Rattle.amqp_typed.specs.declared.connection.Open.{Open}
use Rattle.amqp_typed.specs.declared.connection.OpenRef.{OpenRef}
use Rattle.amqp_typed.specs.declared.connection.OpenView.{OpenView}
use Rattle.amqp_typed.specs.declared.connection.Close.{Close}
use Rattle.amqp_typed.specs.declared.connection.CloseRef.{CloseRef}
use Rattle.amqp_typed.specs.declared.connection.CloseView.{CloseView}
use Rattle.amqp_typed.specs.declared.connection.Blocked.{Blocked}
use Rattle.amqp_typed.specs.declared.connection.BlockedRef.{BlockedRef}
use Rattle.amqp_typed.specs.declared.connection.BlockedView.{BlockedView}
use Rattle.amqp_typed.specs.declared.connection.AnyMethod.{AnyMethod}
use Rattle.amqp_typed.specs.declared.connection.AnyMethod.TheVariants as any
use Rattle.amqp_typed.specs.declared.connection.AnyMethodView.{AnyMethodView}
use Rattle.amqp_typed.specs.declared.connection.AnyMethodView.TheVariants as view

abbrev pub start_call : Start → Call
start_call m =
    call ConnectionStart
    (octet m.version_major ∷ octet m.version_minor ∷ table (table_view m.server_properties)
    ∷ long_string m.mechanisms.items ∷ long_string m.locales.items ∷ [])

abbrev pub start_ref_call : StartRef → Call
start_ref_call m =
    call ConnectionStart
    (octet m.version_major ∷ octet m.version_minor ∷ table (table_view m.server_properties.now)
    ∷ long_string m.mechanisms.now ∷ long_string m.locales.now ∷ [])

abbrev pub start_view_call : StartView → Call
start_view_call m =
    call ConnectionStart
    (octet m.version_major ∷ octet m.version_minor ∷ table (table_ref_view m.server_properties)
    ∷ long_string m.mechanisms.now ∷ long_string m.locales.now ∷ [])

abbrev pub start_ok_call : StartOk → Call
start_ok_call m =
    call ConnectionStartOk
    (table (table_view m.client_properties) ∷ short_string m.mechanism
    ∷ long_string m.response.items ∷ short_string m.locale ∷ [])

abbrev pub start_ok_ref_call : StartOkRef → Call
start_ok_ref_call m =
    call ConnectionStartOk
    (table (table_view m.client_properties.now) ∷ short_string m.mechanism.now
    ∷ long_string m.response.now ∷ short_string m.locale.now ∷ [])

abbrev pub start_ok_view_call : StartOkView → Call
start_ok_view_call m =
    call ConnectionStartOk
    (table (table_ref_view m.client_properties) ∷ short_string m.mechanism.now
    ∷ long_string m.response.now ∷ short_string m.locale.now ∷ [])

abbrev pub secure_call : Secure → Call
secure_call m = call ConnectionSecure (long_string m.challenge.items ∷ [])

abbrev pub secure_ref_call : SecureRef → Call
secure_ref_call m = call ConnectionSecure (long_string m.challenge.now ∷ [])

abbrev pub secure_view_call : SecureView → Call
secure_view_call m = call ConnectionSecure (long_string m.challenge.now ∷ [])

abbrev pub secure_ok_call : SecureOk → Call
secure_ok_call m = call ConnectionSecureOk (long_string m.response.items ∷ [])

abbrev pub secure_ok_ref_call : SecureOkRef → Call
secure_ok_ref_call m = call ConnectionSecureOk (long_string m.response.now ∷ [])

abbrev pub secure_ok_view_call : SecureOkView → Call
secure_ok_view_call m = call ConnectionSecureOk (long_string m.response.now ∷ [])

abbrev pub tune_call : Tune → Call
tune_call m = call ConnectionTune (short m.channel_max ∷ long m.frame_max ∷ short m.heartbeat ∷ [])

abbrev pub tune_ok_call : TuneOk → Call
tune_ok_call m =
    call ConnectionTuneOk
    (short m.channel_max ∷ long m.frame_max ∷ short m.heartbeat ∷ [])

abbrev pub open_call : Open → Call
open_call m = call ConnectionOpen (short_string m.virtual_host ∷ [])

abbrev pub open_ref_call : OpenRef → Call
open_ref_call m = call ConnectionOpen (short_string m.virtual_host.now ∷ [])

abbrev pub open_view_call : OpenView → Call
open_view_call m = call ConnectionOpen (short_string m.virtual_host.now ∷ [])

abbrev pub close_call : Close → Call
close_call m =
    call ConnectionClose
    (short m.reply_code ∷ short_string m.reply_text ∷ short m.class_id ∷ short m.method_id ∷ [])

abbrev pub close_ref_call : CloseRef → Call
close_ref_call m =
    call ConnectionClose
    (short m.reply_code ∷ short_string m.reply_text.now ∷ short m.class_id ∷ short m.method_id ∷ [])

abbrev pub close_view_call : CloseView → Call
close_view_call m =
    call ConnectionClose
    (short m.reply_code ∷ short_string m.reply_text.now ∷ short m.class_id ∷ short m.method_id ∷ [])

abbrev pub blocked_call : Blocked → Call
blocked_call m = call ConnectionBlocked (short_string m.reason ∷ [])

abbrev pub blocked_ref_call : BlockedRef → Call
blocked_ref_call m = call ConnectionBlocked (short_string m.reason.now ∷ [])

abbrev pub blocked_view_call : BlockedView → Call
blocked_view_call m = call ConnectionBlocked (short_string m.reason.now ∷ [])

abbrev pub any_call : AnyMethod → Call
any_call (any.Start m) = start_call m
any_call (any.StartOk m) = start_ok_call m
any_call (any.Secure m) = secure_call m
any_call (any.SecureOk m) = secure_ok_call m
any_call (any.Tune m) = tune_call m
any_call (any.TuneOk m) = tune_ok_call m
any_call (any.Open m) = open_call m
any_call (any.OpenOk m) = call ConnectionOpenOk []
any_call (any.Close m) = close_call m
any_call (any.CloseOk m) = call ConnectionCloseOk []
any_call (any.Blocked m) = blocked_call m
any_call (any.Unblocked m) = call ConnectionUnblocked []

abbrev pub any_view_call : AnyMethodView → Call
any_view_call (view.Start m) = start_view_call m
any_view_call (view.StartOk m) = start_ok_view_call m
any_view_call (view.Secure m) = secure_view_call m
any_view_call (view.SecureOk m) = secure_ok_view_call m
any_view_call (view.Tune m) = tune_call m
any_view_call (view.TuneOk m) = tune_ok_call m
any_view_call (view.Open m) = open_view_call m
any_view_call (view.OpenOk m) = call ConnectionOpenOk []
any_view_call (view.Close m) = close_view_call m
any_view_call (view.CloseOk m) = call ConnectionCloseOk []
any_view_call (view.Blocked m) = blocked_view_call m
any_view_call (view.Unblocked m) = call ConnectionUnblocked []

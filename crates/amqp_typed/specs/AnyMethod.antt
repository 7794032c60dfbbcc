-- What a method of any kind stands for, and one that lies in its payload.
-- Written by `tools/typed_methods.py` from the table of methods in `docs/PROTOCOL.md`: change those and run it again.
use Rattle.amqp_method.specs.Arguments.{Call}
use Rattle.amqp_typed.specs.declared.any_method.AnyMethod.{AnyMethod}
use Rattle.amqp_typed.specs.declared.any_method.AnyMethod.TheVariants as any
use Rattle.amqp_typed.specs.declared.any_method.AnyMethodView.{AnyMethodView}
use Rattle.amqp_typed.specs.declared.any_method.AnyMethodView.TheVariants as view
use Rattle.amqp_typed.specs.Connection as connection
use Rattle.amqp_typed.specs.Channel as channel
use Rattle.amqp_typed.specs.Exchange as exchange
use Rattle.amqp_typed.specs.Queue as queue
use Rattle.amqp_typed.specs.Basic as basic
use Rattle.amqp_typed.specs.Tx as tx
use Rattle.amqp_typed.specs.Confirm as confirm

abbrev pub any_call : AnyMethod → Call
any_call (any.Connection m) = connection.any_call m
any_call (any.Channel m) = channel.any_call m
any_call (any.Exchange m) = exchange.any_call m
any_call (any.Queue m) = queue.any_call m
any_call (any.Basic m) = basic.any_call m
any_call (any.Tx m) = tx.any_call m
any_call (any.Confirm m) = confirm.any_call m

abbrev pub any_view_call : AnyMethodView → Call
any_view_call (view.Connection m) = connection.any_view_call m
any_view_call (view.Channel m) = channel.any_view_call m
any_view_call (view.Exchange m) = exchange.any_view_call m
any_view_call (view.Queue m) = queue.any_view_call m
any_view_call (view.Basic m) = basic.any_view_call m
any_view_call (view.Tx m) = tx.any_call m
any_view_call (view.Confirm m) = confirm.any_call m

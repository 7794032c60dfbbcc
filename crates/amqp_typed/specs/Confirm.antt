-- What the structs of the class confirm stand for: each the call of its method, with the fields as arguments in
-- the order of the table.
-- Written by `tools/typed_methods.py` from the table of methods in `docs/PROTOCOL.md`: change those and run it again.
use Rattle.std.specs.Prelude.{[], ◌∷◌}
use Rattle.amqp_method.specs.Arguments.{Call, call, bit}
use Rattle.amqp_method.specs.declared.kinds.Kind.TheVariants.{ConfirmSelect, ConfirmSelectOk}
use Rattle.amqp_typed.specs.declared.confirm.Select.{Select}
use Rattle.amqp_typed.specs.declared.confirm.AnyMethod.{AnyMethod}
use Rattle.amqp_typed.specs.declared.confirm.AnyMethod.TheVariants as any

abbrev pub select_call : Select → Call
select_call m = call ConfirmSelect (bit m.no_wait ∷ [])

abbrev pub any_call : AnyMethod → Call
any_call (any.Select m) = select_call m
any_call (any.SelectOk m) = call ConfirmSelectOk []

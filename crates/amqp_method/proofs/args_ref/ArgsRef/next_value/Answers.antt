use Rattle.std.proofs.Common.{◌<◌, length, map, ap, arith}
use Rattle.amqp_method.specs.BitsView.{bits_view}
use Rattle.amqp_method.specs.Rows.{field_view}
use Rattle.amqp_method.proofs.RefLemmas.{no_values, none_left}
use Rattle.amqp_method.proofs.args_ref.ArgsRef.next_value.Goals as goal

pub returns-in_err-field : goal.returns-in_err-field
returns-in_err-field c =
    let a = c.args.self in
    rw c.from_residual.ensures (no_values (map field_view a.fields.now) (bits_view a.bits) a.end a.octets.now (none_left a.fields.now c.in_err-field.ensures.cases))

pub returns : goal.returns
returns c =
    let shorter : length c.first_value.result.1.fields.now < length c.args.self.fields.now =
    omega (arith, ap length c.in_ok-field.ensures.cases.0, ap length c.first_value.ensures.left) in
    (c.first_value.ensures.value, shorter)

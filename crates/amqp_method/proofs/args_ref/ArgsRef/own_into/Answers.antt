use Rattle.std.proofs.Common.{map}
use Rattle.amqp_method.specs.BitsView.{bits_view}
use Rattle.amqp_method.specs.MethodRefs.{args_left}
use Rattle.amqp_method.specs.Rows.{field_view}
use Rattle.amqp_method.specs.Views.{args_view}
use Rattle.amqp_method.proofs.OwningLemmas.{all_built}
use Rattle.amqp_method.proofs.RefLemmas.{no_values, none_left}
use Rattle.amqp_method.proofs.args_ref.ArgsRef.own_into.Goals as goal

pub returns : goal.returns
returns c =
    let l = c.loop-field.left in
    all_built (args_view c.loop-field.args.items) (args_left l) (args_left c.args.self)
    (no_values (map field_view l.fields.now) (bits_view l.bits) l.end l.octets.now (none_left l.fields.now c.in_default.ensures.cases)) c.loop-field.invariant

use Rattle.std.proofs.Common.{List, ◌++◌, drop, map, ap, ◌∙◌}
use Rattle.amqp_method.specs.BitsView.{bits_view}
use Rattle.amqp_method.specs.MethodRefs.{args_left}
use Rattle.amqp_method.specs.Rows.{field_view}
use Rattle.amqp_method.specs.Views.{args_view}
use Rattle.amqp_method.specs.declared.fields.Arg.{Arg}
use Rattle.amqp_method.proofs.KnownFields.{last_built}
use Rattle.amqp_method.proofs.args_ref.ArgsRef.own_ack.Goals as goal

pub returns : goal.returns
returns c =
    let l = c.own_known_bit.result in
    last_built (map field_view l.fields.now) (bits_view l.bits) l.end l.octets.now (args_view c.own_known_bit.new.args.items) (args_left c.args.self)
    (c.own_known_bit.ensures.left ∙ ap (drop 1) (c.own_known_long_long-left.ensures.left ∙ ap (drop 1) c.requires))
    (c.own_known_bit.ensures.added ∙ c.own_known_long_long-left.ensures.added
    ∙ ap (λ (items : List Arg). args_view items ++ args_left c.args.self) c.in_ok-args.ensures.items)

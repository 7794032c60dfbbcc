use Rattle.std.proofs.Common.{List, ◌++◌, drop, map, ap, ◌∙◌}
use Rattle.amqp_method.specs.BitsView.{bits_view}
use Rattle.amqp_method.specs.MethodRefs.{args_left}
use Rattle.amqp_method.specs.Rows.{field_view}
use Rattle.amqp_method.specs.Views.{args_view}
use Rattle.amqp_method.specs.declared.fields.Arg.{Arg}
use Rattle.amqp_method.proofs.KnownFields.{last_built}
use Rattle.amqp_method.proofs.args_ref.ArgsRef.own_deliver.Goals as goal

pub returns : goal.returns
returns c =
    let l = c.in_ok-own_known_text.field-0 in
    last_built (map field_view l.fields.now) (bits_view l.bits) l.end l.octets.now (args_view c.own_known_text-3.new.args.items) (args_left c.args.self)
    (c.in_ok-own_known_text.ensures.left ∙ ap (drop 1) (c.in_ok-left-2.ensures.left ∙ ap (drop 1) (c.own_known_bit-left.ensures.left ∙ ap (drop 1) (c.own_known_long_long-left.ensures.left ∙ ap (drop 1) (c.in_ok-left.ensures.left ∙ ap (drop 1) c.requires)))))
    (c.in_ok-own_known_text.ensures.added ∙ c.in_ok-left-2.ensures.added ∙ c.own_known_bit-left.ensures.added ∙ c.own_known_long_long-left.ensures.added ∙ c.in_ok-left.ensures.added
    ∙ ap (λ (items : List Arg). args_view items ++ args_left c.args.self) c.in_ok-args.ensures.items)

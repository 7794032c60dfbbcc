use Rattle.std.proofs.Common.{List, ◌++◌, drop, map, ap, sym, ◌∙◌}
use Rattle.amqp_method.specs.BitsView.{bits_view}
use Rattle.amqp_method.specs.MethodRefs.{args_left}
use Rattle.amqp_method.specs.Rows.{field_view}
use Rattle.amqp_method.specs.Views.{args_view}
use Rattle.amqp_method.specs.declared.fields.Arg.{Arg}
use Rattle.amqp_method.proofs.KnownFields.{last_built}
use Rattle.amqp_method.proofs.args_ref.ArgsRef.own_publish.Goals as goal

pub returns : goal.returns
returns c =
    let l = c.own_known_bit.result in
    last_built (map field_view l.fields.now) (bits_view l.bits) l.end l.octets.now (args_view c.own_known_bit.new.args.items) (args_left c.args.self)
    (c.own_known_bit.ensures.left ∙ ap (drop 1) (c.own_known_bit-left.ensures.left ∙ ap (drop 1) (c.in_ok-left-2.ensures.left ∙ ap (drop 1) (c.in_ok-left.ensures.left ∙ ap (drop 1) (c.past_short-left.ensures.left ∙ ap (drop 1) c.requires)))))
    (c.own_known_bit.ensures.added ∙ c.own_known_bit-left.ensures.added ∙ c.in_ok-left-2.ensures.added ∙ c.in_ok-left.ensures.added
    ∙ ap (λ (items : List Arg). args_view items ++ args_left c.past_short-left.result) c.in_ok-args.ensures.items ∙ sym c.past_short-left.ensures.value)

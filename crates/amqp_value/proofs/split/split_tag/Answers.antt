use Rattle.std.proofs.Common.{◌∙◌, sym, subst, refl}
use Rattle.std.specs.Option.{IsSome}
use Rattle.amqp_value.proofs.Whole.{begins-long, tagged-of}
use Rattle.amqp_value.proofs.split.split_tag.Goals as goal

pub split_octet-octet-requires : goal.split_octet-octet-requires
split_octet-octet-requires c = begins-long c.args.octets.now c.requires

pub unwrap-requires : goal.unwrap-requires
unwrap-requires c =
    let t = tagged-of c.args.octets.now _ _ c.requires c.split_octet-octet.ensures in
    subst IsSome (sym (c.tag_from.ensures ∙ t.1)) refl

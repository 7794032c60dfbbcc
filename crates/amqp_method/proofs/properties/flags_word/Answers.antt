use Rattle.std.proofs.Common.{◌≡◌, Bool, true, false, is_some, refl, ap, ◌∙◌, arith}
use Rattle.amqp_method.specs.Lent.{lent_views}
use Rattle.amqp_method.proofs.PresentLemmas.{flag_value, flag_next, flags_small}
use Rattle.amqp_method.proofs.properties.flags_word.Goals as goal
use mir.Val.{bool_byte}

byte_is : (b : Bool) → bool_byte b ≡ flag_value b
byte_is true = refl
byte_is false = refl

pub loop-property-preserved : goal.loop-property-preserved
loop-property-preserved c =
    flag_next c.args.properties.now c.loop-property.property-index c.property-item.result c.loop-property.flags c.from.result (lent_views c.args.properties.now) c.loop-property-test.true
    (c.from.ensures ∙ byte_is c.is_some.result ∙ ap flag_value (c.is_some.ensures ∙ ap is_some c.property-item.is)) c.loop-property.invariant

pub overflow_mul-result : goal.overflow_mul-result
overflow_mul-result c = let h = flags_small c.loop-property.flags c.loop-property.property-index c.loop-property.invariant.below (omega arith) in record { fits = omega arith }

use Rattle.std.proofs.Common.{◌∙◌, ◌&&◌, ◌<◌, ◌+◌, length, drop, sym, ap, arith}
use Rattle.amqp_method.specs.Same.{same_properties}
use Rattle.amqp_method.specs.HeaderRefView.{property_ref_view, lent_header}
use Rattle.amqp_method.proofs.PropertySteps.{fourteen, lent_is, compared, all_compared}
use Rattle.amqp_method.proofs.same.same_properties.Goals as goal

pub returns-then-not-same_property : goal.returns-then-not-same_property
returns-then-not-same_property c =
    let h = c.args.header in
    let k = c.args.other in
    let i = c.loop-place.place in
    let ps = (lent_header h).properties in
    let qs = (lent_header k).properties in
    let p = property_ref_view c.at.result in
    let q = property_ref_view c.at-in-loop-place.result in
    let first : i < length ps = omega (arith, fourteen h.payload.now h.body_size h.flags h.below h.flagged h.reads, c.loop-place-test.true) in
    let second : i < length qs = omega (arith, fourteen k.payload.now k.body_size k.flags k.below k.flagged k.reads, c.loop-place-test.true) in
    let one = compared i ps qs p q first second (lent_is c.at.result _ c.at.ensures) (lent_is c.at-in-loop-place.result _ c.at-in-loop-place.ensures) in
    ap (λ s. s && same_properties (drop (i + 1) ps) (drop (i + 1) qs)) (sym c.if-not-same_property.true ∙ c.same_property.ensures)
    ∙ sym one
    ∙ c.loop-place.invariant

pub loop-place-preserved : goal.loop-place-preserved
loop-place-preserved c =
    let h = c.args.header in
    let k = c.args.other in
    let i = c.loop-place.place in
    let ps = (lent_header h).properties in
    let qs = (lent_header k).properties in
    let p = property_ref_view c.at.result in
    let q = property_ref_view c.at-in-loop-place.result in
    let first : i < length ps = omega (arith, fourteen h.payload.now h.body_size h.flags h.below h.flagged h.reads, c.loop-place-test.true) in
    let second : i < length qs = omega (arith, fourteen k.payload.now k.body_size k.flags k.below k.flagged k.reads, c.loop-place-test.true) in
    let one = compared i ps qs p q first second (lent_is c.at.result _ c.at.ensures) (lent_is c.at-in-loop-place.result _ c.at-in-loop-place.ensures) in
    ap (λ s. s && same_properties (drop (i + 1) ps) (drop (i + 1) qs)) (sym c.if-not-same_property.false ∙ c.same_property.ensures)
    ∙ sym one
    ∙ c.loop-place.invariant

pub returns : goal.returns
returns c =
    let h = c.args.header in
    let k = c.args.other in
    let i = c.loop-place.place in
    let ps = (lent_header h).properties in
    let qs = (lent_header k).properties in
    sym (all_compared i ps qs (omega (arith, fourteen h.payload.now h.body_size h.flags h.below h.flagged h.reads, c.loop-place-test.false)) (omega (arith, fourteen k.payload.now k.body_size k.flags k.below k.flagged k.reads, c.loop-place-test.false)))
    ∙ c.loop-place.invariant

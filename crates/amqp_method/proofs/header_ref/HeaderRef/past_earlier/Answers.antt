use Rattle.std.proofs.Common.{◌≡◌, ℕ, subst, arith}
use Rattle.amqp_method.specs.HeaderRefs.{PropertiesLeft}
use Rattle.amqp_method.specs.HeaderRefView.{properties_read, property_ref_view}
use Rattle.amqp_method.specs.HeaderReading.{header_at}
use Rattle.amqp_method.proofs.HeaderRefs.{first_of, match_property}
use Rattle.amqp_method.proofs.header_ref.HeaderRef.past_earlier.Goals as goal

pub next_property-requires-2-clause-left : goal.next_property-requires-2-clause-left
next_property-requires-2-clause-left c =
    let there : c.loop-earlier.earlier ≡ c.args.place = omega (arith, c.loop-earlier-test.false, c.loop-earlier.auto.earlier-end) in
    subst (λ (n : ℕ). PropertiesLeft c.args.self n c.loop-earlier.rest.now) there c.loop-earlier.invariant

pub returns : goal.returns
returns c =
    match_property c.next_property-2.result.0 _
    (first_of c.args.place (properties_read (header_at c.args.self.payload.now)) (property_ref_view c.next_property-2.result.0) c.next_property-2.ensures.is)

-- What is asked is the content that the carrier, the properties and the chunks make.
use Rattle.std.proofs.Common.{ap, ◌∙◌, subst}
use Rattle.amqp_method.specs.CarrierView.{carrier_view}
use Rattle.amqp_method.specs.HeaderView.{properties_view}
use Rattle.amqp_method.specs.Kinds.{has_content}
use Rattle.amqp_core.specs.Asks.Outcomes.{content_asked}
use Rattle.amqp_core.specs.Stream.Asks.{StreamAsked}
use Rattle.example_loop.proofs.contents.Content.send.Goals as goal

pub returns-clause-asked : goal.returns-clause-asked
returns-clause-asked g c =
    let content = c.args.self.now in
    let carried = c.method-method.ensures in
    subst (λ header. StreamAsked c.args.end.now (content_asked c.args.channel (carrier_view content.method) (properties_view header.properties) content.body) c.send_chunks.result c.send_chunks.new.self) c.deref.ensures
    (subst (λ method. StreamAsked c.args.end.now (content_asked c.args.channel method (properties_view c.deref.result.now.properties) content.body) c.send_chunks.result c.send_chunks.new.self) carried
    (c.send_chunks.ensures.asked (ap (λ method. has_content method.kind) carried ∙ content.method.carries)))

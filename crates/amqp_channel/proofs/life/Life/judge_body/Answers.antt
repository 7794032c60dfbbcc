use Rattle.std.proofs.Common.{rules}
use Rattle.amqp_method.specs.CarrierView.{carrier_view}
use Rattle.amqp_method.specs.HeaderView.{properties_view}
use Rattle.amqp_channel.specs.Contents.DeferredView.{properties_of}
use Rattle.amqp_channel.specs.Channel.LifeView.{life_view}
use Rattle.amqp_channel.proofs.life.Life.judge_body.Goals as goal

pub returns-in-BodyDue : goal.returns-in-BodyDue
returns-in-BodyDue c =
    let kept = c.in-BodyDue.content.value in
    c.judge_part.ensures (life_view c.args.self.now) (carrier_view kept.method) (properties_view kept.header.properties) kept.body.items
    (search rules) (search rules)

pub returns-in-Deferred : goal.returns-in-Deferred
returns-in-Deferred c =
    let kept = c.in-Deferred.deferred.value in
    c.judge_part-in-Deferred.ensures (life_view c.args.self.now) (carrier_view kept.content.value.method) (properties_of kept.header.items)
    kept.content.value.body.items (search rules) (search rules)

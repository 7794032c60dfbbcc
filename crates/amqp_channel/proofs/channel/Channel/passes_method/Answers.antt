use Rattle.amqp_method.specs.MethodRefView.{lent_call}
use Rattle.amqp_channel.specs.Channel.LifeView.{life_view}
use Rattle.amqp_channel.proofs.OneWayLemmas.{all_methods}
use Rattle.amqp_channel.proofs.channel.Channel.passes_method.Goals as goal

pub returns-in-Open-clause-passes : goal.returns-in-Open-clause-passes
returns-in-Open-clause-passes c =
    rw c.in-Open.is
    (all_methods c.args.site (life_view c.in-Open.life) (lent_call c.args.method) c.passes.result c.requires.above c.requires.within
    c.passes.ensures.one_way c.passes.ensures.tells c.passes.ensures.rules)

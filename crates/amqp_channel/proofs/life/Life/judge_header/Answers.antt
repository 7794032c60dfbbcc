use Rattle.std.proofs.Common.{ap}
use Rattle.amqp_method.specs.BegunView.{begun_view}
use Rattle.amqp_channel.specs.Contents.GatheringView.{gathering_view}
use Rattle.amqp_channel.specs.Channel.LifeView.{life_view}
use Rattle.amqp_channel.proofs.life.Life.judge_header.Goals as goal

pub returns-in-HeaderDue : goal.returns-in-HeaderDue
returns-in-HeaderDue c =
    c.judge_awaited.ensures (life_view c.args.self.now) (begun_view c.in-HeaderDue.field-0) (ap gathering_view c.in-HeaderDue.is)

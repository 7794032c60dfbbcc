use Rattle.std.proofs.Common.{refl}
use Rattle.amqp_model.specs.Lent.Streaming.{AwaitsHeader, gathered_as}
use Rattle.amqp_channel.specs.Channel.LifeView.{life_on}
use Rattle.amqp_channel.proofs.channel.Channel.judge_open_header.Goals as goal

pub returns-in-LentHeader : goal.returns-in-LentHeader
returns-in-LentHeader c =
    rw c.in-LentHeader.is
    (c.judge_awaited.ensures (life_on (gathered_as (AwaitsHeader c.in-LentHeader.field-0)) c.in-LentHeader.field-1) _ refl)

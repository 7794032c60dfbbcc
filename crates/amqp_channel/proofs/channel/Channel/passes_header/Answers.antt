use Rattle.std.proofs.Common.{refl}
use Rattle.amqp_model.specs.Lent.Streaming.{AwaitsHeader, gathered_as}
use Rattle.amqp_channel.specs.Channel.LifeView.{life_on}
use Rattle.amqp_channel.proofs.OneWayLemmas.{all_of_content}
use Rattle.amqp_channel.proofs.channel.Channel.passes_header.Goals as goal

pub returns-in-LentHeader : goal.returns-in-LentHeader
returns-in-LentHeader c =
    let lent = c.in-LentHeader in
    let life = life_on (gathered_as (AwaitsHeader lent.kind)) lent.field-1 in
    let passes = c.passes_content.ensures in
    rw lent.is
    (all_of_content c.args.site _ life c.judge_awaited.result c.passes_content.result passes.verdict passes.content passes.completes
    (c.judge_awaited.ensures life _ refl))

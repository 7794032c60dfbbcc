use Rattle.std.proofs.Common.{refl}
use Rattle.std.proofs.lemmas.List.{length-replicate}
use Rattle.amqp_model.specs.Lent.Streaming.{AwaitsBody, gathered_as}
use Rattle.amqp_channel.specs.Channel.LifeView.{life_on}
use Rattle.amqp_channel.proofs.OneWayLemmas.{all_of_content}
use Rattle.amqp_channel.proofs.channel.Channel.passes_body.Goals as goal

pub returns-in-LentBody : goal.returns-in-LentBody
returns-in-LentBody c =
    let lent = c.in-LentBody in
    let life = life_on (gathered_as (AwaitsBody lent.kind lent.size lent.came)) lent.standing in
    let passes = c.passes_content.ensures in
    rw lent.is
    (all_of_content c.args.site _ life c.judge_part.result c.passes_content.result passes.verdict passes.content passes.completes
    (c.judge_part.ensures life _ _ _ refl (length-replicate lent.came 0)))

use Rattle.std.proofs.Common.{refl}
use Rattle.std.proofs.lemmas.List.{length-replicate}
use Rattle.amqp_model.specs.Lent.Streaming.{AwaitsBody, gathered_as}
use Rattle.amqp_channel.specs.Channel.LifeView.{life_on}
use Rattle.amqp_channel.proofs.channel.Channel.judge_open_body.Goals as goal

pub returns-in-LentBody : goal.returns-in-LentBody
returns-in-LentBody c =
    let lent = c.in-LentBody in
    rw lent.is
    (c.judge_part.ensures (life_on (gathered_as (AwaitsBody lent.kind lent.size lent.came)) lent.standing) _ _ _ refl (length-replicate lent.came 0))

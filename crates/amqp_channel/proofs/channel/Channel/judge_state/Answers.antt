-- On an Open channel the verdict by its life is the verdict, since no earlier rule applies.
use Rattle.std.proofs.Common.{refl}
use Rattle.amqp_method.specs.MethodRefView.{lent_call}
use Rattle.amqp_model.specs.End.Channels.{Open}
use Rattle.amqp_model.specs.Lent.Streaming.{AwaitsBody, AwaitsHeader, gathered_as}
use Rattle.amqp_channel.specs.Channel.LifeView.{life_on, life_view}
use Rattle.amqp_channel.proofs.VerdictLemmas.{state_rules}
use Rattle.amqp_channel.proofs.channel.Channel.judge_state.Goals as goal

pub returns-in-Open : goal.returns-in-Open
returns-in-Open c =
    rw c.in-Open.is
    (state_rules c.args.site (Open (life_view c.in-Open.life)) (lent_call c.args.method) c.judge_method.result c.requires.sent tt c.judge_method.ensures)

pub returns-in-LentHeader : goal.returns-in-LentHeader
returns-in-LentHeader c =
    let life = life_on (gathered_as (AwaitsHeader c.in-LentHeader.field-0)) c.in-LentHeader.field-1 in
    rw c.in-LentHeader.is
    (state_rules c.args.site (Open life) (lent_call c.args.method) c.judge_inside-verdict.result c.requires.sent tt (c.judge_inside-verdict.ensures life refl))

pub returns-in-LentBody : goal.returns-in-LentBody
returns-in-LentBody c =
    let lent = c.in-LentBody in
    let life = life_on (gathered_as (AwaitsBody lent.kind lent.size lent.came)) lent.standing in
    rw lent.is
    (state_rules c.args.site (Open life) (lent_call c.args.method) c.judge_inside-verdict-in-LentBody.result c.requires.sent tt (c.judge_inside-verdict-in-LentBody.ensures life refl))

-- Out of memory, what stands beside the content is as it was.
use Rattle.std.proofs.Common.{ap, sym, ◌∙◌}
use Rattle.std.proofs.lemmas.Result.{on_err_weaker}
use Rattle.amqp_model.specs.Lent.Streaming.{AwaitsBody, AwaitsHeader, gathered_as}
use Rattle.amqp_channel.specs.Channel.ChannelView.{channel_view}
use Rattle.amqp_channel.specs.Contents.GatheringView.{gathering_view}
use Rattle.amqp_channel.proofs.channel.Channel.put_method.Goals as goal

pub returns-in-Open-clause-err : goal.returns-in-Open-clause-err
returns-in-Open-clause-err c =
    on_err_weaker c.put.result (λ same. same (gathering_view c.in-Open.life.content) ∙ sym (ap channel_view c.in-Open.is)) c.put.ensures.err

pub returns-in-LentHeader-clause-err : goal.returns-in-LentHeader-clause-err
returns-in-LentHeader-clause-err c =
    on_err_weaker c.put-in-LentHeader.result
    (λ same. same (gathered_as (AwaitsHeader c.in-LentHeader.field-0)) ∙ sym (ap channel_view c.in-LentHeader.is))
    c.put-in-LentHeader.ensures.err

pub returns-in-LentBody-clause-err : goal.returns-in-LentBody-clause-err
returns-in-LentBody-clause-err c =
    let lent = c.in-LentBody in
    on_err_weaker c.put-in-LentBody.result
    (λ same. same (gathered_as (AwaitsBody lent.kind lent.size lent.came)) ∙ sym (ap channel_view lent.is)) c.put-in-LentBody.ensures.err

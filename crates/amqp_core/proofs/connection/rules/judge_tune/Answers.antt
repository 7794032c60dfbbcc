use Rattle.std.proofs.Common.{rules, ◌≡◌, false, min, ap, ◌∙◌}
use Rattle.amqp_method.specs.MethodRefView.{lent_call}
use Rattle.amqp_model.specs.History.Negotiation.{smaller, tunes_too_small}
use Rattle.amqp_core.proofs.VerdictLemmas.{settled_rules}
use Rattle.amqp_core.proofs.connection.rules.judge_tune.Goals as goal

pub returns : goal.returns
returns c =
    let small : tunes_too_small (lent_call c.args.method) ≡ false = search rules in
    λ channels.
    settled_rules c.args.settings.now (record { channel_max = c.smaller.result; frame_max = c.smaller-2.result; heartbeat = c.smaller_heartbeat.result }) channels
    (lent_call c.args.method) c.requires.side c.requires.kind small
    (c.smaller.ensures.value ∙ ap (smaller c.args.settings.now.channel_max) c.lent_number_at-channels.ensures)
    (c.smaller-2.ensures.value ∙ ap (smaller c.args.settings.now.frame_max) c.lent_number_at-frame.ensures)
    (c.smaller_heartbeat.ensures ∙ ap (min c.args.settings.now.heartbeat) c.heartbeat_in.ensures)

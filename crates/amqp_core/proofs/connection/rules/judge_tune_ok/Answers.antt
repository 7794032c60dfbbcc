use Rattle.std.proofs.Common.{rules, ◌≡◌, true, false}
use Rattle.amqp_method.specs.MethodRefView.{lent_call}
use Rattle.amqp_model.specs.Wire.Methods.{number_at}
use Rattle.amqp_model.specs.History.Negotiation.{agreed_in}
use Rattle.amqp_core.specs.Connection.Handshakes.{within}
use Rattle.amqp_core.proofs.VerdictLemmas.{past_rules, within_rules}
use Rattle.amqp_core.proofs.connection.rules.judge_tune_ok.Goals as goal

pub returns-then-not-is_within : goal.returns-then-not-is_within
returns-then-not-is_within c =
    let out : within c.args.settings.now.channel_max c.args.settings.now.frame_max (number_at 0 (lent_call c.args.method)) (number_at 1 (lent_call c.args.method)) ≡ false = search rules in
    λ channels. past_rules c.args.settings.now channels (lent_call c.args.method) c.requires.side c.requires.kind out

pub returns : goal.returns
returns c =
    let fit : within c.args.settings.now.channel_max c.args.settings.now.frame_max (number_at 0 (lent_call c.args.method)) (number_at 1 (lent_call c.args.method)) ≡ true = search rules in
    let said : agreed_in (lent_call c.args.method) ≡ (record { channel_max = c.lent_number_at-channels.result; frame_max = c.lent_number_at-frame.result; heartbeat = c.heartbeat_in.result }) = cc in
    λ channels.
    within_rules c.args.settings.now (record { channel_max = c.lent_number_at-channels.result; frame_max = c.lent_number_at-frame.result; heartbeat = c.heartbeat_in.result }) channels
    (lent_call c.args.method) c.requires.side c.requires.kind said fit

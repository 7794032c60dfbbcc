use Rattle.std.proofs.Common.{rules, ◌≡◌, true, ℕ, sym, subst}
use Rattle.amqp_model.specs.End.Channels.{Running}
use Rattle.amqp_channel.specs.Channels.ChannelsView.{channels_view}
use Rattle.amqp_channel.specs.ReadingView.{reading_view}
use Rattle.amqp_core.specs.Connection.Dropping.{DropsReading}
use Rattle.amqp_core.specs.Connection.Handshakes.{is_in_handshake}
use Rattle.amqp_core.specs.Connection.Rulings.{OnConnection}
use Rattle.amqp_core.specs.Connection.Stages.{phase_at}
use Rattle.amqp_core.specs.Connection.Verdicts.{end_at, FrameRules, IsLight}
use Rattle.amqp_core.specs.declared.stage.Stage.{Stage}
use Rattle.amqp_core.specs.declared.stage.Stage.TheVariants as stages
use Rattle.amqp_core.proofs.connection.Connection.judge.Goals as goal

pub returns-in-Running-clause-rules : goal.returns-in-Running-clause-rules
returns-in-Running-clause-rules c =
    let running : phase_at c.args.self.now.stage ≡ Running = search rules in
    let P : Stage → ℕ → Type 0 = λ s n. FrameRules c.args.self.now.settings (end_at s c.args.self.now.channels) n (reading_view c.args.reading) (OnConnection c.judge_zero.result) in
    subst (λ (s : Stage). P s c.args.number) (sym c.in-Running.is)
    (subst (λ n. P (stages.Running c.in-Running.agreed) n) (sym (c.requires.zero running)) (c.judge_zero.ensures.rules c.args.self.now.channels))

pub returns-in-Running-clause-light : goal.returns-in-Running-clause-light
returns-in-Running-clause-light c =
    let running : phase_at c.args.self.now.stage ≡ Running = search rules in
    let reading = reading_view c.args.reading in
    let P : Stage → ℕ → Type 0 = λ s n. DropsReading (phase_at s) (channels_view c.args.self.now.channels n) n reading
    → IsLight (channels_view c.args.self.now.channels n) (OnConnection c.judge_zero.result) in
    subst (λ (s : Stage). P s c.args.number) (sym c.in-Running.is)
    (subst (λ n. P (stages.Running c.in-Running.agreed) n) (sym (c.requires.zero running)) c.judge_zero.ensures.light)

pub returns-in-Closing-clause-rules : goal.returns-in-Closing-clause-rules
returns-in-Closing-clause-rules c =
    subst (λ (s : Stage). FrameRules c.args.self.now.settings (end_at s c.args.self.now.channels) c.args.number (reading_view c.args.reading) (OnConnection c.judge_leaving.result))
    (sym c.in-Closing.is) (c.judge_leaving.ensures.rules c.args.self.now.settings c.args.self.now.channels)

pub returns-in-AwaitsStart-clause-rules : goal.returns-in-AwaitsStart-clause-rules
returns-in-AwaitsStart-clause-rules c =
    let early : is_in_handshake (phase_at c.args.self.now.stage) ≡ true = search rules in
    c.judge_handshake.ensures.rules c.args.self.now.channels (c.args.self.now.free early c.args.number)

pub returns-in-Closing-clause-light : goal.returns-in-Closing-clause-light
returns-in-Closing-clause-light c =
    let channel = channels_view c.args.self.now.channels c.args.number in
    subst (λ (s : Stage). DropsReading (phase_at s) channel c.args.number (reading_view c.args.reading) → IsLight channel (OnConnection c.judge_leaving.result))
    (sym c.in-Closing.is) (c.judge_leaving.ensures.light channel)

pub returns-in-AwaitsStart-clause-light : goal.returns-in-AwaitsStart-clause-light
returns-in-AwaitsStart-clause-light c =
    let early : is_in_handshake (phase_at c.args.self.now.stage) ≡ true = search rules in
    c.judge_handshake.ensures.light (channels_view c.args.self.now.channels c.args.number) (c.args.self.now.free early c.args.number)

use Rattle.std.proofs.Common.{ap, ◌∙◌}
use Rattle.amqp_model.specs.End.Machine.{new_end}
use Rattle.amqp_channel.specs.Channels.ChannelsView.{channels_view}
use Rattle.amqp_channel.specs.Roles.{role_of}
use Rattle.amqp_core.specs.Config.Settings.{role_for}
use Rattle.amqp_core.specs.Connection.Stages.{phase_at, agreed_at}
use Rattle.amqp_core.proofs.NewLemmas.{new_is}
use Rattle.amqp_core.proofs.connection.Connection.new.Goals as goal

pub returns-clause-end : goal.returns-clause-end
returns-clause-end c =
    new_is (role_for c.args.settings) (phase_at c.first-stage.result) (agreed_at c.first-stage.result) (channels_view c.new-channels.result) (c.first-stage.ensures.phase ∙ ap (λ s. (new_end (role_of s)).phase) c.side.ensures) c.first-stage.ensures.agreed c.new-channels.ensures.free

pub invariant_of-result-clause-gathers : goal.invariant_of-result-clause-gathers
invariant_of-result-clause-gathers c = λ lends. c.new-channels.ensures.gathers

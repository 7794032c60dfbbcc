-- The end awaits start-ok.
use Rattle.std.proofs.Common.{sym}
use Rattle.amqp_channel.specs.Channels.ChannelsView.{channels_view}
use Rattle.amqp_core.specs.Config.Settings.{config_view, role_for}
use Rattle.amqp_core.proofs.OpeningLemmas.{greets}
use Rattle.amqp_core.proofs.connection.Connection.greet.Goals as goal

pub returns-clause-end : goal.returns-clause-end
returns-clause-end c = sym (greets (role_for c.args.self.now.settings) (config_view c.args.self.now.settings) c.args.self.now.stage (channels_view c.args.self.now.channels) c.requires.awaited)

use Rattle.amqp_channel.specs.Channel.ChannelView.{channel_view}
use Rattle.amqp_channel.specs.ReadingView.{reading_view}
use Rattle.amqp_channel.specs.Roles.{role_of}
use Rattle.amqp_channel.proofs.LentLemmas.{advanced_alike}
use Rattle.amqp_channel.proofs.channel.Channel.apply_open_lent.Goals as goal

pub returns-in_ok-apply_standing-in-Begun-clause-left : goal.returns-in_ok-apply_standing-in-Begun-clause-left
returns-in_ok-apply_standing-in-Begun-clause-left c =
    advanced_alike (role_of c.args.side) (reading_view c.args.reading) c.args.told (channel_view c.args.self.now)
    (channel_view c.apply_standing.new.self) (channel_view c.advance.new.self)
    c.in_ok-apply_standing-in-Begun.ensures.ok c.advance.ensures

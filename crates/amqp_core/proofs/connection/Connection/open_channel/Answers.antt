use Rattle.std.proofs.lemmas.Result.{err_from_is_err_and}
use Rattle.amqp_model.specs.End.Asks as asks
use Rattle.amqp_channel.specs.Channels.ChannelsView.{channels_view}
use Rattle.amqp_core.specs.Connection.View.{connection_end}
use Rattle.amqp_core.proofs.AskLemmas.{refused_changed, refused_late, same_end, all_are_put, open_put}
use Rattle.amqp_core.proofs.connection.Connection.open_channel.Goals as goal

pub returns-in_err-number-clause-refused : goal.returns-in_err-number-clause-refused
returns-in_err-number-clause-refused c =
    let p = err_from_is_err_and c.from_residual.result c.from_residual.ensures.1 in
    let same = same_end c.args.self.now.stage c.allow_open.new.self.stage (channels_view c.args.self.now.channels)
    (channels_view c.allow_open.new.self.channels) c.allow_open.ensures.stage c.allow_open.ensures.same in
    rw (p.1, p.2) (refused_changed c.args.self.now.settings asks.Open _ (connection_end c.args.self.now) (connection_end c.allow_open.new.self) c.args.outbox.now
    c.in_err-number.ensures.refused same)

pub returns-in_err-stage_method-clause-refused : goal.returns-in_err-stage_method-clause-refused
returns-in_err-stage_method-clause-refused c =
    let p = err_from_is_err_and c.from_residual-in_err-stage_method.result c.from_residual-in_err-stage_method.ensures.1 in
    let same = same_end c.args.self.now.stage c.allow_open.new.self.stage (channels_view c.args.self.now.channels)
    (channels_view c.allow_open.new.self.channels) c.allow_open.ensures.stage c.allow_open.ensures.same in
    rw (p.1, p.2) (refused_late c.args.self.now.settings asks.Open _ (connection_end c.args.self.now) _ c.args.outbox.now _ c.in_ok-number.ensures.allowed
    c.in_err-stage_method.ensures.err same c.in_err-stage_method.ensures.same)

pub returns-clause-accepted : goal.returns-clause-accepted
returns-clause-accepted c =
    open_put c.args.self.now.settings c.args.self.now.stage c.allow_open.new.self.stage c.in_ok-number.number _
    (channels_view c.args.self.now.channels) (channels_view c.allow_open.new.self.channels) (channels_view c.put_open.new.self) c.args.outbox.now c.put.new.self
    c.in_ok-number.ensures.running c.allow_open.ensures.stage c.in_ok-number.ensures.client c.in_ok-number.ensures.lowest c.in_ok-number.ensures.above
    c.in_ok-number.ensures.allowed c.allow_open.ensures.same c.in-Ok.ensures.at c.in-Ok.ensures.others c.bare-method.ensures
    (all_are_put c.args.outbox.now c.stage_method.new.outbox c.put.new.self _ c.requires.staged c.in_ok-stage_method.ensures.ok c.put.ensures)
    c.in_ok-stage_method.ensures.reads_back

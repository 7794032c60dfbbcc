use Rattle.std.proofs.Common.{refl}
use Rattle.std.proofs.lemmas.Result.{err_from_is_err_and}
use Rattle.amqp_model.specs.End.Asks as asks
use Rattle.amqp_channel.specs.Channels.ChannelsView.{channels_view}
use Rattle.amqp_core.specs.Connection.View.{connection_end}
use Rattle.amqp_core.proofs.AskLemmas.{refused_first, refused_late, all_are_put, one_on_channel}
use Rattle.amqp_core.proofs.connection.Connection.flow.Goals as goal

pub returns-in_err-agreed-clause-refused : goal.returns-in_err-agreed-clause-refused
returns-in_err-agreed-clause-refused c =
    let p = err_from_is_err_and c.from_residual.result c.from_residual.ensures.1 in
    rw (p.1, p.2) (refused_first c.args.self.now.settings (asks.Flow c.args.number c.args.active) _ (connection_end c.args.self.now) c.args.outbox.now
    (c.in_err-agreed.ensures.refused c.args.active))

pub returns-in_err-method-clause-refused : goal.returns-in_err-method-clause-refused
returns-in_err-method-clause-refused c =
    let p = err_from_is_err_and c.from_residual-in_err-method.result c.from_residual-in_err-method.ensures.1 in
    rw (p.1, p.2) (refused_late c.args.self.now.settings (asks.Flow c.args.number c.args.active) _ (connection_end c.args.self.now) _ c.args.outbox.now _
    (c.in_ok-agreed.ensures.allowed c.args.active) c.in_err-method.ensures.err refl refl)

pub returns-in_err-stage_method-clause-refused : goal.returns-in_err-stage_method-clause-refused
returns-in_err-stage_method-clause-refused c =
    let p = err_from_is_err_and c.from_residual-in_err-stage_method.result c.from_residual-in_err-stage_method.ensures.1 in
    rw (p.1, p.2) (refused_late c.args.self.now.settings (asks.Flow c.args.number c.args.active) _ (connection_end c.args.self.now) _ c.args.outbox.now _
    (c.in_ok-agreed.ensures.allowed c.args.active) c.in_err-stage_method.ensures.err refl c.in_err-stage_method.ensures.same)

pub returns-clause-accepted : goal.returns-clause-accepted
returns-clause-accepted c =
    one_on_channel c.args.self.now.settings c.args.self.now.stage c.in_ok-agreed.agreed c.args.number c.site-site.result
    (asks.Flow c.args.number c.args.active) _ _
    (channels_view c.args.self.now.channels) (channels_view c.put_flow.new.self) c.args.outbox.now c.put.new.self
    (record { running_is = c.in_ok-agreed.ensures.running; site_is = c.site-site.ensures; above = c.in_ok-agreed.ensures.above })
    (c.in_ok-agreed.ensures.allowed c.args.active) refl (c.put_flow.ensures.at _, c.put_flow.ensures.others) c.in_ok-method.ensures.ok
    (all_are_put c.args.outbox.now c.stage_method.new.outbox c.put.new.self _ c.requires.staged c.in_ok-stage_method.ensures.ok c.put.ensures)
    c.in_ok-stage_method.ensures.reads_back (λ reads. record { method = reads; header = tt; text = tt }) refl

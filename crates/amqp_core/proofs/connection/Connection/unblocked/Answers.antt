use Rattle.std.proofs.Common.{refl}
use Rattle.std.proofs.lemmas.Result.{err_from_is_err_and}
use Rattle.amqp_model.specs.End.Asks as asks
use Rattle.amqp_channel.specs.Channels.ChannelsView.{channels_view}
use Rattle.amqp_core.specs.Connection.View.{connection_end}
use Rattle.amqp_core.proofs.AskLemmas.{refused_first, refused_late, all_are_put, put_on_zero_still, unblocked_leaves}
use Rattle.amqp_core.proofs.connection.Connection.unblocked.Goals as goal

pub returns-in_err-_agreed-clause-refused : goal.returns-in_err-_agreed-clause-refused
returns-in_err-_agreed-clause-refused c =
    let p = err_from_is_err_and c.from_residual.result c.from_residual.ensures.1 in
    rw (p.1, p.2) (refused_first c.args.self.now.settings (asks.Unblocked) _ (connection_end c.args.self.now) c.args.outbox.now
    (c.in_err-_agreed.ensures.no_unblocking))

pub returns-in_err-stage_method-clause-refused : goal.returns-in_err-stage_method-clause-refused
returns-in_err-stage_method-clause-refused c =
    let p = err_from_is_err_and c.from_residual-in_err-stage_method.result c.from_residual-in_err-stage_method.ensures.1 in
    rw (p.1, p.2) (refused_late c.args.self.now.settings (asks.Unblocked) _ (connection_end c.args.self.now) _ c.args.outbox.now _
    (c.in_ok-_agreed.ensures.unblocking) c.in_err-stage_method.ensures.err refl c.in_err-stage_method.ensures.same)

pub returns-clause-accepted : goal.returns-clause-accepted
returns-clause-accepted c =
    put_on_zero_still c.args.self.now.settings c.args.self.now.stage c.in_ok-_agreed._agreed asks.Unblocked _ _ (channels_view c.args.self.now.channels)
    c.args.outbox.now c.put.new.self c.in_ok-_agreed.ensures.running c.in_ok-_agreed.ensures.unblocking refl
    (unblocked_leaves c.in_ok-_agreed._agreed (channels_view c.args.self.now.channels)) c.bare-method.ensures
    (all_are_put c.args.outbox.now c.stage_method.new.outbox c.put.new.self _ c.requires.staged c.in_ok-stage_method.ensures.ok c.put.ensures)
    c.in_ok-stage_method.ensures.reads_back (λ reads. record { method = reads; header = tt; text = tt }) refl

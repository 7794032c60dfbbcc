use Rattle.std.proofs.Common.{Some, refl}
use Rattle.std.proofs.lemmas.Result.{err_from_is_err_and}
use Rattle.amqp_model.specs.End.Asks as asks
use Rattle.amqp_channel.specs.Channels.ChannelsView.{channels_view}
use Rattle.amqp_core.specs.Connection.View.{connection_end}
use Rattle.amqp_core.specs.Heard.View.{cause_view}
use Rattle.amqp_core.specs.Config.Settings.{role_for}
use Rattle.amqp_core.specs.declared.stage.Stage.TheVariants as stages
use Rattle.amqp_core.proofs.AskLemmas.{refused_first, refused_late, all_are_put, put_on_zero, close_allowed, close_leaves}
use Rattle.amqp_core.proofs.connection.Connection.close.Goals as goal

pub returns-in_err-agreed-clause-refused : goal.returns-in_err-agreed-clause-refused
returns-in_err-agreed-clause-refused c =
    let p = err_from_is_err_and c.from_residual.result c.from_residual.ensures.1 in
    rw (p.1, p.2) (refused_first c.args.self.now.settings (asks.Close c.args.code c.args.text.now (cause_view c.args.cause)) _ (connection_end c.args.self.now) c.args.outbox.now
    (c.in_err-agreed.ensures.refused (role_for c.args.self.now.settings) (asks.Close c.args.code c.args.text.now (cause_view c.args.cause))))

pub returns-in_err-method-clause-refused : goal.returns-in_err-method-clause-refused
returns-in_err-method-clause-refused c =
    let p = err_from_is_err_and c.from_residual-in_err-method.result c.from_residual-in_err-method.ensures.1 in
    rw (p.1, p.2) (refused_late c.args.self.now.settings (asks.Close c.args.code c.args.text.now (cause_view c.args.cause)) _ (connection_end c.args.self.now) _ c.args.outbox.now _
    (close_allowed c.args.self.now.settings c.args.self.now.stage c.in_ok-agreed.agreed (channels_view c.args.self.now.channels) c.args.code
    c.args.text.now (cause_view c.args.cause) c.in_ok-agreed.ensures.running) c.in_err-method.ensures.err refl refl)

pub returns-in_err-stage_method-clause-refused : goal.returns-in_err-stage_method-clause-refused
returns-in_err-stage_method-clause-refused c =
    let p = err_from_is_err_and c.from_residual-in_err-stage_method.result c.from_residual-in_err-stage_method.ensures.1 in
    rw (p.1, p.2) (refused_late c.args.self.now.settings (asks.Close c.args.code c.args.text.now (cause_view c.args.cause)) _ (connection_end c.args.self.now) _ c.args.outbox.now _
    (close_allowed c.args.self.now.settings c.args.self.now.stage c.in_ok-agreed.agreed (channels_view c.args.self.now.channels) c.args.code
    c.args.text.now (cause_view c.args.cause) c.in_ok-agreed.ensures.running) c.in_err-stage_method.ensures.err refl c.in_err-stage_method.ensures.same)

pub returns-clause-accepted : goal.returns-clause-accepted
returns-clause-accepted c =
    put_on_zero c.args.self.now.settings c.args.self.now.stage (stages.Closing (Some c.in_ok-agreed.agreed)) c.in_ok-agreed.agreed
    (asks.Close c.args.code c.args.text.now (cause_view c.args.cause)) _ _ (channels_view c.args.self.now.channels) c.args.outbox.now c.put.new.self c.in_ok-agreed.ensures.running
    (close_allowed c.args.self.now.settings c.args.self.now.stage c.in_ok-agreed.agreed (channels_view c.args.self.now.channels) c.args.code c.args.text.now
    (cause_view c.args.cause) c.in_ok-agreed.ensures.running)
    refl (close_leaves c.in_ok-agreed.agreed c.args.code c.args.text.now (cause_view c.args.cause) (channels_view c.args.self.now.channels)) c.in_ok-method.ensures.ok
    (all_are_put c.args.outbox.now c.stage_method.new.outbox c.put.new.self _ c.requires.staged c.in_ok-stage_method.ensures.ok c.put.ensures)
    c.in_ok-stage_method.ensures.reads_back (λ reads. record { method = reads; header = tt; text = c.in_ok-method.ensures.short }) refl

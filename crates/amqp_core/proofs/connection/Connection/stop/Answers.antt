-- The end has failed, with what was agreed before.
use Rattle.std.proofs.Common.{refl, sym, subst, cond, Bool}
use Rattle.amqp_model.specs.End.Channels.{End}
use Rattle.amqp_model.specs.Stream.Endpoint.{owed_at_fault}
use Rattle.amqp_model.specs.End.Machine.{as_failed, end_after_owed}
use Rattle.amqp_core.specs.Faults.Answering.{stopped}
use Rattle.amqp_core.specs.Connection.View.{connection_end}
use Rattle.amqp_core.specs.Connection.Outcomes.{SameEnd}
use Rattle.amqp_core.specs.Config.Settings.{config_view, role_for}
use Rattle.amqp_core.proofs.StopLemmas.{stopped_agreed, stopped_channel}
use Rattle.amqp_core.proofs.connection.Connection.stop.Goals as goal

pub returns-in-OutOfMemory-clause-end : goal.returns-in-OutOfMemory-clause-end
returns-in-OutOfMemory-clause-end c = c.fail_at.ensures.end (connection_end c.args.self.now) refl refl

pub returns-in_default-clause-end : goal.returns-in_default-clause-end
returns-in_default-clause-end c = c.fail_at.ensures.end (connection_end c.args.self.now) refl refl

pub returns-clause-end : goal.returns-clause-end
returns-clause-end c =
    let config = config_view c.args.self.now.settings in
    let end : End = connection_end c.args.self.now in
    let left : End = end_after_owed (role_for c.args.self.now.settings) config (owed_at_fault config end c.args.kind) end in
    subst (λ (b : Bool). SameEnd (cond b (as_failed end) (stopped (role_for c.args.self.now.settings) config end c.args.kind)) (connection_end c.fail_at.new.self)) (sym c.reported.ensures.fault)
    (c.fail_at.ensures.end left (stopped_agreed (role_for c.args.self.now.settings) config end c.args.kind) (stopped_channel (role_for c.args.self.now.settings) config end c.args.kind))

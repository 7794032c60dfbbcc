use Rattle.std.proofs.Common.{sym, subst}
use Rattle.amqp_core.specs.Stream.Controls.{StreamControlled}
use Rattle.amqp_calls.specs.Decisions.{decision_view}
use Rattle.amqp_calls.proofs.ends.controlling.control.Goals as goal

pub returns-in-Beat : goal.returns-in-Beat
returns-in-Beat g c =
    subst (λ decision. StreamControlled c.args.end.now (decision_view decision) c.beat.result c.beat.new.self) (sym c.in-Beat.is) c.beat.ensures

pub returns-in-Admit : goal.returns-in-Admit
returns-in-Admit g c =
    subst (λ decision. StreamControlled c.args.end.now (decision_view decision) c.admit.result c.admit.new.self) (sym c.in-Admit.is) c.admit.ensures

pub returns-in-Refuse : goal.returns-in-Refuse
returns-in-Refuse g c =
    subst (λ decision. StreamControlled c.args.end.now (decision_view decision) c.refuse.result c.refuse.new.self) (sym c.in-Refuse.is) c.refuse.ensures

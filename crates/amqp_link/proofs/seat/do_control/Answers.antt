-- What is done is what the control says.
use Rattle.std.proofs.Common.{sym, subst}
use Rattle.amqp_model.specs.End.Controls as model
use Rattle.amqp_core.specs.Traced.Controls.{ControlledTrace}
use Rattle.amqp_link.specs.ControlView.{control_view}
use Rattle.amqp_link.specs.declared.controls.Control.{Control}
use Rattle.amqp_link.proofs.seat.do_control.Goals as goal

pub returns-in-Beat : goal.returns-in-Beat
returns-in-Beat g c = subst (λ (control : Control). ControlledTrace c.args.end.now (control_view control) c.beat.result c.beat.new.self) (sym c.in-Beat.is) c.beat.ensures

pub returns-in-Admit : goal.returns-in-Admit
returns-in-Admit g c = subst (λ (control : Control). ControlledTrace c.args.end.now (control_view control) c.admit.result c.admit.new.self) (sym c.in-Admit.is) c.admit.ensures

pub returns-in-Refuse : goal.returns-in-Refuse
returns-in-Refuse g c = subst (λ (control : Control). ControlledTrace c.args.end.now (control_view control) c.refuse.result c.refuse.new.self) (sym c.in-Refuse.is) c.refuse.ensures

pub returns-in-AnswerStart : goal.returns-in-AnswerStart
returns-in-AnswerStart g c =
    let answer = c.in-AnswerStart in
    subst (λ (control : Control). ControlledTrace c.args.end.now (control_view control) c.answer_start.result c.answer_start.new.self) (sym answer.is)
    (subst (λ octets. ControlledTrace c.args.end.now (model.AnswerStart answer.mechanism octets answer.locale) c.answer_start.result c.answer_start.new.self) c.deref.ensures.value c.answer_start.ensures)

use Rattle.std.proofs.lemmas.Result.{err_from_is_err_and, on_ok_weaker}
use Rattle.amqp_model.specs.End.Controls as controls
use Rattle.amqp_core.specs.Connection.View.{connection_end}
use Rattle.amqp_core.proofs.DecisionLemmas.{if_err_weaker, refused_control}
use Rattle.amqp_core.proofs.connection.Connection.control.Goals as goal

pub returns-in-Beat-clause-accepted : goal.returns-in-Beat-clause-accepted
returns-in-Beat-clause-accepted c = rw c.in-Beat.is c.beat.ensures.accepted

pub returns-in-Beat-clause-refused : goal.returns-in-Beat-clause-refused
returns-in-Beat-clause-refused c = rw c.in-Beat.is c.beat.ensures.refused

pub returns-in_err-decision-in-Admit-clause-refused : goal.returns-in_err-decision-in-Admit-clause-refused
returns-in_err-decision-in-Admit-clause-refused c =
    let p = err_from_is_err_and c.from_residual.result c.from_residual.ensures.1 in
    rw (p.1, p.2, c.in-Admit.is) (refused_control c.args.self.now.settings controls.Admit _ (connection_end c.args.self.now) c.args.outbox.now
    c.in_err-decision-in-Admit.ensures.refused)

pub returns-in_ok-decision-in-Admit-clause-accepted : goal.returns-in_ok-decision-in-Admit-clause-accepted
returns-in_ok-decision-in-Admit-clause-accepted c =
    rw c.in-Admit.is (on_ok_weaker c.put_decision.result (λ put. put controls.Admit c.in_ok-decision-in-Admit.ensures.decides) c.put_decision.ensures.accepted)

pub returns-in_ok-decision-in-Admit-clause-refused : goal.returns-in_ok-decision-in-Admit-clause-refused
returns-in_ok-decision-in-Admit-clause-refused c =
    rw c.in-Admit.is (if_err_weaker c.put_decision.result _ _ (λ fault lost. lost controls.Admit c.in_ok-decision-in-Admit.ensures.decides) c.put_decision.ensures.refused)

pub returns-in_err-decision-in-Refuse-clause-refused : goal.returns-in_err-decision-in-Refuse-clause-refused
returns-in_err-decision-in-Refuse-clause-refused c =
    let p = err_from_is_err_and c.from_residual-in_err-decision-in-Refuse.result c.from_residual-in_err-decision-in-Refuse.ensures.1 in
    rw (p.1, p.2, c.in-Refuse.is) (refused_control c.args.self.now.settings (controls.Refuse c.in-Refuse.code c.in-Refuse.text.now) _ (connection_end c.args.self.now) c.args.outbox.now
    c.in_err-decision-in-Refuse.ensures.refused)

pub returns-in_ok-decision-in-Refuse-clause-accepted : goal.returns-in_ok-decision-in-Refuse-clause-accepted
returns-in_ok-decision-in-Refuse-clause-accepted c =
    rw c.in-Refuse.is (on_ok_weaker c.put_decision-in-Refuse.result (λ put. put (controls.Refuse c.in-Refuse.code c.in-Refuse.text.now) c.in_ok-decision-in-Refuse.ensures.decides) c.put_decision-in-Refuse.ensures.accepted)

pub returns-in_ok-decision-in-Refuse-clause-refused : goal.returns-in_ok-decision-in-Refuse-clause-refused
returns-in_ok-decision-in-Refuse-clause-refused c =
    rw c.in-Refuse.is (if_err_weaker c.put_decision-in-Refuse.result _ _ (λ fault lost. lost (controls.Refuse c.in-Refuse.code c.in-Refuse.text.now) c.in_ok-decision-in-Refuse.ensures.decides) c.put_decision-in-Refuse.ensures.refused)

pub returns-in_err-decision-in-AnswerStart-clause-refused : goal.returns-in_err-decision-in-AnswerStart-clause-refused
returns-in_err-decision-in-AnswerStart-clause-refused c =
    let p = err_from_is_err_and c.from_residual-in_err-decision-in-AnswerStart.result c.from_residual-in_err-decision-in-AnswerStart.ensures.1 in
    rw (p.1, p.2, c.in-AnswerStart.is) (refused_control c.args.self.now.settings (controls.AnswerStart c.in-AnswerStart.mechanism.now c.in-AnswerStart.response.now c.in-AnswerStart.locale.now) _ (connection_end c.args.self.now) c.args.outbox.now
    c.in_err-decision-in-AnswerStart.ensures.refused)

pub returns-in_ok-decision-in-AnswerStart-clause-accepted : goal.returns-in_ok-decision-in-AnswerStart-clause-accepted
returns-in_ok-decision-in-AnswerStart-clause-accepted c =
    rw c.in-AnswerStart.is (on_ok_weaker c.put_decision-in-AnswerStart.result (λ put. put (controls.AnswerStart c.in-AnswerStart.mechanism.now c.in-AnswerStart.response.now c.in-AnswerStart.locale.now) c.in_ok-decision-in-AnswerStart.ensures.decides) c.put_decision-in-AnswerStart.ensures.accepted)

pub returns-in_ok-decision-in-AnswerStart-clause-refused : goal.returns-in_ok-decision-in-AnswerStart-clause-refused
returns-in_ok-decision-in-AnswerStart-clause-refused c =
    rw c.in-AnswerStart.is (if_err_weaker c.put_decision-in-AnswerStart.result _ _ (λ fault lost. lost (controls.AnswerStart c.in-AnswerStart.mechanism.now c.in-AnswerStart.response.now c.in-AnswerStart.locale.now) c.in_ok-decision-in-AnswerStart.ensures.decides) c.put_decision-in-AnswerStart.ensures.refused)

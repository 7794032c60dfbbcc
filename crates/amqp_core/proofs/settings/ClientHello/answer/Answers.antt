use Rattle.std.proofs.lemmas.Result.{err_from_is_err_and}
use Rattle.amqp_core.proofs.DecisionLemmas.{fits_short}
use Rattle.amqp_core.proofs.settings.ClientHello.answer.Goals as goal

pub returns-in_err-allow_answer-clause-refused : goal.returns-in_err-allow_answer-clause-refused
returns-in_err-allow_answer-clause-refused c =
    let p = err_from_is_err_and c.from_residual.result c.from_residual.ensures.1 in
    rw (p.1, p.2) c.in_err-allow_answer.ensures.refused

pub returns-in_err-method-clause-refused : goal.returns-in_err-method-clause-refused
returns-in_err-method-clause-refused c =
    let p = err_from_is_err_and c.from_residual-in_err-method.result c.from_residual-in_err-method.ensures.1 in
    rw (p.1, p.2) (fits_short _ c.in_ok-allow_answer.ensures.short)

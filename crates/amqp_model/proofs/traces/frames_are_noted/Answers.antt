-- Each clause is a lemma on notes.
use Rattle.amqp_model.proofs.Tracing.{trace-puts, trace-takes, notes-frame}
use Rattle.amqp_model.proofs.traces.frames_are_noted.Goals as goal

pub returns-clause-put : goal.returns-clause-put
returns-clause-put c = trace-puts

pub returns-clause-taken : goal.returns-clause-taken
returns-clause-taken c = trace-takes

pub returns-clause-note : goal.returns-clause-note
returns-clause-note c = notes-frame

-- The machine computes.
use Rattle.amqp_model.proofs.StepLemmas.{told-at-header, told-at-last_part, refused-past_size}
use Rattle.amqp_model.proofs.contents.told_at_last.Goals as goal

pub returns-clause-at_header : goal.returns-clause-at_header
returns-clause-at_header c = told-at-header

pub returns-clause-at_last_part : goal.returns-clause-at_last_part
returns-clause-at_last_part c = told-at-last_part

pub returns-clause-past_size : goal.returns-clause-past_size
returns-clause-past_size c = refused-past_size

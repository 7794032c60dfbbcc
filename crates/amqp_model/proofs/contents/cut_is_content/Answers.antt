-- Each clause is a lemma on the pieces of a body.
use Rattle.amqp_model.proofs.CutLemmas.{cut-content, cut-fits, cut-shortest, parts-in-place}
use Rattle.amqp_model.proofs.contents.cut_is_content.Goals as goal

pub returns-clause-content : goal.returns-clause-content
returns-clause-content c = cut-content

pub returns-clause-fits : goal.returns-clause-fits
returns-clause-fits c = cut-fits

pub returns-clause-fewest : goal.returns-clause-fewest
returns-clause-fewest c = cut-shortest

pub returns-clause-parts : goal.returns-clause-parts
returns-clause-parts c = parts-in-place

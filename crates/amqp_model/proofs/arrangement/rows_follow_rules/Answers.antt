-- Both ways by a lemma.
use Rattle.amqp_model.proofs.Rules.{arranged-rules, rules-arranged}
use Rattle.amqp_model.proofs.arrangement.rows_follow_rules.Goals as goal

pub returns : goal.returns
returns c = λ last row l cs. (arranged-rules last row l cs, rules-arranged last row cs)

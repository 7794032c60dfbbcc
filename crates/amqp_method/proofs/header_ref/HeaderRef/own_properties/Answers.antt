use Rattle.std.proofs.Common.{◌∙◌}
use Rattle.amqp_method.proofs.HeaderRefs.{none_lent}
use Rattle.amqp_method.proofs.header_ref.HeaderRef.own_properties.Goals as goal

pub returns-then-self-eq0 : goal.returns-then-self-eq0
returns-then-self-eq0 c = c.requires ∙ none_lent c.args.self c.if-self-eq0.true

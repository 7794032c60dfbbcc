use Rattle.amqp_value.proofs.One as one
use Rattle.amqp_value.proofs.laws.one_table.Goals as goal

pub returns : goal.returns
returns c = one.one_table

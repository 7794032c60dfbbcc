use Rattle.amqp_value.specs.Lent.{value_ref_view}
use Rattle.amqp_value.specs.Reading.{value_at}
use Rattle.amqp_value.proofs.Elements.{named-ok}
use Rattle.amqp_value.proofs.Owning.{pair-name, pair-value}
use Rattle.amqp_value.proofs.split.split_pair.Goals as goal

pub split_name-requires : goal.split_name-requires
split_name-requires c = pair-name c.args.octets.now c.requires

pub split_value-requires : goal.split_value-requires
split_value-requires c = pair-value c.args.octets.now c.split_name.result.0.now c.split_name.result.1.now c.requires c.split_name.ensures.read

pub returns-clause-read : goal.returns-clause-read
returns-clause-read c =
    named-ok (value_at 31) 0 c.args.octets.now c.split_name.result.0.now c.split_name.result.1.now c.split_value.result.1.now (value_ref_view c.split_value.result.0) c.split_name.ensures.read c.split_value.ensures.read

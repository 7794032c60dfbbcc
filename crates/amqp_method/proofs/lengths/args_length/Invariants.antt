use Rattle.amqp_method.specs.Views.{args_view}
use Rattle.amqp_method.proofs.LengthLemmas.{CountsOn}
use Rattle.amqp_method.proofs.WritingLemmas.{values_from}
use Rattle.amqp_method.proofs.lengths.args_length.Given as goal

abbrev pub invariant-loop-field : goal.invariant-loop-field
invariant-loop-field l = CountsOn l.counted.octets l.counted.left (values_from l.field-index l.fields (args_view l.rest)) (values_from 0 l.fields (args_view l.args))

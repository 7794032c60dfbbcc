use Rattle.amqp_method.specs.GatheredView.{gathered}
use Rattle.amqp_method.specs.Views.{args_view}
use Rattle.amqp_method.proofs.WritingLemmas.{WritesOn, values_from}
use Rattle.amqp_method.proofs.writing.append_args.Given as goal

abbrev pub invariant-loop-field : goal.invariant-loop-field
invariant-loop-field l = WritesOn l.initial.out.items l.out.items (values_from l.field-index l.fields (args_view l.rest)) (gathered l.run) (values_from 0 l.fields (args_view l.args))

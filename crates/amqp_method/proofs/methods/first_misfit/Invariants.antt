use Rattle.std.proofs.Common.{map, drop}
use Rattle.amqp_method.specs.Rows.{field_view}
use Rattle.amqp_method.specs.Views.{args_view}
use Rattle.amqp_method.proofs.FitLemmas.{Met}
use Rattle.amqp_method.proofs.methods.first_misfit.Given as goal

abbrev pub invariant-loop-field : goal.invariant-loop-field
invariant-loop-field l = Met (map field_view (drop l.field-index l.field-items)) (args_view l.rest) (map field_view l.field-items) (args_view l.args) l.place

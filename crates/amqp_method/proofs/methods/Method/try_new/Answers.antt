use Rattle.std.proofs.Common.{List, subst}
use Rattle.amqp_method.specs.Arguments.{FirstMisfit}
use Rattle.amqp_method.specs.Kinds.{fields_of}
use Rattle.amqp_method.specs.Views.{args_view}
use Rattle.amqp_method.specs.declared.fields.Arg.{Arg}
use Rattle.amqp_method.proofs.FitLemmas.{misfits}
use Rattle.amqp_method.proofs.methods.Method.try_new.Goals as goal

pub returns-in-Some-clause-fits : goal.returns-in-Some-clause-fits
returns-in-Some-clause-fits c =
    let m = subst (λ (items : List Arg). FirstMisfit (fields_of c.args.kind) (args_view items) c.in-Some.place) c.deref.ensures.value c.in-Some.ensures in
    (λ h. absurd cc, λ fit. absurd (misfits (fields_of c.args.kind) (args_view c.args.args.items) c.in-Some.place m fit))

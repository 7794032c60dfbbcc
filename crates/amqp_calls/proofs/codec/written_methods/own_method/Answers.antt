use Rattle.std.proofs.Common.{List, inr, sym, subst, ◌∙◌}
use Rattle.amqp_method.specs.Arguments.{Argument, call, Fits}
use Rattle.amqp_method.specs.Views.{args_view}
use Rattle.amqp_calls.proofs.Unwritten.{same_there}
use Rattle.amqp_calls.proofs.codec.written_methods.own_method.Goals as goal

pub returns-in_default-try_new-clause-err : goal.returns-in_default-try_new-clause-err
returns-in_default-try_new-clause-err c =
    inr (
      c.in-Some.kind,
      sym c.in-Some.ensures,
      c.unlike.ensures,
      λ args is fits.
          let same = same_there args (args_view c.in-Ok.args.items) (sym is ∙ c.in-Ok.ensures.ok) in
          let fit : Fits (call c.in-Some.kind (args_view c.in-Ok.args.items)) = subst (λ (a : List Argument). Fits (call c.in-Some.kind a)) same fits in
          let ok = c.in_default-try_new.ensures.fits.1 fit in
          absurd cc,
    )

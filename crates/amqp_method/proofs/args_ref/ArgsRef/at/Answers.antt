use Rattle.std.proofs.Common.{◌≡◌, ◌-◌, ◌+◌, suc, refl, sym, ◌∙◌, arith}
use Rattle.amqp_method.specs.ArgRefView.{arg_ref_view}
use Rattle.amqp_method.specs.MethodRefs.{args_left}
use Rattle.amqp_method.proofs.RefLemmas.{none_at, next_at, first_at}
use Rattle.amqp_method.proofs.args_ref.ArgsRef.at.Goals as goal

pub returns-in_err-after : goal.returns-in_err-after
returns-in_err-after c = rw c.from_residual.ensures (sym c.loop.invariant ∙ none_at (c.args.place - c.loop.counter) (args_left c.loop.left) c.in_err-after.ensures)

pub loop-init : goal.loop-init
loop-init c =
    let none : c.args.place - 0 ≡ c.args.place = omega arith in
    rw none refl

pub loop-preserved : goal.loop-preserved
loop-preserved c =
    let step : c.args.place - c.loop.counter ≡ suc (c.args.place - (c.loop.counter + 1)) = omega (arith, c.loop-test.true) in
    sym (next_at (c.args.place - c.loop.counter) (c.args.place - (c.loop.counter + 1)) (args_left c.loop.left) (args_left c.in_ok-after.after) (arg_ref_view c.in_ok-after.field-0-0) c.in_ok-after.ensures step) ∙ c.loop.invariant

pub returns-in_err-arg : goal.returns-in_err-arg
returns-in_err-arg c = rw c.from_residual-in_err-arg.ensures (sym c.loop.invariant ∙ none_at (c.args.place - c.loop.counter) (args_left c.loop.left) c.in_err-arg.ensures)

pub returns : goal.returns
returns c =
    let done : c.args.place - c.loop.counter ≡ 0 = omega (arith, c.loop-test.false) in
    sym c.loop.invariant ∙ first_at (c.args.place - c.loop.counter) (args_left c.loop.left) (args_left c.in_ok-arg.field-0-1) (arg_ref_view c.in_ok-arg.arg) c.in_ok-arg.ensures done

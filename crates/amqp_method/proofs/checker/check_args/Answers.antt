use Rattle.std.proofs.lemmas.Result.{err_from_is_err_and}
use Rattle.amqp_method.proofs.CheckLemmas.{args_checked, args_refused}
use Rattle.amqp_method.proofs.checker.check_args.Goals as goal

pub returns-in_err-after : goal.returns-in_err-after
returns-in_err-after c =
    let p = err_from_is_err_and c.from_residual.result c.from_residual.ensures.1 in
    rw (p.1, p.2) (args_refused c.args.end c.args.kind c.args.octets.now c.row_for.result.now c.in_err-after.field-0.0 c.row_for.ensures c.in_err-after.ensures.read)

pub returns : goal.returns
returns c = args_checked c.args.end c.args.kind c.args.octets.now c.in_ok-after.after.now c.row_for.result.now c.read_end.result c.row_for.ensures c.in_ok-after.ensures.read c.read_end.ensures

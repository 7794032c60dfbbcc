use Rattle.std.proofs.Common.{[], Ok, refl}
use Rattle.amqp_method.proofs.HeaderChecks.{size_ends}
use Rattle.amqp_method.proofs.header_checker.check_start.Goals as goal

pub returns-then-are_common-clause-read : goal.returns-then-are_common-clause-read
returns-then-are_common-clause-read c =
    size_ends c.args.payload.now c.split_at.result.1.now [] c.in_ok-start.start.body_size c.in_ok-start.start.flags (Ok tt)
    c.in_ok-start.ensures.starts c.split_at.ensures.back (c.are_common.ensures c.if-are_common.true) refl

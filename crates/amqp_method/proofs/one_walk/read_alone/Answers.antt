use Rattle.std.proofs.Common.{sym}
use Rattle.amqp_method.proofs.OneWalk.{empty_is, nothing_read, table_read}
use Rattle.amqp_method.proofs.one_walk.read_alone.Goals as goal

pub returns-then-is_empty : goal.returns-then-is_empty
returns-then-is_empty c = λ end. nothing_read end c.args.flags c.args.octets.now c.if-flags-eq0.true (empty_is c.args.octets.now (sym c.if-is_empty.ensures))

pub returns : goal.returns
returns c = λ end.
    table_read end c.args.flags c.in_ok-size.size c.args.octets.now c.read_from.new.self c.if-flags-ne-HEADERS_ALONE.false c.if-size-octets.false
    c.in_ok-size.ensures.read

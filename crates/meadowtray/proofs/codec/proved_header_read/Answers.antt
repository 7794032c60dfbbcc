use Rattle.std.proofs.Common.{arith}
use Rattle.amqp_method.specs.HeaderRefView.{lent_header}
use Rattle.amqp_method.proofs.HeaderLemmas.{header_at-takes}
use Rattle.meadowtray.proofs.codec.proved_header_read.Goals as goal

pub tell_properties-requires-clause-kinds : goal.tell_properties-requires-clause-kinds
tell_properties-requires-clause-kinds c =
    (header_at-takes c.args.payload.now (lent_header c.in-Ok.header) (λ i. omega (arith, c.type_inv.payload i)) c.in-Ok.ensures.exact).kinds_are

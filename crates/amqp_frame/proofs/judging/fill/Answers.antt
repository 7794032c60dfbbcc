use Rattle.std.proofs.Common.{arith}
use Rattle.std.proofs.lemmas.Grind.{common_steps}
use Rattle.amqp_frame.proofs.FillingLemmas.{filled_header, filled_frame}
use Rattle.amqp_frame.proofs.judging.fill.Goals as goal

pub returns-then-end-limit : goal.returns-then-end-limit
returns-then-end-limit c =
    filled_header c.args.limit c.args.buffer.now.items c.args.piece.now c.extend_from_slice.new.self.items c.min-header.result c.requires (grind (arith, common_steps)) (grind (arith, common_steps)) (grind (arith, common_steps)) (grind (arith, common_steps))

pub returns : goal.returns
returns c =
    filled_frame c.args.limit c.args.buffer.now.items c.args.piece.now c.extend_from_slice.new.self.items c.extend_from_slice-2.new.self.items c.min-header.result c.min-others.result c.requires (grind (arith, common_steps)) (grind (arith, common_steps)) (grind (arith, common_steps)) (grind (arith, common_steps)) (grind (arith, common_steps)) (grind (arith, common_steps))

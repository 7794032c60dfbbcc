use Rattle.std.proofs.Common.{arith, refl, ap, ◌∙◌}
use Rattle.std.proofs.lemmas.List.{take_rest}
use Rattle.byteorder.specs.Endian.{big_number}
use Rattle.amqp_frame.proofs.JudgedLemmas.{judged_frame}
use Rattle.amqp_frame.proofs.JudgingLemmas.{judged_whole}
use Rattle.amqp_frame.proofs.judging.judge.Goals as goal

pub returns-clause-is : goal.returns-clause-is
returns-clause-is c =
    judged_whole c.args.limit c.args.octets.now _ c.frame_length-length.result (λ i. omega (arith, c.type_inv.octets i)) (omega arith) c.frame_length-length.ensures.value (omega arith) (omega arith) c.in-Some.ensures (c.read_u16.ensures ∙ ap (big_number 2) (take_rest c.args.octets.now 1)) refl c.if-octets-length-2.false

pub returns-clause-same : goal.returns-clause-same
returns-clause-same c =
    judged_frame c.args.limit c.args.octets.now _ c.frame_length-length.result (omega arith) c.frame_length-length.ensures.value (omega arith) (omega arith) c.in-Some.ensures (c.read_u16.ensures ∙ ap (big_number 2) (take_rest c.args.octets.now 1)) refl c.if-octets-length-2.false

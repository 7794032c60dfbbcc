use Rattle.std.proofs.Common.{◌++◌, length, ap, ◌∙◌, arith, length-append}
use Rattle.amqp_outbox.specs.Chunks.{joined_after}
use Rattle.amqp_outbox.proofs.ChunkLemmas.{left-push}
use Rattle.amqp_outbox.proofs.chunks.Chunks.push.Goals as goal

pub invariant_of-self-2 : goal.invariant_of-self-2
invariant_of-self-2 c =
    let x = c.self.inside in
    let chunk = c.args.chunk in
    let e = ap (joined_after x.taken x.first.items) c.in_ok-push_back.ensures.items ∙ left-push x.taken x.first.items x.later.items chunk in
    let counted = c.self.invariant.left in
    let sum = length-append (joined_after x.taken x.first.items x.later.items) chunk.items in
    record {
      taken = c.self.invariant.taken;
      left = omega (arith, c.in-Some.ensures, c.len.ensures, ap length e, sum, counted);
    }

pub returns-clause-ok : goal.returns-clause-ok
returns-clause-ok c =
    let x = c.self.inside in
    ap (joined_after x.taken x.first.items) c.in_ok-push_back.ensures.items
    ∙ (left-push x.taken x.first.items x.later.items c.args.chunk ∙ ap (λ l. l ++ c.args.chunk.items) c.self.view_is)

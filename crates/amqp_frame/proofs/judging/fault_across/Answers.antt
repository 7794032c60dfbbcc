use Rattle.std.proofs.Common.{◌≡◌, ◌+◌, ◌++◌, ◌∙◌, List, ℕ, length, sym, arith, length-append}
use Rattle.amqp_frame.proofs.JudgedLemmas.{judged_unended, judged_ended}
use Rattle.amqp_frame.proofs.judging.fault_across.Goals as goal

pub returns-then-octet_at : goal.returns-then-octet_at
returns-then-octet_at c =
    let xs : List ℕ = c.args.pending.now ++ c.args.piece.now in
    let count : length xs ≡ length c.args.pending.now + length c.args.piece.now = length-append c.args.pending.now c.args.piece.now in
    let length_is = c.frame_length_across-total.ensures.value in (
      judged_unended c.args.limit xs c.in-Some._kind c.frame_length_across-total.result (omega arith) length_is (omega arith) (omega arith)
          (c.in-Some.ensures ∙ c.octet_at.ensures) (λ e. c.if-octet_at.true (c.octet_at-2.ensures ∙ e)),
      omega arith,
    )

pub returns : goal.returns
returns c =
    let xs : List ℕ = c.args.pending.now ++ c.args.piece.now in
    let count : length xs ≡ length c.args.pending.now + length c.args.piece.now = length-append c.args.pending.now c.args.piece.now in
    judged_ended c.args.limit xs c.in-Some._kind c.frame_length_across-total.result (omega arith) c.frame_length_across-total.ensures.value (omega arith) (omega arith)
    (c.in-Some.ensures ∙ c.octet_at.ensures) (sym c.octet_at-2.ensures ∙ c.if-octet_at.false)

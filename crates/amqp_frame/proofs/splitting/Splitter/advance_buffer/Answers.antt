use Rattle.std.proofs.Common.{◌≡◌, [], length, arith, ap, ◌∙◌, refl}
use Rattle.std.proofs.lemmas.Grind.{common_steps}
use Rattle.amqp_frame.specs.Frame.{lent}
use Rattle.amqp_frame.specs.Judging.{pending_of}
use Rattle.amqp_frame.specs.SplitterFields.{stream_of}
use Rattle.amqp_frame.proofs.JudgedLemmas.{judged_is_read}
use Rattle.amqp_frame.proofs.SplitterLemmas.{fault_of, completed, waiting, buffer_is, same_stream, shown_after}
use Rattle.amqp_frame.proofs.SplitterLemmas.{taken_to_is, failed_stream, nothing_waits, shown_first, none_in_part}
use Rattle.amqp_frame.proofs.SplitterLemmas.{given_completes, given_is, none_pending_none_given}
use Rattle.amqp_frame.proofs.splitting.Splitter.advance_buffer.Goals as goal

pub returns-then-is_empty-clause-rest : goal.returns-then-is_empty-clause-rest
returns-then-is_empty-clause-rest c =
    let empty : length c.args.piece.now ≡ 0 = grind (arith, common_steps) in
    rw (← c.self.view_is) (nothing_waits (stream_of c.self.inside) c.args.piece.now c.self.invariant.begun empty)

pub overflow_sub-passed : goal.overflow_sub-passed
overflow_sub-passed c =
    let same : c.deref.result.now ≡ pending_of c.self.inside.held c.self.inside.buffer.items = c.deref.ensures.value ∙ c.renew.ensures in
    let told = shown_first c.self.inside.limit (pending_of c.self.inside.held c.self.inside.buffer.items) c.deref.result.now c.args.piece.now c.in-Some-fault_across.kind c.in-Some-fault_across.place same c.in-Some-fault_across.ensures in
    let after = shown_after c.self.inside.limit (pending_of c.self.inside.held c.self.inside.buffer.items) c.args.piece.now c.in-Some-fault_across.kind c.in-Some-fault_across.place c.self.invariant.begun told.0 in
    let same_length = ap length c.renew.ensures in
    omega (arith, c.len.ensures)

pub returns-in-Some-fault_across-clause-fault : goal.returns-in-Some-fault_across-clause-fault
returns-in-Some-fault_across-clause-fault c =
    let pending = pending_of c.self.inside.held c.self.inside.buffer.items in
    let same : c.deref.result.now ≡ pending = c.deref.ensures.value ∙ c.renew.ensures in
    let told = shown_first c.self.inside.limit pending c.deref.result.now c.args.piece.now c.in-Some-fault_across.kind c.in-Some-fault_across.place same c.in-Some-fault_across.ensures in
    let after = shown_after c.self.inside.limit pending c.args.piece.now c.in-Some-fault_across.kind c.in-Some-fault_across.place c.self.invariant.begun told.0 in
    let begun : c.len.result ≡ length pending = omega (arith, c.len.ensures, ap length c.renew.ensures) in
    rw (← c.self.view_is)
    (fault_of c.self.inside.fault (stream_of c.self.inside) c.args.piece.now c.in-Some-fault_across.kind c.in-Some-fault_across.place c.saturating_add-at.result
    c.in_default.is told.0 after (rw (← begun) c.saturating_add-at.ensures))

pub returns-in-Some-fault_across-clause-after : goal.returns-in-Some-fault_across-clause-after
returns-in-Some-fault_across-clause-after c =
    let pending = pending_of c.self.inside.held c.self.inside.buffer.items in
    let same : c.deref.result.now ≡ pending = c.deref.ensures.value ∙ c.renew.ensures in
    let told = shown_first c.self.inside.limit pending c.deref.result.now c.args.piece.now c.in-Some-fault_across.kind c.in-Some-fault_across.place same c.in-Some-fault_across.ensures in
    let after = shown_after c.self.inside.limit pending c.args.piece.now c.in-Some-fault_across.kind c.in-Some-fault_across.place c.self.invariant.begun told.0 in
    let begun : c.len.result ≡ length pending = omega (arith, c.len.ensures, ap length c.renew.ensures) in
    rw (← c.self.view_is)
    (failed_stream c.self.inside.limit c.self.inside.taken _ _ _
    (taken_to_is (stream_of c.self.inside) c.args.piece.now c.in-Some-fault_across.kind c.in-Some-fault_across.place _ told.0 told.1 after (omega arith)))

pub unreachable-requires : goal.unreachable-requires
unreachable-requires c =
    let pending = pending_of c.self.inside.held c.self.inside.buffer.items in
    let same : c.deref.result.now ≡ pending = c.deref.ensures.value ∙ c.renew.ensures in
    let filled = rw c.renew.ensures at c.in-Ok.ensures in
    none_in_part c.self.inside.limit pending c.deref.result.now c.args.piece.now c.fill.new.buffer.items c.in-Ok.taken _ _ same c.in_default-fault_across.ensures filled.joined (rw c.deref-2.ensures.value at c.in-Wrong.ensures.is)

pub returns-in-Whole-clause-frame : goal.returns-in-Whole-clause-frame
returns-in-Whole-clause-frame c =
    let filled = rw c.renew.ensures at c.in-Ok.ensures in
    let whole = rw c.deref-2.ensures.value at c.in-Whole.ensures.is in
    let read = judged_is_read c.self.inside.limit c.fill.new.buffer.items (lent c.in-Whole.field-0) (rw c.deref-2.ensures.value at c.in-Whole.ensures.same) in
    let frame = completed (stream_of c.self.inside) c.args.piece.now c.fill.new.buffer.items c.in-Ok.taken (lent c.in-Whole.field-0) c.self.invariant.begun filled whole.0 whole.1 whole.2 whole.3 in
    rw (← c.self.view_is) (given_completes (stream_of c.self.inside) _ c.fill.new.buffer.items (lent c.in-Whole.field-0) read frame)

pub returns-in-Whole-clause-lies : goal.returns-in-Whole-clause-lies
returns-in-Whole-clause-lies c =
    let filled = rw c.renew.ensures at c.in-Ok.ensures in
    let whole = rw c.deref-2.ensures.value at c.in-Whole.ensures.is in
    let frame = completed (stream_of c.self.inside) c.args.piece.now c.fill.new.buffer.items c.in-Ok.taken (lent c.in-Whole.field-0) c.self.invariant.begun filled whole.0 whole.1 whole.2 whole.3 in
    rw (← c.self.view_is) (none_pending_none_given (stream_of c.self.inside) c.args.piece.now c.in-Ok.taken (lent c.in-Whole.field-0) frame (rw (← c.self.view_is) at c.requires c.in_default.is))

pub returns-in-Whole-clause-after : goal.returns-in-Whole-clause-after
returns-in-Whole-clause-after c =
    let filled = rw c.renew.ensures at c.in-Ok.ensures in
    let whole = rw c.deref-2.ensures.value at c.in-Whole.ensures.is in
    let frame = completed (stream_of c.self.inside) c.args.piece.now c.fill.new.buffer.items c.in-Ok.taken (lent c.in-Whole.field-0) c.self.invariant.begun filled whole.0 whole.1 whole.2 whole.3 in
    let some = none_pending_none_given (stream_of c.self.inside) c.args.piece.now c.in-Ok.taken (lent c.in-Whole.field-0) frame (rw (← c.self.view_is) at c.requires c.in_default.is) in
    rw (← c.self.view_is)
    (same_stream [] [] c.self.inside.limit _ _ c.self.inside.fault c.self.inside.taken_to_fault _ _ refl c.saturating_add-self-inside.ensures
    (given_is (pending_of c.self.inside.held c.self.inside.buffer.items) _ c.fill.new.buffer.items filled.joined some))

pub returns-in-Begun-clause-rest : goal.returns-in-Begun-clause-rest
returns-in-Begun-clause-rest c =
    let filled = rw c.renew.ensures at c.in-Ok.ensures in
    let begun = rw c.deref-2.ensures.value at c.in-Begun.ensures.is in
    rw (← c.self.view_is) (waiting (stream_of c.self.inside) c.args.piece.now c.fill.new.buffer.items c.in-Ok.taken filled begun)

pub returns-in-Begun-clause-after : goal.returns-in-Begun-clause-after
returns-in-Begun-clause-after c =
    let filled = rw c.renew.ensures at c.in-Ok.ensures in
    let begun = rw c.deref-2.ensures.value at c.in-Begun.ensures.is in
    let waits = waiting (stream_of c.self.inside) c.args.piece.now c.fill.new.buffer.items c.in-Ok.taken filled begun in
    rw (← c.self.view_is)
    (same_stream c.fill.new.buffer.items _ c.self.inside.limit _ _ c.self.inside.fault c.self.inside.taken_to_fault _ _
    (buffer_is (stream_of c.self.inside) c.args.piece.now c.fill.new.buffer.items c.in-Ok.taken filled waits.all)
    c.saturating_add-self-inside-in-Begun.ensures refl)

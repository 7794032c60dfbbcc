-- One more note.
use Rattle.std.proofs.Common.{◌≡◌, ◌≤◌, ℕ, Vec, Global, replicate, get_or, sym, ap, ◌∙◌, arith, rules}
use Rattle.std.proofs.lemmas.List.{with_items_is}
use Rattle.amqp_link.proofs.TallyCounts.{begun-next, begun-stays, begun-none, begun-bound}
use Rattle.amqp_link.proofs.lives.begun_to.Goals as goal
use Rattle.amqp_link.proofs.lives.begun_to.Goals.{then-begins, else-begins}

pub loop-note-init : goal.loop-note-init
loop-note-init c = let e : c.in_ok-begun.begun.items ≡ replicate c.args.last 0 = search rules in e ∙ begun-none c.args.last

pub count-requires : goal.count-requires
count-requires c = λ k h.
    let there = c.deref_mut.ensures.value ∙ c.loop-note.invariant in
    let most : get_or c.deref_mut.result.now k 0 ≤ c.loop-note.note-index = begun-bound _ _ _ _ k there h in
    omega arith

pub loop-note-preserved : goal.loop-note-preserved
loop-note-preserved c =
    let i = c.loop-note.note-index in
    let notes = c.args.notes.now in
    elim c.if-begins.branch [
      | then-begins w ↦
          ap (λ (begun : Vec ℕ Global). begun.items) w.begun-is
          ∙ (with_items_is c.loop-note.begun w.count.new.counts (w.count.auto.counts ∙ w.deref_mut.ensures.len)
          ∙ begun-next c.args.last i notes _ w.deref_mut.result.now w.count.new.counts c.loop-note-test.true (sym c.begins.ensures ∙ w.if-begins.true)
          (w.deref_mut.ensures.value ∙ c.loop-note.invariant) w.count.auto.counts w.count.ensures)
      | else-begins w ↦
          ap (λ (begun : Vec ℕ Global). begun.items) w.begun-is
          ∙ begun-stays c.args.last i notes _ c.loop-note.begun.items c.loop-note-test.true (sym c.begins.ensures ∙ w.if-begins.false) c.loop-note.invariant
    ]

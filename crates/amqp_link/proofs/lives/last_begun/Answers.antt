-- One more note.
use Rattle.std.proofs.Common.{◌≡◌, ℕ, ◌<◌, ◌≤◌, Bool, true, false, cond, max, sym, ap, ◌∙◌, arith}
use Rattle.amqp_link.proofs.TallyCounts.{last-more}
use Rattle.amqp_link.proofs.lives.last_begun.Goals as goal
use Rattle.amqp_link.proofs.lives.last_begun.Goals.{then-begins+then-note-last, else-begins, else-begins-via-then-begins+else-note-last, else-begins-via-else-begins}

raised : (b : Bool) (last now channel : ℕ) → b ≡ true → last < channel → now ≡ channel → now ≡ cond b (max last channel) last
raised b last now channel e h is = is ∙ (omega arith ∙ ap (λ c. cond c (max last channel) last) (sym e))

kept : (b : Bool) (last now channel : ℕ) → b ≡ true → channel ≤ last → now ≡ last → now ≡ cond b (max last channel) last
kept b last now channel e h is = is ∙ (omega arith ∙ ap (λ c. cond c (max last channel) last) (sym e))

passed : (b : Bool) (last now channel : ℕ) → b ≡ false → now ≡ last → now ≡ cond b (max last channel) last
passed b last now channel e is = is ∙ ap (λ c. cond c (max last channel) last) (sym e)

pub loop-note-preserved : goal.loop-note-preserved
loop-note-preserved c =
    last-more c.args.notes.now c.loop-note.note-index c.loop-note.last c.if-begins.last _ c.loop-note-test.true c.loop-note.invariant
    (elim c.if-begins.branch [
      | then-begins+then-note-last w ↦ raised _ _ _ _ (sym c.begins.ensures ∙ w.if-begins.true) w.if-note-last.true w.last-is
      | else-begins w ↦
          elim w.else-begins.branch [
            | else-begins-via-then-begins+else-note-last v ↦ kept _ _ _ _ (sym c.begins.ensures ∙ v.if-begins.true) v.if-note-last.false w.last-is
            | else-begins-via-else-begins v ↦ passed _ _ _ _ (sym c.begins.ensures ∙ v.if-begins.false) w.last-is
          ]
    ])

-- One more frame is noted, and one less is left.
use Rattle.std.proofs.Common.{◌≡◌, ◌-◌, ℕ, suc, ◌++◌, replicate, refl, ap, ◌∙◌, arith}
use Rattle.amqp_model.specs.Stream.Traces.{IsPut, Other}
use Rattle.amqp_core.specs.Traced.LedgerView.{notes_in}
use Rattle.amqp_core.specs.Traced.Notes.{noted_as}
use Rattle.amqp_core.proofs.LedgerLemmas.{one-more}
use Rattle.amqp_core.proofs.ledger.Ledger.note_others.Goals as goal

pub loop-left-preserved : goal.loop-left-preserved
loop-left-preserved c =
    let note = noted_as IsPut c.args.channel Other in
    let less : ℕ = c.loop-left.left - 1 in
    let left : suc less ≡ c.loop-left.left = omega arith in
    let inv = c.loop-left.invariant in
    let here = c.note_other.ensures in
    record {
      room = omega (arith, inv.room, here.len, here.capacity, left);
      notes = one-more less (notes_in c.loop-left.self) note (notes_in c.note_other.new.self) _ here.notes refl
          ∙ (ap (λ n. notes_in c.loop-left.self ++ replicate n note) left ∙ inv.notes);
      told = here.told_same ∙ inv.told;
      said = here.said_same ∙ inv.said;
      fed = here.fed_same ∙ inv.fed;
      written = here.written_same ∙ inv.written;
      side = here.side ∙ inv.side;
    }

use Rattle.std.proofs.Common.{◌≡◌, [], length, sym, ◌∙◌, eqb-true}
use Rattle.std.proofs.lemmas.List.{nil_from_length}
use Rattle.amqp_outbox.proofs.LentBraids.{none-left}
use Rattle.amqp_outbox.proofs.lent.ContentFrames.next_piece.Goals as goal

pub returns-then-is_empty-3-clause-lent : goal.returns-then-is_empty-3-clause-lent
returns-then-is_empty-3-clause-lent c =
    let x = c.args.self.now in
    let begun : x.begun.now ≡ [] = nil_from_length x.begun.now (eqb-true (length x.begun.now) 0 (sym c.is_empty.ensures ∙ c.if-not-is_empty.false)) in
    let part : x.part.now ≡ [] = nil_from_length x.part.now (eqb-true (length x.part.now) 0 (sym c.is_empty-2.ensures ∙ c.if-is_empty.true)) in
    let between : x.between.now ≡ [] = nil_from_length x.between.now (eqb-true (length x.between.now) 0 (sym c.is_empty-then-is_empty.ensures ∙ c.if-is_empty-2.true)) in
    let body : x.body.now ≡ [] = nil_from_length x.body.now (eqb-true (length x.body.now) 0 (sym c.is_empty-then-is_empty-2.ensures ∙ c.if-is_empty-3.true)) in
    let none = none-left x x.cuts begun part between body in
    (none, none)

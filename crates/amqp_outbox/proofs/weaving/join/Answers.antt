use Rattle.std.proofs.Common.{◌≡◌, ◌++◌, sym, ap, ◌∙◌, arith, eqb-true, append-nil, vec_len}
use Rattle.amqp_outbox.proofs.OutboxAside.{no-length}
use Rattle.amqp_outbox.proofs.weaving.join.Goals as goal

pub returns-then-is_empty-clause-aside : goal.returns-then-is_empty-clause-aside
returns-then-is_empty-clause-aside c =
    let x = c.args.aside.now in
    let none : vec_len x ≡ 0 = eqb-true (vec_len x) 0 (sym c.is_empty.ensures ∙ c.if-is_empty.true) in
    let long = x.ok.0 in
    no-length x.items (omega arith)

pub returns-then-is_empty-clause-octets : goal.returns-then-is_empty-clause-octets
returns-then-is_empty-clause-octets c =
    let x = c.args.aside.now in
    let none : vec_len x ≡ 0 = eqb-true (vec_len x) 0 (sym c.is_empty.ensures ∙ c.if-is_empty.true) in
    let long = x.ok.0 in
    sym (ap (λ xs. c.args.octets.now.items ++ xs) (no-length x.items (omega arith)) ∙ append-nil c.args.octets.now.items)

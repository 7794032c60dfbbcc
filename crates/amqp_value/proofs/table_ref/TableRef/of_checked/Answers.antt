use Rattle.std.proofs.Common.{◌≡◌, ◌+◌, take, arith, length-take, ap, sym, subst, ◌∙◌}
use Rattle.amqp_value.specs.Reading.{table_at}
use Rattle.amqp_value.proofs.Whole.{has_read, table-parts, own-table, OwnTable}
use Rattle.amqp_value.proofs.table_ref.TableRef.of_checked.Goals as goal

pub read_u32-count-requires : goal.read_u32-count-requires
read_u32-count-requires c =
    let x = has_read (table_at c.args.octets.now) c.requires in
    (table-parts c.args.octets.now x.0 (λ i. omega (arith, c.type_inv.octets i)) x.1).four

pub slice_bounds-result-end : goal.slice_bounds-result-end
slice_bounds-result-end c =
    let x = has_read (table_at c.args.octets.now) c.requires in
    let parts = table-parts c.args.octets.now x.0 (λ i. omega (arith, c.type_inv.octets i)) x.1 in
    omega (arith, parts.count, parts.enough, c.read_u32-count.ensures, length-take (4 + c.read_u32-count.result) c.args.octets.now)

pub invariant_of-result : goal.invariant_of-result
invariant_of-result c =
    let x = has_read (table_at c.args.octets.now) c.requires in
    let parts = table-parts c.args.octets.now x.0 (λ i. omega (arith, c.type_inv.octets i)) x.1 in
    let size : x.0.1 ≡ 4 + c.read_u32-count.result = parts.count ∙ ap (λ n. 4 + n) (sym c.read_u32-count.ensures) in
    record { is_table = (subst (λ n. OwnTable c.args.octets.now (take n c.args.octets.now)) size (own-table c.args.octets.now x.0 (λ i. omega (arith, c.type_inv.octets i)) x.1)).is_table }

pub returns-clause-exact : goal.returns-clause-exact
returns-clause-exact c =
    let x = has_read (table_at c.args.octets.now) c.requires in
    let parts = table-parts c.args.octets.now x.0 (λ i. omega (arith, c.type_inv.octets i)) x.1 in
    let size : x.0.1 ≡ 4 + c.read_u32-count.result = parts.count ∙ ap (λ n. 4 + n) (sym c.read_u32-count.ensures) in
    (subst (λ n. OwnTable c.args.octets.now (take n c.args.octets.now)) size (own-table c.args.octets.now x.0 (λ i. omega (arith, c.type_inv.octets i)) x.1)).reads

use Rattle.std.proofs.Common.{◌≡◌, ◌-◌, List, ℕ, length, take, drop, sym, arith, length-drop}
use Rattle.std.proofs.lemmas.List.{take_all}
use Rattle.amqp_value.specs.Whole.{table_encoded}
use Rattle.amqp_value.proofs.TableLaws.{table_at-takes}
use Rattle.amqp_value.proofs.Whole.{table-body, table-reads}
use Rattle.amqp_value.proofs.split.after_count.Goals as goal

-- the octets after the count, as a slice of them is
from_four : (octets : List ℕ) → take (length octets - 4) (drop 4 octets) ≡ drop 4 octets
from_four octets = take_all (length octets - 4) (drop 4 octets) (omega (arith, length-drop 4 octets))

pub slice_bounds-result-count : goal.slice_bounds-result-count
slice_bounds-result-count c = (table-body c.args.table.now (λ i. omega (arith, c.type_inv.table i)) c.requires).four

pub slice_bounds-result-start : goal.slice_bounds-result-start
slice_bounds-result-start c = let long = (table-body c.args.table.now (λ i. omega (arith, c.type_inv.table i)) c.requires).four in omega (arith, long)

pub returns-clause-pairs : goal.returns-clause-pairs
returns-clause-pairs c = rw (from_four c.args.table.now) (sym (table-body c.args.table.now (λ i. omega (arith, c.type_inv.table i)) c.requires).pairs_are)

pub returns-clause-whole : goal.returns-clause-whole
returns-clause-whole c = rw (from_four c.args.table.now) (table-body c.args.table.now (λ i. omega (arith, c.type_inv.table i)) c.requires).are_pairs

pub returns-clause-deep : goal.returns-clause-deep
returns-clause-deep c =
    let octets = c.args.table.now in
    (table_at-takes octets (table_encoded octets, length octets) (λ i. omega (arith, c.type_inv.table i)) (table-reads octets c.requires)).0.0

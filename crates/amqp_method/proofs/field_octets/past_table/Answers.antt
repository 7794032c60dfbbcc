use Rattle.std.proofs.Common.{◌≤◌, length, arith}
use Rattle.amqp_method.proofs.CheckLemmas.{table_measured, table_is_faulty}
use Rattle.amqp_method.proofs.TableFaults.{table_fault-within}
use Rattle.amqp_method.proofs.field_octets.past_table.Goals as goal

pub returns-in-Ok-clause-read : goal.returns-in-Ok-clause-read
returns-in-Ok-clause-read c = rw c.split_at.ensures.back (table_measured c.args.end c.in-Ok.length c.args.octets.now c.in-Ok.ensures.exact)

pub fault_in_table-requires : goal.fault_in_table-requires
fault_in_table-requires c =
    let h : c.in-Err.fault.at ≤ length c.args.octets.now = table_fault-within c.args.octets.now c.in-Err.fault (table_is_faulty c.args.octets.now c.in-Err.fault c.in-Err.ensures.exact) in
    omega arith

use Rattle.std.proofs.Common.{◌-◌, refl, arith}
use Rattle.std.proofs.lemmas.List.{take_rest}
use Rattle.amqp_value.proofs.Words.{few_to_end}
use Rattle.amqp_value.proofs.octets.to_end.Goals as goal

pub returns-clause-octets : goal.returns-clause-octets
returns-clause-octets c =
    let octets = c.args.octets.now in
    few_to_end c.args.len octets _ c.write_u64.new.buf c.write_u64-2.new.buf c.write_u64-3.new.buf _ _ c.read_u64-first.result c.read_u64-last.result _ (λ i. omega (arith, c.type_inv.octets i)) c.requires.long c.requires.room c.requires.within
    (take_rest octets (c.args.len - 8)) c.read_u64-first.ensures c.read_u64-last.ensures refl c.write_u64.ensures c.write_u64-2.ensures

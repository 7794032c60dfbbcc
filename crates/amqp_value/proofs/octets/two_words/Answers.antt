use Rattle.std.proofs.Common.{length, ◌-◌, drop, arith}
use Rattle.std.proofs.lemmas.List.{take_all, length-drop}
use Rattle.amqp_value.proofs.Words.{few_in_words}
use Rattle.amqp_value.proofs.octets.two_words.Goals as goal

pub returns-clause-octets : goal.returns-clause-octets
returns-clause-octets c =
    let octets = c.args.octets.now in
    few_in_words c.args.len octets _ c.write_u64.new.buf c.write_u64-2.new.buf c.write_u64-3.new.buf _ _ c.read_u64-first.result c.read_u64-second.result (λ i. omega (arith, c.type_inv.octets i)) c.requires.within c.requires.room
    (take_all (length octets - 8) (drop 8 octets) (omega (arith, length-drop 8 octets))) c.read_u64-first.ensures c.read_u64-second.ensures c.write_u64.ensures c.write_u64-2.ensures

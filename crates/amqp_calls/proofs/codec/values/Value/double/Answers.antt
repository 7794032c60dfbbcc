use Rattle.std.proofs.Common.{ℕ, ap, ◌∙◌, arith}
use Rattle.byteorder.specs.Endian.{big_bytes}
use Rattle.amqp_value.proofs.Numbers.{big_bytes-back}
use Rattle.amqp_calls.proofs.codec.values.Value.double.Goals as goal

pub returns-clause-octets : goal.returns-clause-octets
returns-clause-octets c =
    ap (λ (n : ℕ). big_bytes 8 n) (c.number.ensures.number ∙ c.read_u64.ensures)
    ∙ big_bytes-back 8 c.args.octets.now c.requires (λ i. omega (arith, c.type_inv.octets i))

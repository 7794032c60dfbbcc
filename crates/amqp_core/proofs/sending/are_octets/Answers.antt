use Rattle.std.proofs.Common.{Fits, w8, ◌<◌, ◌^◌, ℕ, suc, List, [], ◌∷◌, get_or, arith}
use Rattle.amqp_method.specs.Fitting.{AreOctets}
use Rattle.amqp_core.proofs.sending.are_octets.Goals as goal

octet : (n : ℕ) → Fits w8 n → n < 2 ^ 8
octet n h = omega arith

octets : (text : List ℕ) → ((i : ℕ) → Fits w8 (get_or text i 0)) → AreOctets text
octets [] fit = tt
octets (x ∷ text) fit = (octet x (fit 0), octets text (λ i. fit (suc i)))

pub returns : goal.returns
returns c = octets c.args.octets.now c.type_inv.octets

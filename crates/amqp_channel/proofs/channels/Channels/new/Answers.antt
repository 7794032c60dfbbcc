-- Nothing is kept of channels that are all Free.
use Rattle.std.proofs.Common.{◌≡◌, ap, sym, subst, arith}
use Rattle.amqp_model.specs.End.Amounts.{body_octets_on, header_octets_on, IsSum}
use Rattle.amqp_channel.specs.Channels.Used.{body_octets_at, header_octets_at}
use Rattle.amqp_channel.proofs.SumLemmas.{sum_of_none}
use Rattle.amqp_channel.proofs.AmountLemmas.{none_used}
use Rattle.amqp_channel.proofs.channels.Channels.new.Goals as goal

pub invariant_of-result-clause-counts_headers : goal.invariant_of-result-clause-counts_headers
invariant_of-result-clause-counts_headers c =
    subst (IsSum (header_octets_at c.new.result)) (sym c.none.ensures.headers)
    (sum_of_none (header_octets_at c.new.result) (λ n. ap header_octets_on (none_used c.new.result c.new.ensures.empty n)))

pub invariant_of-result-clause-counts_bodies : goal.invariant_of-result-clause-counts_bodies
invariant_of-result-clause-counts_bodies c =
    subst (IsSum (body_octets_at c.new.result)) (sym c.none.ensures.bodies)
    (sum_of_none (body_octets_at c.new.result) (λ n. ap body_octets_on (none_used c.new.result c.new.ensures.empty n)))

pub invariant_of-result-clause-bodies_fit : goal.invariant_of-result-clause-bodies_fit
invariant_of-result-clause-bodies_fit c n =
    let none : body_octets_at c.new.result n ≡ 0 = ap body_octets_on (none_used c.new.result c.new.ensures.empty n) in
    omega (arith, none)

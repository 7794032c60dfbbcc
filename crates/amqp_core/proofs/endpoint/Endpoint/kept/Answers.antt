-- What is kept is the sum of headers, bodies and unfinished octets.
use Rattle.std.proofs.Common.{ap, ◌∙◌, arith}
use Rattle.amqp_value.specs.Lengths.{capped}
use Rattle.amqp_core.proofs.endpoint.Endpoint.kept.Goals as goal

pub returns-clause-lent : goal.returns-clause-lent
returns-clause-lent c = λ most least.
    let headers = c.header_octets-headers.ensures.gathered most least in
    let bodies = c.body_octets-bodies.ensures.gathered most least in
    let pending = c.pending.ensures.count in
    c.capped.ensures ∙ ap capped (omega (arith, headers, bodies, pending))

pub returns-clause-gathered : goal.returns-clause-gathered
returns-clause-gathered c = λ gathers most least.
    let headers = c.header_octets-headers.ensures.sum (c.args.self.now.connection.gathers gathers) most least in
    let bodies = c.body_octets-bodies.ensures.sum (c.args.self.now.connection.gathers gathers) most least in
    let pending = c.pending.ensures.count in
    c.capped.ensures ∙ ap capped (omega (arith, headers, bodies, pending))

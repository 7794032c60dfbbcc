-- Where no content is lent, all that is under way is counted.
use Rattle.amqp_channel.proofs.AmountLemmas.{all_headers}
use Rattle.amqp_channel.proofs.channels.Channels.header_octets.Goals as goal

pub returns-clause-sum : goal.returns-clause-sum
returns-clause-sum c =
    let self = c.args.self.now in
    λ none. all_headers self.used self.amounts.headers none self.counts_headers

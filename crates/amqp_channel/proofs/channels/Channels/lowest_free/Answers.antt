-- All below the number that is found are taken.
use Rattle.amqp_channel.proofs.FreeLemmas.{all_passed, below_found}
use Rattle.amqp_channel.proofs.channels.Channels.lowest_free.Goals as goal

pub invariant_of-self-clause-passed_are_taken : goal.invariant_of-self-clause-passed_are_taken
invariant_of-self-clause-passed_are_taken c =
    let self = c.args.self.now in
    let found = c.find_free-found.result in
    all_passed self.used self.numbers c.pass.new.self c.unwrap_or.result self.passed_are_taken
    (rw c.unwrap_or.ensures (below_found self.used found c.args.most c.find_free-found.ensures.above c.find_free-found.ensures.none))
    c.pass.ensures

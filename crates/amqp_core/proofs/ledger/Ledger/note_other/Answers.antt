-- What changes nothing of a life isn't counted.
use Rattle.amqp_core.proofs.LedgerLemmas.{counts-other}
use Rattle.amqp_core.proofs.ledger.Ledger.note_other.Goals as goal

pub invariant_of-self : goal.invariant_of-self
invariant_of-self c = record {
  counts = counts-other c.args.self.now.side c.args.self.now.notes.items c.push_within.new.items.items c.put.result c.args.channel c.args.self.now.lives c.args.self.now.counts c.put.ensures c.push_within.ensures.items;
}

-- There are fewer lives than there is room for notes.
use Rattle.std.proofs.Common.{map, arith}
use Rattle.std.proofs.lemmas.List.{length-map}
use Rattle.amqp_channel.specs.Roles.{role_of}
use Rattle.amqp_core.specs.Traced.Notes.{note_view}
use Rattle.amqp_core.proofs.LedgerLemmas.{counts-note}
use Rattle.amqp_core.proofs.LifeCountLemmas.{lives-most}
use Rattle.amqp_core.proofs.ledger.Ledger.note.Goals as goal

pub note-requires-clause-least : goal.note-requires-clause-least
note-requires-clause-least c =
    let old = c.args.self.now in
    let kept = old.counts.lives c.args.note.channel in
    let most = lives-most (role_of old.side) c.args.note.channel (map note_view old.notes.items) in
    let many = length-map old.notes.items note_view in
    omega (arith, kept, most, many, old.notes.ok.0, old.notes.ok.1, old.notes.small)

pub invariant_of-self : goal.invariant_of-self
invariant_of-self c = record {
  counts = counts-note c.args.self.now.side c.args.self.now.notes.items c.push_within.new.items.items c.args.note c.args.self.now.lives c.note.new.self c.args.self.now.counts c.note.ensures.counts c.push_within.ensures.items;
}

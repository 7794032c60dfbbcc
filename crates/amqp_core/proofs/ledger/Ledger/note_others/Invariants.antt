use Rattle.std.proofs.Common.{◌≡◌, ◌+◌, ◌≤◌, ◌++◌, replicate, vec_len, vec_capacity}
use Rattle.amqp_model.specs.Stream.Traces.{IsPut, Other}
use Rattle.amqp_core.specs.Traced.LedgerView.{notes_in}
use Rattle.amqp_core.specs.Traced.Notes.{noted_as}
use Rattle.amqp_core.proofs.ledger.Ledger.note_others.Given as goal

abbrev pub invariant-loop-left : goal.invariant-loop-left
invariant-loop-left l = record {
  room : vec_len l.self.notes + l.left ≤ vec_capacity l.self.notes;
  notes : notes_in l.self ++ replicate l.left (noted_as IsPut l.channel Other) ≡ notes_in l.initial.self ++ replicate l.count (noted_as IsPut l.channel Other);
  told : l.self.told ≡ l.initial.self.told;
  said : l.self.said ≡ l.initial.self.said;
  fed : l.self.fed ≡ l.initial.self.fed;
  written : l.self.written ≡ l.initial.self.written;
  side : l.self.side ≡ l.initial.self.side;
}

abbrev pub decreases-loop-left : goal.decreases-loop-left
decreases-loop-left l = l.left

-- What the code keeps of an end's history, in the words of the model, and the room that it has for more.
use Rattle.std.specs.Prelude.{◌≡◌, ◌+◌, ◌≤◌, ℕ, List, map, vec_len, vec_capacity}
use Rattle.std.specs.HashMap.{spare}
use Rattle.amqp_model.specs.Pair.Sent.{Telling}
use Rattle.amqp_model.specs.Stream.Traces.{Noted}
use Rattle.amqp_core.specs.Traced.Notes.{note_view, telling_view}
use Rattle.amqp_core.specs.declared.ledger.Ledger.{Ledger}

abbrev pub notes_in : Ledger → List Noted
notes_in ledger = map note_view ledger.notes.items

abbrev pub told_in : Ledger → List Telling
told_in ledger = map telling_view ledger.told.items

abbrev pub tells_in : Ledger → List Telling
tells_in ledger = map telling_view ledger.said.items

-- room for so many notes more, of three channels at most, for an item that is told and one that is said, and for so
-- many octets that are fed
pub record HasRoom (ledger : Ledger) (notes octets : ℕ) : Type 0 where
  pub notes_fit : vec_len ledger.notes + notes ≤ vec_capacity ledger.notes
  pub counts_fit : 3 ≤ spare ledger.lives.counts
  pub told_fits : vec_len ledger.told + 1 ≤ vec_capacity ledger.told
  pub said_fits : vec_len ledger.said + 1 ≤ vec_capacity ledger.said
  pub fed_fits : vec_len ledger.fed + octets ≤ vec_capacity ledger.fed

-- Room is given back, but for so many octets to write, and nothing else changes.
pub record GivesBack (to_write : ℕ) (old new : Ledger) : Type 0 where
  pub room : vec_len new.written + to_write ≤ vec_capacity new.written
  pub notes : notes_in new ≡ notes_in old
  pub told : told_in new ≡ told_in old
  pub said : tells_in new ≡ tells_in old
  pub fed : new.fed.items ≡ old.fed.items
  pub written : new.written.items ≡ old.written.items
  pub side : new.side ≡ old.side

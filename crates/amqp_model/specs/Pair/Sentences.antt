-- The words of `Lives`, said of a whole history: what each recursion there counts.
use Rattle.std.specs.Prelude.{◌≡◌, ◌↔◌, ◌⊎◌, true, false, ℕ, List, [], ◌∷◌, ◌++◌}
use Rattle.std.specs.Prelude.{count_by}
use Rattle.amqp_model.specs.Wire.Notes.{Role, is_client, is_server, Note, Leaving}
use Rattle.amqp_model.specs.History.States.{State, Free, Opening, Closing}
use Rattle.amqp_model.specs.History.Lives.{state, before_leaving, Test, either, puts_close, takes_close_ok, is_opening}
use Rattle.amqp_model.specs.History.Lives.{ends_life, takes_open_ok, puts_flow, takes_flow_ok, takes_flow, takes_pause}
use Rattle.amqp_model.specs.History.Lives.{takes_pause_ok, puts_restart}

-- none of these notes, each with all that stands before it, is so
abbrev pub NoneSo : Test → (notes before : List Note) → Type 0
NoneSo so [] before = Unit {0}
NoneSo so (note ∷ older) before = (so note (older ++ before) ≡ false) × NoneSo so older before

-- a note was such, and none of the notes since was so
pub record HasSince (such so : Test) (history : List Note) : Type 0 where
  pub later : List Note
  pub note : Note
  pub before : List Note
  pub history_is : history ≡ later ++ note ∷ before
  pub is_such : such note before ≡ true
  pub none_since : NoneSo so later (note ∷ before)

-- a note, and what stands before it
pub record Place : Type 0 where
  pub note : Note
  pub before : List Note

abbrev pub places : List Note → List Place
places [] = []
places (note ∷ before) = record { note = note; before = before } ∷ places before

-- in how many places such a note stands
abbrev pub places_with : Test → List Note → ℕ
places_with such history = count_by (λ place. such place.note place.before) (places history)

-- the end put close, and none of the notes since is a close-ok taken
abbrev pub Waits : List Note → Type 0
Waits history = HasSince puts_close takes_close_ok history

-- there was an opening note, and none of the notes since ends a life
abbrev pub IsAlive : Role → List Note → Type 0
IsAlive role history = HasSince (is_opening role) ends_life history

-- an open-ok counted, and none of the notes since is an opening note
abbrev pub HasOpenOk : Role → List Note → Type 0
HasOpenOk role history = HasSince takes_open_ok (is_opening role) history

-- the end put a flow, and none of the notes since is an opening note or a flow-ok that counted
abbrev pub AwaitsFlowOk : Role → List Note → Type 0
AwaitsFlowOk role history = HasSince puts_flow (either (is_opening role) takes_flow_ok) history

-- a flow with active 0 counted, and none of the notes since is an opening note or a flow that counted
abbrev pub IsPaused : Role → List Note → Type 0
IsPaused role history = HasSince takes_pause (either (is_opening role) takes_flow) history

-- the end took flow-ok with active 0, and none of the notes since is an opening note or a flow with active 1 put
abbrev pub PausesOther : Role → List Note → Type 0
PausesOther role history = HasSince takes_pause_ok (either (is_opening role) puts_restart) history

-- the state that such notes are in, by cases
abbrev pub IsInState : Role → List Note → State → Type 0
IsInState role notes Free = IsAlive role notes → ⊥
IsInState role notes Closing = IsAlive role notes × Waits notes
IsInState role notes Opening =
    IsAlive role notes × (Waits notes → ⊥) × (is_client role ≡ true) × (HasOpenOk role notes → ⊥)
IsInState role notes State.Open =
    IsAlive role notes × (Waits notes → ⊥) × ((is_server role ≡ true) ⊎ HasOpenOk role notes)

-- the end put connection.close
abbrev pub HasLeft : List Note → Type 0
HasLeft history = (later : List Note) × (before : List Note) × (history ≡ later ++ Leaving ∷ before)

-- the notes up to the first connection.close that the end put, all of them where it put none
pub data IsBeforeLeaving (history : List Note) : List Note → Type 0 where
  never_left : (HasLeft history → ⊥) → IsBeforeLeaving history history
  left_once :
      {notes : List Note} (later : List Note) → history ≡ later ++ Leaving ∷ notes → (HasLeft notes → ⊥)
      → IsBeforeLeaving history notes

-- the state counted in a history is the one that its notes before connection.close are in
abbrev pub StatesRead : Type 0
StatesRead =
    (role : Role) (history : List Note) (word : State)
    → (state role history ≡ word) ↔ IsInState role (before_leaving history) word

-- What holds of every run of a channel: the statements that the public laws carry.
use Rattle.std.specs.Prelude.{◌≡◌, ◌⊎◌, true, false, ℕ, List, ◌∷◌, ◌++◌, map, All, Option, Some}
use Rattle.std.specs.Prelude.{slice_get}
use Rattle.amqp_model.specs.Output.Prefixes.{IsPrefixOf}
use Rattle.amqp_model.specs.Wire.Frame.{Frame}
use Rattle.amqp_model.specs.Wire.Notes.{Role, other_end, Kind, Close, Note, Put, Took, Leaving, is_content}
use Rattle.amqp_model.specs.History.States.{State, Opening}
use Rattle.amqp_model.specs.History.Lives.{lives, state, has_left, pauses_other}
use Rattle.amqp_model.specs.Pair.Sentences.{PausesOther}
use Rattle.amqp_model.specs.History.Verdict.{ChannelEvent, GoesOn, verdict}
use Rattle.amqp_model.specs.Pair.Carried.{Carried, Carry, message_frames, put_by, taken_by, NoteInLife, life_noted, puts}
use Rattle.amqp_model.specs.Pair.Carried.{takes, sent, acted}
use Rattle.amqp_model.specs.Pair.Runs.{IsNext, RunAt}

-- A law of both ends of every run of a channel: `mine` are the notes of the end in this role, `theirs` those of the
-- other.
abbrev OnEachRun : (Role → (mine theirs : List Note) → Type 0) → Type 0
OnEachRun Law = (role : Role) (mine theirs : List Note) → RunAt role mine theirs → Law role mine theirs

-- what the end took is, frame by frame, a prefix of what the other put
abbrev TakesPrefix : Role → (mine theirs : List Note) → Type 0
TakesPrefix role mine theirs = IsPrefixOf (takes role mine) (puts (other_end role) theirs)

-- What an end took is, frame by frame, a prefix of what the other put.
abbrev pub EveryEndTakesPrefix : Type 0
EveryEndTakesPrefix = OnEachRun TakesPrefix

-- the i-th note that an end took has the life of the i-th note that the other put
abbrev pub SidesAgree : Role → (mine theirs : List Note) → Type 0
SidesAgree role mine theirs =
    (i life : ℕ) → slice_get (map life_noted (takes role mine)) i ≡ Some life
    → slice_get (map life_noted (puts (other_end role) theirs)) i ≡ Some life

-- The i-th note that an end took has the life of the i-th note that the other put.
abbrev pub AllSidesAgree : Type 0
AllSidesAgree = OnEachRun SidesAgree

-- the verdict on a frame of this kind, if it comes next, is no fault
abbrev pub GoesOnWith : Role → List Note → Kind → Type 0
GoesOnWith role mine kind =
    (event : ChannelEvent) × (owed : Option Kind) × (verdict role mine kind ≡ GoesOn event owed)

-- whatever comes next to the end, it goes on
abbrev pub FindsNoFault : Role → (mine theirs : List Note) → Type 0
FindsNoFault role mine theirs =
    (kind : Kind) (frame : Frame) → IsNext theirs mine (Carry kind frame) → GoesOnWith role mine kind

-- Whatever comes next to an end, it goes on.
abbrev pub NoEndFindsFault : Type 0
NoEndFindsFault = OnEachRun FindsNoFault

-- what an end acted on in a life is a prefix of what the other sent in it
abbrev pub ActsOnPrefix : Role → (mine theirs : List Note) → Type 0
ActsOnPrefix role mine theirs = (life : ℕ) → IsPrefixOf (acted role life mine) (sent (other_end role) life theirs)

-- What an end acted on in a life is a prefix of what the other sent in it.
abbrev pub EveryEndActsOnPrefix : Type 0
EveryEndActsOnPrefix = OnEachRun ActsOnPrefix

-- the end has not put connection.close, and the channel is Opening or Open
pub record IsLive (role : Role) (history : List Note) : Type 0 where
  pub stays : has_left history ≡ false
  pub state_is : (state role history ≡ Opening) ⊎ (state role history ≡ State.Open)

-- what the other put is what the end took, and then what is in flight
abbrev IsOnItsWay : Role → (mine theirs : List Note) → List NoteInLife → Type 0
IsOnItsWay role mine theirs rest = puts (other_end role) theirs ≡ takes role mine ++ rest

-- the end took the other's close in this life, before it put a close of the channel or the connection
pub record EndedByPeer (role : Role) (life : ℕ) (history : List Note) : Type 0 where
  pub later : List Note
  pub frame : Frame
  pub before : List Note
  pub history_is : history ≡ later ++ Took Close frame ∷ before
  pub live : IsLive role before
  pub life_is : lives role before ≡ life

-- all that is in flight to a live end is of its own life
abbrev pub OnItsWayIsOfItsLife : Role → (mine theirs : List Note) → Type 0
OnItsWayIsOfItsLife role mine theirs =
    (rest : List NoteInLife) → IsLive role mine → IsOnItsWay role mine theirs rest
    → All (λ entry. life_noted entry ≡ lives role mine) rest

-- All that is in flight to a live end is of its own life.
abbrev pub AllOnItsWayIsOfItsLife : Type 0
AllOnItsWayIsOfItsLife = OnEachRun OnItsWayIsOfItsLife

-- what the other sent in the life of a live end is what the end acted on in it, and then the messages in flight
abbrev pub SentIsActedOnOrOnItsWay : Role → (mine theirs : List Note) → Type 0
SentIsActedOnOrOnItsWay role mine theirs =
    (rest : List Carried) → IsLive role mine → put_by theirs ≡ taken_by mine ++ rest
    → sent (other_end role) (lives role mine) theirs ≡ acted role (lives role mine) mine ++ message_frames rest

-- What the other sent in the life of a live end is what the end acted on, and then the messages in flight.
abbrev pub AllSentIsActedOnOrOnItsWay : Type 0
AllSentIsActedOnOrOnItsWay = OnEachRun SentIsActedOnOrOnItsWay

-- all that the other sent in a life that its close ended was acted on
abbrev pub AllActedOnAtClose : Role → (mine theirs : List Note) → Type 0
AllActedOnAtClose role mine theirs =
    (life : ℕ) → EndedByPeer role life mine → acted role life mine ≡ sent (other_end role) life theirs

-- All that was sent in a life that the other's close ended was acted on.
abbrev pub AllActedOnAtEveryClose : Type 0
AllActedOnAtEveryClose = OnEachRun AllActedOnAtClose

-- All that the other sent in the life of a live end was acted on, where the end has taken all that the other put. So
-- it is as the end takes the other's connection.close, which stands after every frame put before it.
abbrev pub AllActedOnAtConnectionClose : Role → (mine theirs : List Note) → Type 0
AllActedOnAtConnectionClose role mine theirs =
    IsLive role mine → put_by theirs ≡ taken_by mine
    → acted role (lives role mine) mine ≡ sent (other_end role) (lives role mine) theirs

-- All that was sent in the life of a live end was acted on, where the end has taken all that the other put.
abbrev pub AllActedOnAtEveryConnectionClose : Type 0
AllActedOnAtEveryConnectionClose = OnEachRun AllActedOnAtConnectionClose

-- a content that an end takes comes at no moment at which the end has paused the other: none from where it took
-- flow-ok with active 0 in a life until it puts flow with active 1
abbrev pub TakesNoContentPaused : Role → (mine theirs : List Note) → Type 0
TakesNoContentPaused role mine theirs =
    (later : List Note) (kind : Kind) (frame : Frame) (before : List Note)
    → mine ≡ later ++ Took kind frame ∷ before → is_content kind ≡ true → pauses_other role before ≡ false

-- A content that an end takes comes at no moment at which the end has paused the other.
abbrev pub NoEndTakesContentPaused : Type 0
NoEndTakesContentPaused = OnEachRun TakesNoContentPaused

-- The same in plain words: before a content that an end takes, it took no flow-ok with active 0 after which came
-- neither an opening note nor a flow with active 1 that it put.
abbrev pub NoPauseBeforeContent : Role → (mine theirs : List Note) → Type 0
NoPauseBeforeContent role mine theirs =
    (later : List Note) (kind : Kind) (frame : Frame) (before : List Note)
    → mine ≡ later ++ Took kind frame ∷ before → is_content kind ≡ true → PausesOther role before → ⊥

-- Before a content that an end takes, it took no flow-ok with active 0 that still holds.
abbrev pub NoPauseBeforeAnyContent : Type 0
NoPauseBeforeAnyContent = OnEachRun NoPauseBeforeContent

-- from where the end puts close in a life, it acts on nothing of that life
abbrev pub ActsOnNothingAfterItsClose : Role → (mine : List Note) → Type 0
ActsOnNothingAfterItsClose role mine =
    (later : List Note) (frame : Frame) (before : List Note) → mine ≡ later ++ Put Close frame ∷ before
    → acted role (lives role before) mine ≡ acted role (lives role before) before

-- From where an end puts close in a life, it acts on nothing of that life.
abbrev pub NoEndActsAfterItsClose : Type 0
NoEndActsAfterItsClose = OnEachRun (λ role mine theirs. ActsOnNothingAfterItsClose role mine)

-- from where the end puts connection.close, it acts on nothing
abbrev pub ActsOnNothingAfterLeaving : Type 0
ActsOnNothingAfterLeaving =
    (role : Role) (mine : List Note)
    → (life : ℕ) (later before : List Note) → mine ≡ later ++ Leaving ∷ before
    → acted role life mine ≡ acted role life before

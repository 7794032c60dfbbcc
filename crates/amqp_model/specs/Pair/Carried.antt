-- What an end put and what it took on a channel, the oldest first, and to which life each frame belongs.
use Rattle.std.specs.Prelude.{Bool, true, false, cond, not, ◌&&◌, ℕ, List, [], ◌∷◌, ◌++◌, ◌==◌}
use Rattle.amqp_model.specs.Wire.Frame.{Frame}
use Rattle.amqp_model.specs.Wire.Notes.{Role, Kind, Note, Put, Took, is_message}
use Rattle.amqp_model.specs.History.States.{State}
use Rattle.amqp_model.specs.History.Lives.{lives, state, has_left}

-- a frame in flight, with what it is to the channel
pub data Carried : Type 0 where
  Carry : Kind → Frame → Carried

-- the frames that are messages
abbrev pub message_frames : List Carried → List Frame
message_frames [] = []
message_frames (Carry kind frame ∷ later) =
    cond (is_message kind) (frame ∷ message_frames later) (message_frames later)

abbrev pub put_by : List Note → List Carried
put_by [] = []
put_by (Put kind frame ∷ before) = put_by before ++ Carry kind frame ∷ []
put_by (_ ∷ before) = put_by before

abbrev pub taken_by : List Note → List Carried
taken_by [] = []
taken_by (Took kind frame ∷ before) = taken_by before ++ Carry kind frame ∷ []
taken_by (_ ∷ before) = taken_by before

-- a note put or taken, with its life: how many opening notes its end counts up to and with it
pub data NoteInLife : Type 0 where
  At : Kind → (life : ℕ) → Frame → NoteInLife

abbrev pub life_noted : NoteInLife → ℕ
life_noted (At kind life frame) = life

-- the notes put, each with its life
abbrev pub puts : Role → List Note → List NoteInLife
puts role [] = []
puts role (Put kind frame ∷ before) =
    puts role before ++ At kind (lives role (Put kind frame ∷ before)) frame ∷ []
puts role (_ ∷ before) = puts role before

-- the notes taken, each with its life
abbrev pub takes : Role → List Note → List NoteInLife
takes role [] = []
takes role (Took kind frame ∷ before) =
    takes role before ++ At kind (lives role (Took kind frame ∷ before)) frame ∷ []
takes role (_ ∷ before) = takes role before

abbrev pub state_is_open : State → Bool
state_is_open State.Open = true
state_is_open _ = false

-- what the end takes next it acts on: the channel is Open, and it has not put connection.close
abbrev pub acts_next : Role → List Note → Bool
acts_next role history = not (has_left history) && state_is_open (state role history)

-- The notes that the end took while it acted on what it takes, each with its life. A frame that it finds fault with,
-- after which nothing comes, is one of them: in a run there is none.
abbrev pub acted_takes : Role → List Note → List NoteInLife
acted_takes role [] = []
acted_takes role (Took kind frame ∷ before) =
    cond (acts_next role before)
    (acted_takes role before ++ At kind (lives role (Took kind frame ∷ before)) frame ∷ [])
    (acted_takes role before)
acted_takes role (_ ∷ before) = acted_takes role before

-- the frames of a life's messages
abbrev pub messages : ℕ → List NoteInLife → List Frame
messages life [] = []
messages life (At kind n frame ∷ later) =
    cond (is_message kind && (n == life)) (frame ∷ messages life later) (messages life later)

-- the frames that the end sent in a life, in order
abbrev pub sent : Role → ℕ → List Note → List Frame
sent role life history = messages life (puts role history)

-- the frames that the end acted on in a life, in order
abbrev pub acted : Role → ℕ → List Note → List Frame
acted role life history = messages life (acted_takes role history)
